use Rattle.std.proofs.Common.{◌∙◌, ap}
use Rattle.tce_spec.specs.Operands.{shape_of}
use Rattle.tce_job.specs.TensorFiles.{file_of}
use Rattle.tce_run.proofs.DemoRan.{summed}
use Rattle.tce_run.proofs.demo_sum.result_sum.Goals as goal

pub returns-clause-sum : goal.returns-clause-sum
returns-clause-sum g c =
    summed c.cell_sum.result _ c.args.spec.now c.tensor.result.now.shape c.as_str.result.now (c.tensor.ensures.shape ∙ ap (shape_of c.args.spec.now) c.result.ensures.tensor)
    (c.as_str.ensures.value ∙ c.file_of-file.ensures ∙ ap (file_of c.args.spec.now) c.result.ensures.tensor) c.cell_sum.ensures.sum
