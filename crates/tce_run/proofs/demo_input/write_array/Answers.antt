use Rattle.std.proofs.Common.{◌≡◌, ◌∙◌, List, ℕ, subst, arith}
use Rattle.tce_outside.specs.Files.{others}
use Rattle.tce_run.proofs.DemoArrays.{written, goes_on}
use Rattle.tce_run.proofs.OtherFiles.{tensor_stays}
use Rattle.tce_job.specs.TensorFiles.{file_of}
use Rattle.tce_space.specs.Tiling.{Tiling}
use Rattle.tce_array.specs.declared.form.Form.TheVariants.{One}
use Rattle.tce_array.specs.Forms.{head_len, array_bytes}
use Rattle.tce_tools.specs.Demo.{demo_element}
use Rattle.tce_tools.specs.NoHalf.{LeavesNoHalfOf}
use Rattle.tce_run.proofs.demo_input.write_array.Goals as goal

pub returns-clause-written : goal.returns-clause-written
returns-clause-written g c =
    written c.args.spec.now c.args.t c.args.number c.as_str.result.now c.tensor.result.now.shape _ _ c.demo_array.result (c.as_str.ensures.value ∙ c.file_of-file.ensures) c.tensor.ensures.shape c.demo_array.ensures.made

pub returns-clause-seed : goal.returns-clause-seed
returns-clause-seed g c = goes_on c.tensor.result.now.shape c.args.number c.demo_array.result c.requires.number c.demo_array.ensures.last

pub returns-clause-others : goal.returns-clause-others
returns-clause-others g c =
    tensor_stays c.args.spec.now c.requires.spec c.args.t (omega (arith, c.requires.operand)) (g.D.Disk.files c.args.disk.now) (g.D.Disk.files c.demo_array.new.disk)
    (subst (λ (name : List ℕ). others name (g.D.Disk.files c.demo_array.new.disk) ≡ others name (g.D.Disk.files c.args.disk.now)) (c.as_str.ensures.value ∙ c.file_of-file.ensures) c.demo_array.ensures.others)

pub returns-clause-alone : goal.returns-clause-alone
returns-clause-alone g c =
    subst (λ (name : List ℕ). others name (g.D.Disk.files c.demo_array.new.disk) ≡ others name (g.D.Disk.files c.args.disk.now)) (c.as_str.ensures.value ∙ c.file_of-file.ensures) c.demo_array.ensures.others

pub returns-clause-no_half : goal.returns-clause-no_half
returns-clause-no_half g c =
    subst (λ (s : Tiling). LeavesNoHalfOf (file_of c.args.spec.now c.args.t) (head_len One s) (λ _. array_bytes s (demo_element s c.args.number)) (g.D.Disk.files c.args.disk.now) (g.D.Disk.files c.demo_array.new.disk)) c.tensor.ensures.shape
    (subst (λ (name : List ℕ). LeavesNoHalfOf name (head_len One c.tensor.result.now.shape) (λ _. array_bytes c.tensor.result.now.shape (demo_element c.tensor.result.now.shape c.args.number)) (g.D.Disk.files c.args.disk.now) (g.D.Disk.files c.demo_array.new.disk))
    (c.as_str.ensures.value ∙ c.file_of-file.ensures) c.demo_array.ensures.no_half)
