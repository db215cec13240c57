use Rattle.std.proofs.Common.{◌∙◌, sym}
use Rattle.tce_outside.specs.Files.{file}
use Rattle.tce_tools.proofs.Forms.{opened_is}
use Rattle.tests_files.proofs.tools.form_and_sum.Goals as goal

pub cell_sum-requires : goal.cell_sum-requires
cell_sum-requires g c x told = opened_is c.args.shape.now c.in-Ok-open.form (file x c.args.name.now) (c.in-Ok-open.ensures.form x (sym c.in-Ok-open.ensures.same ∙ told))
