use Rattle.std.proofs.lemmas.Result.{IfOk-from_err}
use Rattle.tce_einsum.proofs.lines.print_ranges.Goals as goal

pub returns-in_err-print_range : goal.returns-in_err-print_range
returns-in_err-print_range c = IfOk-from_err c.from_residual.result _ c.from_residual.ensures.0
