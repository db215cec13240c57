use Rattle.std.proofs.lemmas.Result.{err_from_is_err_and}
use Rattle.tce_einsum.proofs.path.read_path.Goals as goal

pub returns-in_err-parts : goal.returns-in_err-parts
returns-in_err-parts c = let p = err_from_is_err_and c.from_residual.result c.from_residual.ensures.1 in rw (p.1, p.2) tt
