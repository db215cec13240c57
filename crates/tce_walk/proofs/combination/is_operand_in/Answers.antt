use Rattle.std.proofs.Common.{sym, ap, ◌∙◌}
use Rattle.tce_space.specs.IndexSet.{has}
use Rattle.tce_walk.proofs.combination.is_operand_in.Goals as goal

pub returns-in-Some-Some : goal.returns-in-Some-Some
returns-in-Some-Some c = λ t. record {
  operand_is = c.in-Some-Some.ensures.operand_is;
  inside = λ i m. sym (c.in-Some-Some.ensures'.inside i) ∙ c.within.ensures.0 t i (ap (λ n. has n i) (sym c.in-Some-Some.ensures.dims_are) ∙ m);
}
