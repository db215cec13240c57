use Rattle.std.proofs.Common.{◌≡◌, ◌∙◌, sym, ap, arith, eqb-true, eq-eqb}
use Rattle.tce_space.specs.IndexSet.{has}
use Rattle.tce_space.proofs.IndexSetLaws.{has-empty, same_set}
use Rattle.tce_nesting.proofs.nesting.is_empty.Goals as goal

pub returns-clause-none : goal.returns-clause-none
returns-clause-none c = (
  (λ zero i.
      let set : c.args.set ≡ 0 = sym c.bits.ensures.value ∙ eqb-true c.bits.result 0 zero in
      ap (λ s. has s i) set ∙ has-empty i),
  (λ none. eq-eqb c.bits.result 0 (c.bits.ensures.value ∙ same_set c.args.set 0 c.bits.ensures.bounded (omega arith) (λ i _. none i ∙ sym (has-empty i)))),
)
