use Rattle.std.proofs.Common.{ℕ, refl, sym, subst, arith}
use Rattle.std.proofs.lemmas.Bool.{false≢true, both_ways}
use Rattle.std.proofs.lemmas.List.Elements.{AllWithin-more, at_read}
use Rattle.tce_fusion.specs.Relation.{above}
use Rattle.tce_search.specs.Groups.{PairStands}
use Rattle.tce_search.proofs.candidate_list.some_pair_covers.Goals as goal

pub loop-under-preserved : goal.loop-under-preserved
loop-under-preserved c =
    let sought = c.args.sought.now in
    let stands = PairStands sought.outer (above sought.state.now.classes) sought.state.now.cost sought.marks c.args.groups.now c.args.candidates.now sought.parts.now c.args.part in
    AllWithin-more (λ (under : ℕ). stands under → ⊥) sought.parts.now 0 c.loop-under.under-index c.loop-under.invariant
    (at_read sought.parts.now (λ (under : ℕ). stands under → ⊥) c.loop-under.under-index c.under-item.result c.loop-under-test.true c.under-item.is
    (λ h. both_ways c.pair_covers.result c.if-pair_covers.false (c.pair_covers.ensures.1 h)))

pub returns-then-pair_covers : goal.returns-then-pair_covers
returns-then-pair_covers c = (
  λ _. (c.loop-under.under-index, c.under-item.result, c.loop-under-test.true, sym c.under-item.is, c.pair_covers.ensures.0 c.if-pair_covers.true),
  λ _. refl,
)

pub returns : goal.returns
returns c =
    let sought = c.args.sought.now in
    let stands = PairStands sought.outer (above sought.state.now.classes) sought.state.now.cost sought.marks c.args.groups.now c.args.candidates.now sought.parts.now c.args.part in (
      λ h. absurd (false≢true h),
      λ found. absurd (c.loop-under.invariant found.0 found.1 (omega arith) (omega (arith, found.2, c.loop-under-test.false)) (subst stands (sym found.3) found.4)),
    )
