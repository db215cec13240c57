use Rattle.std.proofs.Common.{ℕ, refl, sym, subst, arith}
use Rattle.std.proofs.lemmas.Bool.{false≢true, both_ways}
use Rattle.std.proofs.lemmas.List.Elements.{AllWithin-more, at_read}
use Rattle.tce_fusion.specs.Relation.{above}
use Rattle.tce_search.specs.Groups.{PartStands}
use Rattle.tce_search.proofs.candidate_list.some_group_covers.Goals as goal

pub loop-part-preserved : goal.loop-part-preserved
loop-part-preserved c =
    let sought = c.args.sought.now in
    let stands = PartStands sought.outer (above sought.state.now.classes) sought.state.now.cost sought.marks c.args.groups.now c.args.candidates.now sought.parts.now in
    AllWithin-more (λ (part : ℕ). stands part → ⊥) sought.parts.now 0 c.loop-part.part-index c.loop-part.invariant
    (at_read sought.parts.now (λ (part : ℕ). stands part → ⊥) c.loop-part.part-index c.part-item.result c.loop-part-test.true c.part-item.is
    (λ h. both_ways c.part_covers.result c.if-part_covers.false (c.part_covers.ensures.1 h)))

pub returns-then-part_covers : goal.returns-then-part_covers
returns-then-part_covers c = (
  λ _. (c.loop-part.part-index, c.part-item.result, c.loop-part-test.true, sym c.part-item.is, c.part_covers.ensures.0 c.if-part_covers.true),
  λ _. refl,
)

pub returns : goal.returns
returns c =
    let sought = c.args.sought.now in
    let stands = PartStands sought.outer (above sought.state.now.classes) sought.state.now.cost sought.marks c.args.groups.now c.args.candidates.now sought.parts.now in (
      λ h. absurd (false≢true h),
      λ found. absurd (c.loop-part.invariant found.0 found.1 (omega arith) (omega (arith, found.2, c.loop-part-test.false)) (subst stands (sym found.3) found.4)),
    )
