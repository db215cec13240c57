use Rattle.std.proofs.Common.{refl, sym, subst, arith, ap}
use Rattle.std.proofs.lemmas.Bool.{false≢true, both_ways}
use Rattle.std.proofs.lemmas.List.Elements.{AllWithin-more, at_read}
use Rattle.tce_fusion.specs.Relation.{above}
use Rattle.tce_fusion.specs.Row.{Row}
use Rattle.tce_search.specs.declared.groups.Entry.{Entry}
use Rattle.tce_search.specs.Groups.{StandsAt}
use Rattle.tce_search.proofs.Grouping.{none_behind}
use Rattle.tce_search.proofs.candidate_list.group_covers.Goals as goal

pub loop-entry-preserved : goal.loop-entry-preserved
loop-entry-preserved c =
    let sought = c.args.sought.now in
    let group = c.args.group.now in
    let stands = StandsAt sought.outer (above sought.state.now.classes) sought.state.now.cost sought.marks c.args.candidates.now in
    AllWithin-more (λ (entry : Entry). stands entry → ⊥) group 0 c.loop-entry.entry-index c.loop-entry.invariant
    (at_read group (λ (entry : Entry). stands entry → ⊥) c.loop-entry.entry-index c.entry-item.result c.loop-entry-test.true c.entry-item.is
    (λ h. both_ways c.stands_at.result c.if-stands_at.false (c.stands_at.ensures.1 h)))

pub returns-then-state-entry : goal.returns-then-state-entry
returns-then-state-entry c =
    let sought = c.args.sought.now in
    let state = sought.state.now in (
      λ h. absurd (false≢true h),
      λ found. absurd (none_behind sought.outer (above state.classes) state.cost sought.marks c.args.candidates.now c.args.group.now c.loop-entry.entry-index c.entry-item.result c.requires
          c.loop-entry-test.true c.entry-item.is (omega (arith, c.if-state-entry.true, ap (λ (s : Row). s.cost) c.state.view_is)) c.loop-entry.invariant found),
    )

pub returns-then-stands_at : goal.returns-then-stands_at
returns-then-stands_at c = (
  λ _. (c.loop-entry.entry-index, c.entry-item.result, c.loop-entry-test.true, sym c.entry-item.is, c.stands_at.ensures.0 c.if-stands_at.true),
  λ _. refl,
)

pub returns : goal.returns
returns c =
    let sought = c.args.sought.now in
    let stands = StandsAt sought.outer (above sought.state.now.classes) sought.state.now.cost sought.marks c.args.candidates.now in (
      λ h. absurd (false≢true h),
      λ found. absurd (c.loop-entry.invariant found.0 found.1 (omega arith) (omega (arith, found.2, c.loop-entry-test.false)) (subst stands (sym found.3) found.4)),
    )
