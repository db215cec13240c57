use Rattle.std.proofs.Common.{◌⊎◌, inl, inr, sym, subst, arith}
use Rattle.std.proofs.lemmas.List.Elements.{AllWithin-more_set}
use Rattle.tce_check.specs.declared.parts.PartCost.{PartCost}
use Rattle.tce_check.specs.Reach.{IsNoCost, ReachesAll}
use Rattle.tce_check.proofs.reach.fill.Goals.{in-Some, in-None}
use Rattle.tce_check.proofs.reach.fill.Goals as goal

pub loop-place-preserved : goal.loop-place-preserved
loop-place-preserved c =
    let Put = λ (reach : PartCost). IsNoCost reach ⊎ ReachesAll c.args.floors.now c.args.choices.now reach in
    let next : Put c.match-get.reaches = elim c.match-get.branch [
      | in-Some w ↦ subst Put (sym w.reaches-is) (inr w.reach_of.ensures)
      | in-None w ↦ subst Put (sym w.reaches-is) (inl w.none.ensures)
    ] in
    AllWithin-more_set c.loop-place.reaches c.loop-place.place c.match-get.reaches (omega (arith, c.loop-place-test.true, c.loop-place.auto.reaches)) Put c.loop-place.invariant next
