use Rattle.std.proofs.Common.{◌+◌, ◌≤◌, inr, sym, subst, arith}
use Rattle.std.proofs.lemmas.Bool.{both_ways}
use Rattle.tce_check.specs.declared.parts.PartCost.{PartCost}
use Rattle.tce_check.specs.Reach.{IsFloor, ReachesChoice}
use Rattle.tce_check.proofs.Firsts.{one_more, all_read}
use Rattle.tce_check.proofs.Reaches.{all_more, reached_within, reached_around, kept_floor}
use Rattle.tce_check.proofs.reach.reach_of.Goals.{then-within, else-within+then-within-2}
use Rattle.tce_check.proofs.reach.reach_of.Goals as goal

pub loop-choice-preserved-else-within-2 : goal.loop-choice-preserved-else-within-2
loop-choice-preserved-else-within-2 c outer rows are =
    let reach : PartCost = record { part = c.args.part; cost = c.loop-choice.cost } in
    one_more (ReachesChoice outer rows reach) c.args.choices.now c.loop-choice.choice-index c.choice-item.result c.loop-choice-test.true c.choice-item.is
    (c.loop-choice.invariant outer rows are) (inr (inr (
      λ within. both_ways c.within.result c.if-within.false (c.within.ensures.1 within),
      λ around. both_ways c.within-else-within.result c.if-within-2.false (c.within-else-within.ensures.1 around),
    )))

pub loop-choice-preserved : goal.loop-choice-preserved
loop-choice-preserved c outer rows are =
    let part = c.args.part in
    let choice = c.choice-item.result in
    let floors = c.args.floors.now in
    let reach : PartCost = record { part = part; cost = c.max-cost.result } in
    let low : c.if-within.floor ≤ c.max-cost.result + choice.size = omega (arith, c.max-cost.ensures, c.saturating_sub.ensures) in
    let before = all_more outer rows part c.loop-choice.cost c.max-cost.result c.loop-choice.choice-index c.args.choices.now (omega (arith, c.max-cost.ensures)) (c.loop-choice.invariant outer rows are) in
    let here : ReachesChoice outer rows reach choice = elim c.if-within.branch [
      | then-within w ↦
          reached_within outer rows reach choice c.if-within.floor (c.within.ensures.0 w.if-within.true) low
          (subst (IsFloor outer rows choice.fused) (sym w.floor-is) (kept_floor outer rows choice.fused w.cost_at-floor.result floors are w.cost_at-floor.ensures))
      | else-within+then-within-2 w ↦
          reached_around outer rows reach choice c.if-within.floor (w.within-else-within.ensures.0 w.if-within-2.true) low
          (subst (IsFloor outer rows part) (sym w.floor-is) (kept_floor outer rows part c.cost_at-own.result floors are c.cost_at-own.ensures))
    ] in
    one_more (ReachesChoice outer rows reach) c.args.choices.now c.loop-choice.choice-index choice c.loop-choice-test.true c.choice-item.is before here

pub returns : goal.returns
returns c outer rows are =
    all_read (ReachesChoice outer rows (record { part = c.args.part; cost = c.loop-choice.cost })) c.args.choices.now c.loop-choice.choice-index
    (omega (arith, c.loop-choice-test.false, c.loop-choice.auto.choice-index-end)) (c.loop-choice.invariant outer rows are)
