use Rattle.std.proofs.Common.{ℕ, List}
use Rattle.std.specs.List.{AllWithin}
use Rattle.tce_fusion.specs.Row.{Row}
use Rattle.tce_check.specs.Reach.{AreFloors, ReachesChoice}
use Rattle.tce_check.proofs.reach.reach_of.Given as goal

abbrev pub invariant-loop-choice : goal.invariant-loop-choice
invariant-loop-choice l =
    (outer : ℕ) (rows : List Row) → AreFloors outer rows l.floors → AllWithin (ReachesChoice outer rows (record { part = l.part; cost = l.cost })) l.choices 0 l.choice-index
