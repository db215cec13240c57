use Rattle.std.proofs.Common.{◌⊎◌}
use Rattle.std.specs.List.{AllWithin}
use Rattle.tce_check.specs.declared.parts.PartCost.{PartCost}
use Rattle.tce_check.specs.Reach.{IsNoCost, ReachesAll}
use Rattle.tce_check.proofs.reach.fill.Given as goal

abbrev pub invariant-loop-place : goal.invariant-loop-place
invariant-loop-place l = AllWithin (λ (reach : PartCost). IsNoCost reach ⊎ ReachesAll l.floors l.choices reach) l.reaches 0 l.place
