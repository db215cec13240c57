use Rattle.std.specs.List.{AllWithin}
use Rattle.tce_fusion.specs.Relation.{above}
use Rattle.tce_fusion.specs.Row.{Row, StandsFor}
use Rattle.tce_check.proofs.groups.place_of.Given as goal

abbrev pub invariant-loop-place : goal.invariant-loop-place
invariant-loop-place l = AllWithin (λ (row : Row). StandsFor l.outer (above l.state.classes) l.state.cost row → ⊥) l.rows 0 l.place
