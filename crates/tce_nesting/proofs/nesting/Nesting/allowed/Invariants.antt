use Rattle.std.proofs.Common.{◌↔◌, drop}
use Rattle.tce_fusion.specs.Relation.{above}
use Rattle.tce_nesting.specs.Classes.{AllowsSet}
use Rattle.tce_nesting.proofs.Classes.{AllowsBeyond}
use Rattle.tce_nesting.proofs.nesting.Nesting.allowed.Given as goal

abbrev pub invariant-loop-class : goal.invariant-loop-class
invariant-loop-class l = AllowsSet (above l.class-items) l.fused ↔ AllowsBeyond l.fused l.reached (drop l.class-index l.class-items)
