use Rattle.std.proofs.Common.{◌↔◌, drop}
use Rattle.tce_fusion.specs.Relation.{above, IsCoarser}
use Rattle.tce_nesting.proofs.nesting.Nesting.coarser.Given as goal

abbrev pub invariant-loop-outer : goal.invariant-loop-outer
invariant-loop-outer l = IsCoarser l.fn.loops (above l.outer-items) (above l.other) ↔ IsCoarser l.below (above (drop l.outer-index l.outer-items)) (above l.other)
