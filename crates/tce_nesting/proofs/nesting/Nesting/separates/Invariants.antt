use Rattle.std.proofs.Common.{◌↔◌, drop}
use Rattle.tce_fusion.specs.Relation.{above}
use Rattle.tce_nesting.specs.Classes.{AllAbove}
use Rattle.tce_nesting.proofs.nesting.Nesting.separates.Given as goal

abbrev pub invariant-loop-class : goal.invariant-loop-class
invariant-loop-class l = AllAbove (above l.class-items) l.fn.upper l.lower ↔ AllAbove (above (drop l.class-index l.class-items)) l.waiting l.lower
