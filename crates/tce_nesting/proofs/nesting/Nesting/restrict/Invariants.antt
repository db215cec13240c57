use Rattle.std.proofs.Common.{◌≡◌, take}
use Rattle.tce_nesting.specs.Classes.{restricted}
use Rattle.tce_nesting.proofs.nesting.Nesting.restrict.Given as goal

abbrev pub invariant-loop-class : goal.invariant-loop-class
invariant-loop-class l = l.kept ≡ restricted (take l.class-index l.class-items) l.fused
