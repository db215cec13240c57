use Rattle.std.proofs.Common.{◌≡◌, take}
use Rattle.tce_exec.proofs.plan.copied.Given as goal

abbrev pub invariant-loop-index : goal.invariant-loop-index
invariant-loop-index l = l.copy.items ≡ take l.index-index l.loops
