use Rattle.std.proofs.Common.{◌≡◌, take}
use Rattle.tce_sym.proofs.opening.first_difference.Given as goal

abbrev pub invariant-loop-i : goal.invariant-loop-i
invariant-loop-i l = take l.i l.found ≡ take l.i l.expected
