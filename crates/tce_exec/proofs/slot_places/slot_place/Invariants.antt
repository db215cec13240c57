use Rattle.std.proofs.Common.{◌≡◌}
use Rattle.tce_exec.proofs.Slots.{word_so_far}
use Rattle.tce_exec.proofs.slot_places.slot_place.Given as goal

abbrev pub invariant-loop-i : goal.invariant-loop-i
invariant-loop-i l = l.place ≡ word_so_far l.slot l.numbers l.i
