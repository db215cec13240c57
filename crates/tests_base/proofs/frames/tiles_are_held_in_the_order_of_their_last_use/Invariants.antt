use Rattle.std.proofs.Common.{◌≡◌, ◌<◌}
use Rattle.tests_base.proofs.frames.tiles_are_held_in_the_order_of_their_last_use.Given as goal

abbrev pub invariant-loop-array : goal.invariant-loop-array
invariant-loop-array g l = (0 < l.table.frames) × (l.table.arrays ≡ 3)

abbrev pub invariant-loop-place : goal.invariant-loop-place
invariant-loop-place g l =
    (goal.iterator-loop-place g).can_next l.place-iterator
    × (goal.iterator-loop-place g).is_finite l.place-iterator
    × (l.table.arrays ≡ 3)
