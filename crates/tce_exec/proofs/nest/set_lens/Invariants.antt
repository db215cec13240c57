use Rattle.std.proofs.Common.{◌≡◌, ◌≤◌, ℕ, length, map, take, slice_get}
use Rattle.tce_exec.specs.Nests.{with_len}
use Rattle.tce_exec.proofs.nest.set_lens.Given as goal

abbrev pub invariant-loop-d : goal.invariant-loop-d
invariant-loop-d l = record {
  count : length l.axes ≡ length l.fn.axes;
  front : take l.d l.axes ≡ map (with_len l.lens) (take l.d l.fn.axes);
  back : (k : ℕ) → l.d ≤ k → slice_get l.axes k ≡ slice_get l.fn.axes k;
}
