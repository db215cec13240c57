use Rattle.std.proofs.Common.{◌≡◌, map, take}
use Rattle.tce_exec.specs.Nests.{with_len}
use Rattle.tce_exec.proofs.nest.have_lens.Given as goal

abbrev pub invariant-loop-d : goal.invariant-loop-d
invariant-loop-d l = take l.d l.axes ≡ map (with_len l.lens) (take l.d l.axes)
