use Rattle.std.proofs.Common.{◌≡◌, length, map, take}
use Rattle.tce_exec.specs.Nests.{pair_loop}
use Rattle.tce_exec.proofs.nest.fill_pair_loops.Given as goal

abbrev pub invariant-loop-d : goal.invariant-loop-d
invariant-loop-d l = record {
  count : length l.loops ≡ 10;
  made : take l.d l.loops ≡ map (pair_loop l.out l.left l.right) (take l.d l.axes);
}
