use Rattle.std.proofs.Common.{◌≡◌, length, map, take}
use Rattle.tce_exec.specs.Nests.{sum_loop}
use Rattle.tce_exec.proofs.nest.fill_sum_loops.Given as goal

abbrev pub invariant-loop-d : goal.invariant-loop-d
invariant-loop-d l = record {
  count : length l.loops ≡ 10;
  made : take l.d l.loops ≡ map (sum_loop l.out l.operand) (take l.d l.axes);
}
