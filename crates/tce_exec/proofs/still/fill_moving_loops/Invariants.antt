use Rattle.std.proofs.Common.{◌≡◌, ◌≤◌, length, map, take, filter, sum_by}
use Rattle.tce_exec.specs.Nests.{moves, pair_loop, advanced}
use Rattle.tce_exec.proofs.still.fill_moving_loops.Given as goal

abbrev pub invariant-loop-axis : goal.invariant-loop-axis
invariant-loop-axis l = record {
  room : length l.loops ≡ 10;
  few : l.count ≤ l.axis-index;
  made : take l.count l.loops ≡ map (pair_loop l.out l.operands.left.now l.operands.right.now) (filter (moves l.out) (take l.axis-index l.axes));
  left_at : l.left_moved ≡ sum_by (advanced l.out l.operands.left.now) (take l.axis-index l.axes);
  right_at : l.right_moved ≡ sum_by (advanced l.out l.operands.right.now) (take l.axis-index l.axes);
}
