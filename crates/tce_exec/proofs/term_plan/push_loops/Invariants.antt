use Rattle.std.proofs.Common.{◌≡◌, ◌+◌, ◌++◌, length, take}
use Rattle.arrayvec.specs.ArrayVec.{array_vec_len}
use Rattle.tce_exec.proofs.term_plan.push_loops.Given as goal

abbrev pub invariant-loop-index : goal.invariant-loop-index
invariant-loop-index l = record {
  items_are : l.loops.items ≡ l.fn.loops.items ++ take l.index-index l.more;
  count : array_vec_len l.loops ≡ length l.fn.loops.items + l.index-index;
}
