use Rattle.std.proofs.Common.{◌≡◌, ◌+◌, ◌++◌, length, take}
use Rattle.arrayvec.specs.ArrayVec.{array_vec_len}
use Rattle.tce_exec.proofs.term_plan.push_numbers.Given as goal

abbrev pub invariant-loop-number : goal.invariant-loop-number
invariant-loop-number l = record {
  items_are : l.list.items ≡ l.fn.list.items ++ take l.number-index l.more;
  count : array_vec_len l.list ≡ length l.fn.list.items + l.number-index;
}
