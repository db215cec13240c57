use Rattle.std.proofs.Common.{◌≡◌, take}
use Rattle.arrayvec.specs.ArrayVec.{array_vec_len}
use Rattle.tce_block.specs.Grouped.{shifted}
use Rattle.tce_block.proofs.groups.shifted_numbers.Given as goal

abbrev pub invariant-loop-d : goal.invariant-loop-d
invariant-loop-d l = record {
  numbers : l.shifted.items ≡ take l.d (shifted l.from l.numbers);
  long : array_vec_len l.shifted ≡ l.d;
}
