use Rattle.std.proofs.Common.{◌≡◌, ◌+◌, ◌*◌, ◌++◌, take}
use Rattle.std.specs.List.{flat_map}
use Rattle.arrayvec.specs.ArrayVec.{array_vec_len}
use Rattle.tce_base.specs.Word.{word_bytes}
use Rattle.tce_array.proofs.head.push_words.Given as goal

abbrev pub invariant-loop-w : goal.invariant-loop-w
invariant-loop-w l = record {
  items : l.head.items ≡ l.fn.head.items ++ flat_map (word_bytes 8) (take l.w-index l.words);
  len : array_vec_len l.head ≡ array_vec_len l.fn.head + 8 * l.w-index;
}
