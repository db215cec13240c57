use Rattle.std.proofs.Common.{◌≡◌, ◌*◌, ◌<◌, ℕ, slice_index, drop}
use Rattle.tce_base.specs.Word.{word_of_bytes, widened}
use Rattle.tce_tools.proofs.transfer.decode_narrow.Given as goal

abbrev pub invariant-loop-k : goal.invariant-loop-k
invariant-loop-k l = (k : ℕ) → k < l.k → slice_index l.words k ≡ widened (word_of_bytes 4 (drop (4 * k) l.bytes))
