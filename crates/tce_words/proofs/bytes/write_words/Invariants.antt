use Rattle.std.proofs.Common.{◌≡◌, ◌*◌}
use Rattle.std.specs.List.{flat_map}
use Rattle.tce_base.specs.Word.{word_bytes}
use Rattle.tce_kernel.proofs.Blocks.{done_to}
use Rattle.tce_words.proofs.bytes.write_words.Given as goal

abbrev pub invariant-loop-block : goal.invariant-loop-block
invariant-loop-block l = l.bytes ≡ done_to (8 * (4 * l.block)) (flat_map (word_bytes 8) l.words) l.fn.bytes
