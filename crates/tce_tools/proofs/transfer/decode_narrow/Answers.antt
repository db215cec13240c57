use Rattle.std.proofs.Common.{◌∙◌, ◌*◌, ap, arith}
use Rattle.std.proofs.lemmas.List.{take_rest}
use Rattle.byteorder.proofs.Slices.{read_step}
use Rattle.tce_base.specs.Word.{word_of_bytes, widened}
use Rattle.tce_tools.proofs.transfer.decode_narrow.Goals as goal

pub loop-k-preserved : goal.loop-k-preserved
unfolding word_of_bytes
loop-k-preserved c =
    read_step (λ bs. widened (word_of_bytes 4 bs)) 4 c.args.bytes.now c.loop-k.words 0 c.loop-k.k c.widened.result (omega arith)
    (c.widened.ensures ∙ ap widened (c.read_u32.ensures ∙ ap (word_of_bytes 4) (take_rest c.args.bytes.now (4 * c.loop-k.k)))) c.loop-k.invariant
