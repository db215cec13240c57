use Rattle.std.proofs.Common.{◌≡◌, ◌*◌, ◌-◌, ◌∙◌, arith, length, drop, sym}
use Rattle.std.proofs.lemmas.List.{take_all}
use Rattle.tce_tools.proofs.Pieces.{low_words, low_more}
use Rattle.tce_tools.proofs.transfer.encode_narrow.Goals as goal

pub loop-k-preserved : goal.loop-k-preserved
loop-k-preserved c =
    let len = c.loop-k.auto.bytes in
    low_more c.args.words.now c.loop-k.bytes _ c.write_u32.new.buf (drop (length c.loop-k.bytes - 4 * c.loop-k.k) (drop (4 * c.loop-k.k) c.loop-k.bytes)) c.loop-k.k (omega arith) (omega arith) c.write_u32.ensures c.loop-k.invariant

pub returns : goal.returns
returns c =
    let len = c.loop-k.auto.bytes in
    let done : c.loop-k.k ≡ length c.args.words.now = omega arith in
    sym (take_all (4 * c.loop-k.k) c.loop-k.bytes (omega arith)) ∙ rw (take_all c.loop-k.k c.args.words.now (omega arith)) at c.loop-k.invariant ∙ low_words c.args.words.now
