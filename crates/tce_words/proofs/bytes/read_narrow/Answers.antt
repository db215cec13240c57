use Rattle.std.proofs.Common.{◌≢◌, ◌*◌, ◌-◌, drop, length, length-drop, ap, ◌∙◌, arith, below_more, get_or-set_other, get_or-set_same}
use Rattle.std.proofs.lemmas.List.{take_all}
use Rattle.tce_base.specs.Word.{word_of_bytes, widened}
use Rattle.tce_words.proofs.bytes.read_narrow.Goals as goal

pub loop-k-preserved : goal.loop-k-preserved
loop-k-preserved c =
    let bytes = c.args.bytes.now in let k = c.loop-k.k in
    below_more _ _
    (λ j lt. let ne : j ≢ k = omega arith in rw get_or-set_other (c.loop-k.invariant j lt))
    (get_or-set_same c.loop-k.words k c.narrow_word.result 0 (omega arith)
    ∙ c.narrow_word.ensures
    ∙ ap (λ piece. widened (word_of_bytes 4 piece)) (take_all (length bytes - 4 * k) (drop (4 * k) bytes) (omega (arith, length-drop (4 * k) bytes))))
