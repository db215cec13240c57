use Rattle.std.proofs.Common.{◌≡◌, ◌∙◌, ap, ap₂, sym, slice_index, []}
use Rattle.tce_base.specs.Word.{wrapping_add, wrapping_mul}
use Rattle.tce_block.specs.Places.{word_place}
use Rattle.tce_block.specs.Turns.{turned, turn_word}
use Rattle.tce_block.proofs.Innermost.{made_once, no_step}
use Rattle.tce_block.proofs.runs.turn_once.Goals as goal
use Rattle.tce_block.proofs.runs.turn_once.Goals.{in-Grow, in-Compute}

word : (c : goal.After-put) → c.match-turn.word ≡ turn_word c.args.turn (slice_index c.args.words.now c.args.out) c.get-left.result c.get-right.result
unfolding wrapping_add wrapping_mul
word c =
    elim c.match-turn.branch [
      | in-Grow w ↦
          w.word-is ∙ ap (λ x. wrapping_add x (wrapping_mul c.get-left.result c.get-right.result)) w.get.ensures
          ∙ ap (λ turn. turn_word turn (slice_index c.args.words.now c.args.out) c.get-left.result c.get-right.result) (sym w.in-Grow.is)
      | in-Compute w ↦
          w.word-is ∙ w.result_of-word.ensures
          ∙ ap (λ turn. turn_word turn (slice_index c.args.words.now c.args.out) c.get-left.result c.get-right.result) (sym w.in-Compute.is)
    ]

pub returns : goal.returns
returns c =
    let old = c.args.words.now in
    made_once (turned c.args.turn old (word_place c.args.left []) (word_place c.args.right [])) c.args.out c.match-turn.word old c.put.new.self c.requires.out c.put.ensures
    (word c
    ∙ ap₂ (turn_word c.args.turn (slice_index old c.args.out)) (c.get-left.ensures ∙ ap (slice_index old) (no_step c.args.left)) (c.get-right.ensures ∙ ap (slice_index old) (no_step c.args.right)))
