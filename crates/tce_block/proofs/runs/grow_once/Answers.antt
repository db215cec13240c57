use Rattle.std.proofs.Common.{◌∙◌, ap, ap₂, slice_index, []}
use Rattle.tce_base.specs.Word.{wrapping_add}
use Rattle.tce_block.specs.Places.{word_place}
use Rattle.tce_block.specs.Turns.{grown}
use Rattle.tce_block.proofs.Innermost.{made_once, no_step}
use Rattle.tce_block.proofs.runs.grow_once.Goals as goal

pub returns : goal.returns
unfolding wrapping_add
returns c =
    made_once (grown c.args.words.now (word_place c.args.operand [])) c.args.out (wrapping_add c.get.result c.get-2.result) c.args.words.now c.put.new.self c.requires.out c.put.ensures
    (ap₂ wrapping_add c.get.ensures (c.get-2.ensures ∙ ap (slice_index c.args.words.now) (no_step c.args.operand)))
