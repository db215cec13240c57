use Rattle.std.proofs.Common.{◌∙◌, ap, set}
use Rattle.std.proofs.lemmas.List.Edits.{fill_none, fill_more}
use Rattle.tce_block.proofs.blocks.clear.Goals as goal

pub loop-d-init : goal.loop-d-init
loop-d-init c = fill_none c.args.numbers.now 0

pub loop-d-preserved : goal.loop-d-preserved
loop-d-preserved c = ap (λ xs. set xs c.loop-d.d 0) c.loop-d.invariant ∙ fill_more c.loop-d.d 0 c.args.numbers.now c.loop-d-test.true
