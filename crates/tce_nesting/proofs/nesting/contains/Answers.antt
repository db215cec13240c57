use Rattle.std.proofs.Common.{◌∙◌, sym}
use Rattle.std.proofs.lemmas.Bool.{le-ltb}
use Rattle.tce_space.proofs.IndexSetLaws.{has-beyond}
use Rattle.tce_nesting.proofs.nesting.contains.Goals as goal

pub returns-else-index : goal.returns-else-index
returns-else-index c =
    le-ltb c.args.index 24 c.if-index.false ∙ sym (has-beyond c.args.set c.args.index c.bits-number.ensures.bounded c.if-index.false)
