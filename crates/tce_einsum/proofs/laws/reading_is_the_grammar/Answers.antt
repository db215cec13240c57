use Rattle.tce_einsum.proofs.OneReading.{reading_is_the_grammar}
use Rattle.tce_einsum.proofs.laws.reading_is_the_grammar.Goals as goal

pub returns : goal.returns
returns c = reading_is_the_grammar
