use Rattle.tce_einsum.proofs.ProducedTexts.{examples_produce_their_texts}
use Rattle.tce_einsum.proofs.laws.examples_produce_their_texts.Goals as goal

pub returns : goal.returns
returns c = examples_produce_their_texts
