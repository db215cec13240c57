-- The texts of the examples.
use Rattle.std.proofs.Common.{refl}
use Rattle.std.specs.Fmt.{digits}
use Rattle.tce_einsum.specs.ProducedExamples.{ExamplesProduceTheirTexts}

pub examples_produce_their_texts : ExamplesProduceTheirTexts
unfolding digits
examples_produce_their_texts = ((refl, refl), ((refl, refl), ((refl, refl), tt)))
