use Rattle.tce_space.proofs.Tilings.{word_number_injective, word_number-lt}
use Rattle.tce_space.proofs.Examples.{tiling_examples}
use Rattle.tce_space.proofs.shape.words_are_apart.Goals as goal

pub returns : goal.returns
returns c s t xs ys h k =
    let worked = tiling_examples in
    (word_number_injective s xs ys t.same_rank t.positive h k, word_number-lt s xs t.same_rank t.positive h)
