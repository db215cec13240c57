use Rattle.tce_walk.proofs.PartLaws as laws
use Rattle.tce_walk.proofs.part_laws.parts_keep_words.Goals as goal

pub returns : goal.returns
returns c = laws.parts_keep_words
