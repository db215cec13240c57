use Rattle.tce_exec.proofs.States as states
use Rattle.tce_exec.proofs.operand_laws.places_have_their_words.Goals as goal

pub returns : goal.returns
returns c = states.places_have_their_words
