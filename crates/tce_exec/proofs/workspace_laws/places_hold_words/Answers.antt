use Rattle.tce_exec.proofs.Holding.{places_hold_words}
use Rattle.tce_exec.proofs.workspace_laws.places_hold_words.Goals as goal

pub returns : goal.returns
returns c = places_hold_words
