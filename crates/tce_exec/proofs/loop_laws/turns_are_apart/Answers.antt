use Rattle.tce_exec.proofs.LoopPlaces as places
use Rattle.tce_exec.proofs.loop_laws.turns_are_apart.Goals as goal

pub returns : goal.returns
returns c = places.turns_are_apart
