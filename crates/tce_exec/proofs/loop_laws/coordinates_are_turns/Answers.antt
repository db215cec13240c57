use Rattle.tce_exec.proofs.LoopPlaces as places
use Rattle.tce_exec.proofs.loop_laws.coordinates_are_turns.Goals as goal

pub returns : goal.returns
returns c = places.coordinates_are_turns
