use Rattle.tce_sym.proofs.StoredPlaces.{places_are_theirs}
use Rattle.tce_sym.proofs.laws.stored_places_are_theirs.Goals as goal

pub returns : goal.returns
returns c = places_are_theirs
