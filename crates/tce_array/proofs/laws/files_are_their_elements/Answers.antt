use Rattle.tce_array.proofs.Told.{told_by_elements}
use Rattle.tce_array.proofs.laws.files_are_their_elements.Goals as goal

pub returns : goal.returns
returns c = told_by_elements
