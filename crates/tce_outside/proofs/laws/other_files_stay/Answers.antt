use Rattle.tce_outside.proofs.Told.{other_files}
use Rattle.tce_outside.proofs.laws.other_files_stay.Goals as goal

pub returns : goal.returns
returns c = other_files
