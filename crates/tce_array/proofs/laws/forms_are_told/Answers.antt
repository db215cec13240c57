use Rattle.tce_array.proofs.FormOf.{form_of_file}
use Rattle.tce_array.proofs.laws.forms_are_told.Goals as goal

pub returns : goal.returns
returns c = form_of_file
