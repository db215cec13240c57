use Rattle.tce_spec.proofs.CutValues.{pieces_have_values as law}
use Rattle.tce_spec.proofs.cut_laws.pieces_have_values.Goals as goal

pub returns : goal.returns
returns c = law
