use Rattle.tce_spec.proofs.CutValues.{piece_has_value as law}
use Rattle.tce_spec.proofs.cut_laws.piece_has_value.Goals as goal

pub returns : goal.returns
returns c = law
