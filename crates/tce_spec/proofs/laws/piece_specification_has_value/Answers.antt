use Rattle.tce_spec.proofs.PieceValues.{piece_specification_has_value as law}
use Rattle.tce_spec.proofs.laws.piece_specification_has_value.Goals as goal

pub returns : goal.returns
returns c = law
