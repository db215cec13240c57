use Rattle.tests_search.proofs.WorkedPiece.{worked_pieces, worked_specifications}
use Rattle.tests_search.proofs.pieces.worked_pieces.Goals as goal

pub returns : goal.returns
returns c = record { pieces = worked_pieces; specifications = worked_specifications }
