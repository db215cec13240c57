-- The worked pieces, computed by the definitions.
use Rattle.std.proofs.Common.{refl}
use Rattle.std.specs.Fmt.{digits}
use Rattle.tce_space.specs.IndexSet.{has, union, minus, with_index, members}
use Rattle.tce_tree.specs.ContractionTree.{node, node_dims}
use Rattle.tce_tree.specs.FlatTree.{first_number_of}
use Rattle.tce_spec.specs.Pieces.{piece}
use Rattle.tce_spec.specs.CutExamples.{WorkedPieces}
use Rattle.tce_spec.specs.PieceExamples.{WorkedSpecifications}

pub worked_pieces : WorkedPieces
unfolding node node_dims first_number_of piece union minus with_index members has
worked_pieces = record {
  whole = refl;
  second = refl;
  above_second = refl;
  above_both = refl;
  storable_sums = refl;
  not_storable = refl;
  large = refl;
  too_large = refl;
}

pub worked_specifications : WorkedSpecifications
unfolding node node_dims first_number_of piece union minus with_index members has digits
worked_specifications = record { second = refl; above_second = refl }
