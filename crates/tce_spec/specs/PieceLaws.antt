-- A law of the specifications of pieces and their values.
use Rattle.std.specs.Prelude.{◌≡◌, ℕ, ◌<◌, IsTrue, List, length, slice_index}
use Rattle.tce_space.specs.Limits.{max_indexes, max_tensors}
use Rattle.tce_tree.specs.ContractionTree.{operations, node, node_dims}
use Rattle.tce_tree.specs.WellFormed.{indexes_below}
use Rattle.tce_tree.specs.Value.{Assignment, Elements, IsInExtents, value}
use Rattle.tce_spec.specs.Pieces.{Cuts, piece, tensors_below}
use Rattle.tce_spec.specs.CutLaws.{HoldNodes}
use Rattle.tce_spec.specs.Specification.{Specification}
use Rattle.tce_spec.specs.PieceSpecification.{sources, piece_of}

-- the elements of the piece's own tensors are those of the tensors and arrays that it reads
pub record HaveSources (own files : Elements) (s : Specification) (cut : Cuts) (v : ℕ) : Type 0 where
  pub extents : (i : ℕ) → own.extent i ≡ files.extent i
  pub cells : (k : ℕ) (coords : List ℕ) → k < length (sources s cut v) → own.cell k coords ≡ files.cell (slice_index (sources s cut v) k) coords

-- the value of the specification of a piece is that of the piece, and, over files with the arrays of the cut nodes, that of its node
pub record PieceSpecificationHasValue : Type 0 where
  pub of_piece : (own files : Elements) (s : Specification) (cut : Cuts) (v : ℕ) (a : Assignment) → HaveSources own files s cut v
      → value own (piece_of s cut v).tree a ≡ value files (piece s.tree cut v) a
  pub of_node : (own files e : Elements) (s : Specification) (cut : Cuts) (v : ℕ) (a : Assignment) → HaveSources own files s cut v
      → IsTrue (indexes_below max_indexes s.tree) → IsTrue (tensors_below max_tensors s.tree) → HoldNodes files e s.tree cut → v < operations s.tree
      → IsInExtents e (node_dims s.tree v) a → value own (piece_of s cut v).tree a ≡ value e (node s.tree v) a
