-- Laws of pieces and their values.
use Rattle.std.specs.Prelude.{◌≡◌, ℕ, ◌<◌, IsTrue, List, map}
use Rattle.tce_space.specs.Limits.{max_indexes, max_tensors}
use Rattle.tce_base.specs.Word.{word}
use Rattle.tce_space.specs.IndexSet.{members}
use Rattle.tce_space.specs.Box.{IsInside}
use Rattle.tce_tree.specs.ContractionTree.{ContractionTree, operations, node, node_dims}
use Rattle.tce_tree.specs.WellFormed.{indexes_below}
use Rattle.tce_tree.specs.Value.{Assignment, assignment, Elements, IsInExtents, value}
use Rattle.tce_spec.specs.Pieces.{Cuts, stored, piece, tensors_below}

-- the array of node `v` has these values, where each of the node's dims has its coordinate
abbrev pub IsArrayOf : Elements → ContractionTree → ℕ → ContractionTree → Elements → Type 0
IsArrayOf files tree v of_node e =
    (coords : List ℕ) → IsInside (map e.extent (members (node_dims tree v))) coords
    → word (files.cell (stored v) coords) ≡ value e of_node (assignment (members (node_dims tree v)) coords)

-- files with the same tensors
pub record HaveTensors (files e : Elements) : Type 0 where
  pub extents : (i : ℕ) → files.extent i ≡ e.extent i
  pub tensors : (t : ℕ) (coords : List ℕ) → t < 32 → files.cell t coords ≡ e.cell t coords

-- and with an array of each cut node
pub record HoldNodes (files e : Elements) (tree : ContractionTree) (cut : Cuts) : Type 0 where
  pub same : HaveTensors files e
  pub arrays : (v : ℕ) → v < operations tree → IsTrue (cut v) → IsArrayOf files tree v (node tree v) e

-- and with the values of its piece, over these very files, for each cut node
pub record HoldPieces (files e : Elements) (tree : ContractionTree) (cut : Cuts) : Type 0 where
  pub same : HaveTensors files e
  pub arrays : (v : ℕ) → v < operations tree → IsTrue (cut v) → IsArrayOf files tree v (piece tree cut v) files

-- the value of node `v` is the value of its piece, over files with the values of the cut nodes
abbrev pub PieceHasValue : Type 0
PieceHasValue =
    (files e : Elements) (tree : ContractionTree) (cut : Cuts) (v : ℕ) (a : Assignment) → IsTrue (indexes_below max_indexes tree) → IsTrue (tensors_below max_tensors tree)
    → HoldNodes files e tree cut → v < operations tree → IsInExtents e (node_dims tree v) a → value files (piece tree cut v) a ≡ value e (node tree v) a

-- where each cut node's array has the values of its piece, it has those of the node, and so the last piece has the value of the tree
abbrev pub PiecesHaveValues : Type 0
PiecesHaveValues =
    (files e : Elements) (tree : ContractionTree) (cut : Cuts) → IsTrue (indexes_below max_indexes tree) → IsTrue (tensors_below max_tensors tree) → HoldPieces files e tree cut → HoldNodes files e tree cut
