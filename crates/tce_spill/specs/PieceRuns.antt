-- The pieces of a cut tree, in the order of their roots.
use Rattle.std.specs.Prelude.{ℕ, zero, suc, max, if◌then◌else◌, List, [], ◌∷◌, ◌++◌, map, codes}
use Rattle.tce_space.specs.Tiling.{tile_words}
use Rattle.tce_tree.specs.ContractionTree.{ContractionTree, operations}
use Rattle.tce_spec.specs.Pieces.{Cuts, is_root}
use Rattle.tce_spec.specs.Storable.{shape_of_node}
use Rattle.tce_spec.specs.Specification.{Specification}
use Rattle.tce_spec.specs.Operands.{largest_tile}
use Rattle.tce_spec.specs.PieceSpecification.{source, piece_of}

-- the roots among the first nodes, that many of them
abbrev pub roots_below : ContractionTree → Cuts → ℕ → List ℕ
roots_below tree cut zero = []
roots_below tree cut (suc v) = roots_below tree cut v ++ (if is_root tree cut v then v ∷ [] else [])

-- the pieces of these roots
abbrev pub pieces_below : Specification → Cuts → ℕ → List Specification
pieces_below s cut n = map (piece_of s cut) (roots_below s.tree cut n)

abbrev pub pieces_of : Specification → Cuts → List Specification
pieces_of s cut = pieces_below s cut (operations s.tree)

-- the file of a tensor, and from number 32 on that of the array of a node
abbrev pub source_file : Specification → ℕ → List ℕ
source_file s t = (source s t).name ++ codes ".tca"

-- the words of the largest tile of the operands, the result, and the arrays of the first nodes that are cut
abbrev pub largest_below : Specification → Cuts → ℕ → ℕ
largest_below s cut zero = largest_tile s
largest_below s cut (suc v) = max (largest_below s cut v) (if cut v then tile_words (shape_of_node s.declarations.space s.tree v) else 0)

abbrev pub largest_of : Specification → Cuts → ℕ
largest_of s cut = largest_below s cut (operations s.tree)
