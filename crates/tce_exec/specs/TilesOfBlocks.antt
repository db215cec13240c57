-- Where the turns of a block stay: between the edges of the loops, and so in one tile of each array.
use Rattle.std.specs.Prelude.{◌≡◌, ℕ, ◌+◌, ◌%◌, ◌<◌, ◌≤◌, IsTrue, false, List, length, map, slice_get, Some, All}
use Rattle.tce_space.specs.Limits.{max_indexes}
use Rattle.tce_space.specs.IndexSet.{has}
use Rattle.tce_space.specs.Tiling.{Tiling, ArePositive, tile_number, place_in_tile}
use Rattle.tce_tree.specs.Value.{Assignment}
use Rattle.tce_tree.specs.WellFormed.{among}
use Rattle.tce_block.specs.Parts.{Part, blocks}
use Rattle.tce_exec.specs.Turns.{Turns, IsTurn, turns_of}
use Rattle.tce_exec.specs.LoopWindows.{stands_at}
use Rattle.tce_exec.specs.declared.window.Window.{Window}
use Rattle.tce_exec.specs.OperandWindows.{IsTileWindow}

-- no loop crosses a multiple of the edge of its index
abbrev pub StayBetweenEdges : Turns → (ℕ → ℕ) → Type 0
StayBetweenEdges t edge = (i : ℕ) → IsTrue (among t.order i) → t.first i % edge i + t.count i ≤ edge i

-- at each turn the numbers of the indexes of a set are below their extents
abbrev pub StayInExtents : Turns → (ℕ → ℕ) → ℕ → Type 0
StayInExtents t extent set = (b : Assignment) → IsTurn t b → (i : ℕ) → IsTrue (has set i) → b i < extent i

-- In a block each loop has some numbers. The first turn is one, no turn crosses an edge, and all stay in the extents of a set where the
-- numbers of the loops round the block do.
pub record AreTurnsOfBlock (extent edge : ℕ → ℕ) (order : List ℕ) (a : Assignment) (part : Part) : Type 0 where
  pub as_many : length part.len ≡ length order
  pub some : ArePositive part.len
  pub first : IsTurn (turns_of order a part) (turns_of order a part).first
  pub between : StayBetweenEdges (turns_of order a part) edge
  pub inside : (set : ℕ) → ((i : ℕ) → IsTrue (has set i) → among order i ≡ false → a i < extent i) → StayInExtents (turns_of order a part) extent set

abbrev pub BlocksStayInTiles : Type 0
BlocksStayInTiles =
    (extent edge : ℕ → ℕ) (order : List ℕ) (a : Assignment) (k : ℕ) (part : Part) → ArePositive (map edge order)
    → slice_get (blocks (map extent order) (map edge order)) k ≡ Some part → AreTurnsOfBlock extent edge order a part

-- each dimension of an array has an index, and the edge of this index
pub record HasIndexes (shape : Tiling) (edge : ℕ → ℕ) (indexes : List ℕ) : Type 0 where
  pub edges : shape.edges ≡ map edge indexes
  pub positive : ArePositive shape.edges
  pub known : All (λ i. i < max_indexes) indexes

-- the element of a turn lies in the tile of that of the first turn, and its word stands where the window says
pub record IsInTile (t : Turns) (shape : Tiling) (indexes : List ℕ) (at : ℕ) (w : Window) (b : Assignment) : Type 0 where
  pub tile : tile_number shape (map b indexes) ≡ tile_number shape (map t.first indexes)
  pub stands : stands_at w t.first b ≡ at + place_in_tile shape (map b indexes)

abbrev pub TurnsStayInOneTile : Type 0
TurnsStayInOneTile =
    (t : Turns) (edge : ℕ → ℕ) (shape : Tiling) (indexes : List ℕ) (at : ℕ) (w : Window) → HasIndexes shape edge indexes → StayBetweenEdges t edge
    → IsTileWindow shape indexes t.first at w → (b : Assignment) → IsTurn t b → IsInTile t shape indexes at w b
