-- The words of the nodes' places: those of the inner nodes stand among the words of a run, and those of the root are elements of the result.
use Rattle.std.specs.Prelude.{◌≡◌, ℕ, ◌+◌, ◌-◌, ◌==◌, ◌&&◌, nat_lt, Bool, List, map, length, slice_index, if◌then◌else◌}
use Rattle.tce_outside.specs.Files.{Files}
use Rattle.tce_space.specs.Box.{is_inside}
use Rattle.tce_space.specs.IndexSet.{has, members}
use Rattle.tce_space.specs.Space.{IndexSpace, extent_at}
use Rattle.tce_space.specs.Tiling.{Tiling, tile_number, place_in_tile}
use Rattle.tce_cache.specs.Cache.{State as CacheState, current_word}
use Rattle.tce_tree.specs.ContractionTree.{ContractionTree, operations}
use Rattle.tce_tree.specs.Fusion.{kept_dims}
use Rattle.tce_tree.specs.Value.{assignment}
use Rattle.tce_tree.specs.WellFormed.{among}
use Rattle.tce_code.specs.Execution.{State}
use Rattle.tce_layout.specs.Places.{kept_extents, word_at}
use Rattle.tce_layout.specs.declared.slot.Slot.{Slot}

-- a tree with a fusion over a space, the slots of its nodes, and the indexes of its result in the order of the result's dimensions
pub record Places : Type 0 where
  pub space : IndexSpace
  pub tree : ContractionTree
  pub fusion : List ℕ
  pub slots : List Slot
  pub result : List ℕ

-- there are so many coordinates, each below its extent
abbrev pub are_inside : List ℕ → List ℕ → Bool
are_inside extents at = length at == length extents && is_inside extents at

-- the word of a node's place; outside of the extents it is 0
abbrev pub node_word : Places → List ℕ → ℕ → List ℕ → ℕ
node_word p words v at =
    if are_inside (kept_extents p.space p.tree p.fusion v) at then slice_index words (word_at p.space p.tree p.fusion p.slots v at) else 0

-- the root, its dims, and the coordinates that its place has as an element of the result
abbrev pub root : Places → ℕ
root p = operations p.tree - 1

abbrev pub root_dims : Places → ℕ
root_dims p = kept_dims p.tree p.fusion (root p)

abbrev pub result_coordinates : Places → List ℕ → List ℕ
result_coordinates p at = map (assignment (members (root_dims p)) at) p.result

-- the word of the root's place, where `cell` are the elements of the result
abbrev pub root_word : Places → (List ℕ → ℕ) → List ℕ → ℕ
root_word p cell at = if are_inside (kept_extents p.space p.tree p.fusion (root p)) at then cell (result_coordinates p at) else 0

-- the words of all places
unfoldable pub state_of : Places → List ℕ → (List ℕ → ℕ) → State
state_of p words cell = λ v at.
    if nat_lt (v + 1) (operations p.tree) then node_word p words v at else (if v + 1 == operations p.tree then root_word p cell at else 0)

-- the current word of an array's element, by the number and the shape of the array
abbrev pub current_cell : CacheState → Files → List ℕ → ℕ → Tiling → List ℕ → ℕ
current_cell c files words array shape xs = current_word c files words array (tile_number shape xs) (place_in_tile shape xs)

-- the result has just the dims of the root as its indexes, and their extents
pub record IsResult (p : Places) (shape : Tiling) : Type 0 where
  pub indexes : (i : ℕ) → among p.result i ≡ has (root_dims p) i
  pub extents : shape.extents ≡ map (extent_at p.space) p.result
