-- The words of the nodes' places in their slots. A place of a node is given by its coordinates: the numbers of its kept dims, in ascending order of the indexes.
use Rattle.std.specs.Prelude.{◌≡◌, ℕ, ◌+◌, ◌*◌, ◌<◌, List, map, slice_index}
use Rattle.std.specs.List.{range_with_len, sum_by}
use Rattle.tce_space.specs.Box.{place, IsInside}
use Rattle.tce_space.specs.IndexSet.{members}
use Rattle.tce_space.specs.Space.{IndexSpace, extent_at}
use Rattle.tce_tree.specs.ContractionTree.{ContractionTree, operations}
use Rattle.tce_tree.specs.Fusion.{kept_dims}
use Rattle.tce_tree.specs.Memory.{memory}
use Rattle.tce_layout.specs.Layout.{slot_at}
use Rattle.tce_layout.specs.declared.slot.Slot.{Slot}

-- the extents of the kept dims of node `v`, ascending by index
unfoldable pub kept_extents : IndexSpace → ContractionTree → List ℕ → ℕ → List ℕ
kept_extents space tree fusion v = map (extent_at space) (members (kept_dims tree fusion v))

-- node `v`, which is not the root, has a place at these coordinates
pub record IsPlace (space : IndexSpace) (tree : ContractionTree) (fusion : List ℕ) (v : ℕ) (at : List ℕ) : Type 0 where
  pub node : v + 1 < operations tree
  pub inside : IsInside (kept_extents space tree fusion v) at

-- where the word of this place stands: row-major in the slot
unfoldable pub word_at : IndexSpace → ContractionTree → List ℕ → List Slot → ℕ → List ℕ → ℕ
word_at space tree fusion slots v at = (slot_at slots v).offset + place (kept_extents space tree fusion v) at

-- the steps of all indexes, each as often as its number
unfoldable pub steps_to : List ℕ → (ℕ → ℕ) → ℕ
steps_to steps numbers = sum_by (λ i. slice_index steps i * numbers i) (range_with_len 0 24)

-- The steps lead to each place. Each place of each node has a word of its own, below the sum of the sizes, and each number below it is the word of some place.
pub record PlacesFill (space : IndexSpace) (tree : ContractionTree) (fusion : List ℕ) (slots : List Slot) : Type 0 where
  pub reached : (v : ℕ) (numbers : ℕ → ℕ) → v + 1 < operations tree
      → (slot_at slots v).offset + steps_to (slot_at slots v).steps numbers
      ≡ word_at space tree fusion slots v (map numbers (members (kept_dims tree fusion v)))
  pub below : (v : ℕ) (at : List ℕ) → IsPlace space tree fusion v at → word_at space tree fusion slots v at < memory space tree fusion
  pub apart : (v w : ℕ) (at other : List ℕ) → IsPlace space tree fusion v at → IsPlace space tree fusion w other
      → word_at space tree fusion slots v at ≡ word_at space tree fusion slots w other → (v ≡ w) × (at ≡ other)
  pub every : (p : ℕ) → p < memory space tree fusion
      → (v : ℕ) × (at : List ℕ) × IsPlace space tree fusion v at × (word_at space tree fusion slots v at ≡ p)
