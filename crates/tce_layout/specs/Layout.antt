-- Slots: where the words of each node's places stand in one list of words.
use Rattle.std.specs.Prelude.{◌≡◌, ℕ, ◌+◌, ◌-◌, ◌<◌, List, [], map, slice_index, slice_index_or, length, if◌then◌else◌}
use Rattle.std.specs.List.{filter, range_with_len}
use Rattle.tce_space.specs.Limits.{max_indexes}
use Rattle.tce_space.specs.Box.{product}
use Rattle.tce_space.specs.IndexSet.{has}
use Rattle.tce_space.specs.Space.{IndexSpace, extent_at, volume_of}
use Rattle.tce_tree.specs.ContractionTree.{ContractionTree, operations}
use Rattle.tce_tree.specs.Fusion.{kept_dims}
use Rattle.tce_tree.specs.Memory.{size_before}
use Rattle.tce_layout.specs.declared.slot.Slot.{Slot}

-- the members that are at least `k`, ascending
abbrev pub members_from : ℕ → ℕ → List ℕ
members_from set k = filter (has set) (range_with_len k (24 - k))

-- how far apart in row-major order the places stand whose numbers of index `i` differ by one: the product of the extents of the members
-- behind it; the places do not depend on an index that is no member
unfoldable pub step_of : IndexSpace → ℕ → ℕ → ℕ
step_of space set i = if has set i then product (map (extent_at space) (members_from set (i + 1))) else 0

-- a slot from `offset` on for the places over a set of dims
pub record IsSlot (space : IndexSpace) (set offset : ℕ) (slot : Slot) : Type 0 where
  pub begins : slot.offset ≡ offset
  pub sized : slot.size ≡ volume_of space set
  pub steps : (i : ℕ) → i < max_indexes → slice_index slot.steps i ≡ step_of space set i
  pub indexes : length slot.steps ≡ max_indexes

abbrev pub no_slot : Slot
no_slot = record { offset = 0; size = 0; steps = [] }

abbrev pub slot_at : List Slot → ℕ → Slot
slot_at slots v = slice_index_or slots v no_slot

-- one slot per node but the root, one behind the other from 0 on
pub record IsLayout (space : IndexSpace) (tree : ContractionTree) (fusion : List ℕ) (slots : List Slot) : Type 0 where
  pub each : length slots ≡ operations tree - 1
  pub slot : (v : ℕ) → v + 1 < operations tree → IsSlot space (kept_dims tree fusion v) (size_before space tree fusion v) (slot_at slots v)
