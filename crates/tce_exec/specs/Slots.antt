-- Where the words of nodes stand, by the numbers of the open loops.
use Rattle.std.specs.Prelude.{◌≡◌, ℕ, ◌+◌, ◌<◌, ◌≤◌, IsTrue, List}
use Rattle.tce_space.specs.IndexSet.{has}
use Rattle.tce_space.specs.Space.{IndexSpace, extent_at}
use Rattle.tce_tree.specs.ContractionTree.{ContractionTree, operations}
use Rattle.tce_tree.specs.Fusion.{kept_dims}
use Rattle.tce_tree.specs.Memory.{memory}
use Rattle.tce_tree.specs.Value.{Assignment}
use Rattle.tce_code.specs.Execution.{coordinates}
use Rattle.tce_layout.specs.Layout.{slot_at, IsLayout}
use Rattle.tce_layout.specs.Places.{word_at, steps_to}
use Rattle.tce_layout.specs.declared.slot.Slot.{Slot}

-- the word that a slot has at these numbers: from its first word on, each step as often as the number of its index
abbrev pub slot_word : Slot → Assignment → ℕ
slot_word slot a = slot.offset + steps_to slot.steps a

-- node `v` is not the root, and the numbers of the dims that it keeps lie in their extents
pub record IsSlotAt (space : IndexSpace) (tree : ContractionTree) (fusion : List ℕ) (v : ℕ) (a : Assignment) : Type 0 where
  pub inner : v + 1 < operations tree
  pub inside : (i : ℕ) → IsTrue (has (kept_dims tree fusion v) i) → a i < extent_at space i

-- The words are those of the nodes' places, in row-major order. Each stands in the node's slot, and below the sum of the sizes. Different places have different words.
pub record LeadsToPlaces (space : IndexSpace) (tree : ContractionTree) (fusion : List ℕ) (slots : List Slot) : Type 0 where
  pub place : (v : ℕ) (a : Assignment) → v + 1 < operations tree
      → slot_word (slot_at slots v) a ≡ word_at space tree fusion slots v (coordinates (kept_dims tree fusion v) a)
  pub in_slot : (v : ℕ) (a : Assignment) → IsSlotAt space tree fusion v a
      → ((slot_at slots v).offset ≤ slot_word (slot_at slots v) a) × (slot_word (slot_at slots v) a < (slot_at slots v).offset + (slot_at slots v).size)
  pub below : (v : ℕ) (a : Assignment) → IsSlotAt space tree fusion v a → slot_word (slot_at slots v) a < memory space tree fusion
  pub apart : (v w : ℕ) (a b : Assignment) → IsSlotAt space tree fusion v a → IsSlotAt space tree fusion w b
      → slot_word (slot_at slots v) a ≡ slot_word (slot_at slots w) b → (v ≡ w) × (coordinates (kept_dims tree fusion v) a ≡ coordinates (kept_dims tree fusion w) b)

abbrev pub SlotsLeadToPlaces : Type 0
SlotsLeadToPlaces =
    (space : IndexSpace) (tree : ContractionTree) (fusion : List ℕ) (slots : List Slot) → IsLayout space tree fusion slots → LeadsToPlaces space tree fusion slots
