-- The slots of an evaluation's nodes.
use Rattle.std.specs.Prelude.{ℕ, ◌≤◌, List, length}
use Rattle.tce_tree.specs.Memory.{memory}
use Rattle.tce_tree.specs.Value.{Assignment}
use Rattle.tce_layout.specs.Layout.{IsLayout, slot_at}
use Rattle.tce_layout.specs.declared.slot.Slot.{Slot}
use Rattle.tce_exec.specs.Slots.{IsSlotAt}
use Rattle.tce_exec.specs.declared.evaluation.Evaluation.{Evaluation}

-- they are those of a layout
abbrev pub IsLaid : Evaluation → Type 0
IsLaid e = IsLayout e.space.now e.tree.now e.fusion.now.0.items e.layout.now.0.items

-- the slot of node `v`
abbrev pub slot_of : Evaluation → ℕ → Slot
slot_of e v = slot_at e.layout.now.0.items v

-- node `v` has a slot, and these numbers lie in it
abbrev pub HasSlotAt : Evaluation → ℕ → Assignment → Type 0
HasSlotAt e v a = IsSlotAt e.space.now e.tree.now e.fusion.now.0.items v a

-- all slots lie among these words
abbrev pub HasRoomIn : Evaluation → List ℕ → Type 0
HasRoomIn e words = memory e.space.now e.tree.now e.fusion.now.0.items ≤ length words
