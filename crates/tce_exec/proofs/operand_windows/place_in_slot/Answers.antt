use Rattle.std.proofs.Common.{◌≡◌, ℕ, ◌∙◌, ◌+◌, ◌<◌, ◌≤◌, ◌^◌, length, slice_index, ap, sym, arith}
use Rattle.tce_tree.specs.Memory.{memory}
use Rattle.tce_layout.specs.Layout.{slot_at}
use Rattle.tce_layout.specs.declared.slot.Slot.{Slot}
use Rattle.tce_exec.specs.NodeStates.{Places}
use Rattle.tce_exec.specs.Slots.{slot_word}
use Rattle.tce_exec.proofs.Slots.{slots_lead_to_places}
use Rattle.tce_exec.proofs.Reading.{slot_low}
use Rattle.tce_exec.proofs.operand_windows.place_in_slot.Goals as goal

short : (memory words : ℕ) → memory ≤ words → words < 2 ^ 60 → memory ≤ 2 ^ 64
short memory words room limit = omega (arith, room, limit)

only_word : (offset size word : ℕ) → (offset ≤ word) × (word < offset + size) → size ≡ 1 → offset ≡ word
only_word offset size word inside one = omega (arith, inside.0, inside.1, one)

pub slot_place-requires : goal.slot_place-requires
slot_place-requires c =
    let e = c.args.evaluation.now in
    let p : Places = record { space = e.space.now; tree = e.tree.now; fusion = e.fusion.now.0.items; slots = e.layout.now.0.items; result = e.result.now.indexes.items } in
    let room = short (memory e.space.now e.tree.now e.fusion.now.0.items) (length c.args.words.now) c.requires.room c.len-len.ensures.limit in
    slot_low p c.deref.result.now c.args.v (slice_index c.args.first.now.numbers) (2 ^ 64) c.deref.ensures.0 c.requires.laid c.requires.inner room

pub returns-then-slot-eq1 : goal.returns-then-slot-eq1
returns-then-slot-eq1 c =
    let e = c.args.evaluation.now in
    let slots = e.layout.now.0.items in
    let found = (slots_lead_to_places e.space.now e.tree.now e.fusion.now.0.items slots c.requires.laid).in_slot c.args.v (slice_index c.args.first.now.numbers) c.requires.inner in
    let same : slot_at c.deref.result.now c.args.v ≡ slot_at slots c.args.v = ap (λ s. slot_at s c.args.v) c.deref.ensures.0 in
    let one : (slot_at slots c.args.v).size ≡ 1 = ap (λ (s : Slot). s.size) (sym same) ∙ c.if-slot-eq1.true in
    ap (λ (s : Slot). s.offset) same ∙ only_word (slot_at slots c.args.v).offset (slot_at slots c.args.v).size (slot_word (slot_at slots c.args.v) (slice_index c.args.first.now.numbers)) found one
