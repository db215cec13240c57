use Rattle.std.proofs.Common.{◌≤◌, ◌^◌, length, slice_index, arith}
use Rattle.tce_tree.specs.Memory.{memory}
use Rattle.tce_exec.specs.NodeStates.{Places}
use Rattle.tce_exec.proofs.Reading.{slot_low}
use Rattle.tce_exec.proofs.places.place_in_slot.Goals as goal

pub slot_place-requires : goal.slot_place-requires
slot_place-requires c =
    let e = c.args.evaluation.now in
    let p : Places = record { space = e.space.now; tree = e.tree.now; fusion = e.fusion.now.0.items; slots = e.layout.now.0.items; result = e.result.now.indexes.items } in
    let room : memory e.space.now e.tree.now e.fusion.now.0.items ≤ 2 ^ 64 = omega (arith, c.requires.room, c.len-len.ensures.limit) in
    slot_low p c.deref.result.now c.args.v (slice_index c.args.numbers.now) (2 ^ 64) c.deref.ensures.0 c.requires.laid c.requires.inner room

pub returns-clause-within : goal.returns-clause-within
returns-clause-within c =
    let e = c.args.evaluation.now in
    let p : Places = record { space = e.space.now; tree = e.tree.now; fusion = e.fusion.now.0.items; slots = e.layout.now.0.items; result = e.result.now.indexes.items } in
    omega (arith, c.slot_place.ensures, slot_low p c.deref.result.now c.args.v (slice_index c.args.numbers.now) (length c.args.words.now) c.deref.ensures.0 c.requires.laid c.requires.inner c.requires.room)
