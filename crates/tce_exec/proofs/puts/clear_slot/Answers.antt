use Rattle.std.proofs.Common.{ap}
use Rattle.tce_layout.specs.Layout.{slot_at}
use Rattle.tce_exec.specs.Workspace.{workspace}
use Rattle.tce_exec.proofs.Putting.{slot_room, slot_cleared}
use Rattle.tce_exec.proofs.puts.clear_slot.Goals as goal

pub fill_zero-requires : goal.fill_zero-requires
fill_zero-requires c =
    let e = c.args.evaluation.now in
    slot_room e.space.now e.tree.now e.fusion.now.0.items e.layout.now.0.items (slot_at c.deref.result.now c.args.v) c.args.v _ c.requires.laid c.requires.inner c.requires.room
    (ap (λ s. slot_at s c.args.v) c.deref.ensures.0)

pub returns-clause-changed : goal.returns-clause-changed
returns-clause-changed c = λ cache files ready.
    (slot_cleared (workspace c.args.evaluation.now c.args.words.now cache files) (slot_at c.deref.result.now c.args.v) c.args.v c.fill_zero.new.self c.requires.laid c.requires.inner c.requires.room
    (ap (λ s. slot_at s c.args.v) c.deref.ensures.0) c.fill_zero.ensures).changed ready

pub returns-clause-kept : goal.returns-clause-kept
returns-clause-kept c = λ cache files.
    (slot_cleared (workspace c.args.evaluation.now c.args.words.now cache files) (slot_at c.deref.result.now c.args.v) c.args.v c.fill_zero.new.self c.requires.laid c.requires.inner c.requires.room
    (ap (λ s. slot_at s c.args.v) c.deref.ensures.0) c.fill_zero.ensures).kept
