use Rattle.std.proofs.Common.{◌≡◌}
use Rattle.tce_tree.specs.Memory.{size_before}
use Rattle.tce_layout.proofs.Slots.{AreSlots}
use Rattle.tce_layout.proofs.layout.lay_out.Given as goal

abbrev pub invariant-loop-v : goal.invariant-loop-v
invariant-loop-v l = record {
  offset : l.offset ≡ size_before l.space l.tree l.fusion.0.items l.v;
  slots : AreSlots l.space l.tree l.fusion.0.items l.v l.slots.items;
}
