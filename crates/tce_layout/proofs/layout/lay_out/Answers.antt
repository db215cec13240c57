use Rattle.std.proofs.Common.{◌≡◌, ◌+◌, ◌-◌, sym, ap, ap₂, ◌∙◌, true, arith, subst}
use Rattle.tce_space.specs.IndexSet.{has}
use Rattle.tce_space.specs.Space.{volume_of}
use Rattle.tce_tree.specs.ContractionTree.{operations}
use Rattle.tce_tree.specs.Memory.{size_before}
use Rattle.tce_layout.specs.Layout.{IsSlot}
use Rattle.tce_layout.proofs.Filling.{places_fill}
use Rattle.tce_layout.proofs.Slots.{no_slots, before_first, before_next, size_is, slot_within, kept_declared, one_more}
use Rattle.tce_layout.proofs.layout.lay_out.Goals as goal

pub loop-v-init : goal.loop-v-init
loop-v-init c = record {
  offset = before_first c.args.space.now c.args.tree.now c.args.fusion.now.0.items;
  slots = no_slots c.args.space.now c.args.tree.now c.args.fusion.now.0.items c.new-slots.result.items c.new-slots.ensures;
}

pub slot_over-slot-requires-clause-declared : goal.slot_over-slot-requires-clause-declared
slot_over-slot-requires-clause-declared c i h =
    kept_declared c.args.space.now c.args.tree.now c.args.fusion.now.0.items c.loop-v.v c.index_count-count.ensures.limits c.requires.measured (omega arith) i
    (subst (λ s. has s i ≡ true) c.kept_at_node.ensures h)

pub slot_over-slot-requires-clause-limit : goal.slot_over-slot-requires-clause-limit
slot_over-slot-requires-clause-limit c =
    omega (
      arith,
      ap (volume_of c.args.space.now) c.kept_at_node.ensures,
      slot_within c.args.space.now c.args.tree.now c.args.fusion.now.0.items c.loop-v.v (omega arith),
      c.requires.limit,
    )

pub overflow_add-offset : goal.overflow_add-offset
overflow_add-offset c =
    omega (
      arith,
      c.loop-v.invariant.offset,
      c.slot_over-slot.ensures.sized ∙ ap (volume_of c.args.space.now) c.kept_at_node.ensures,
      slot_within c.args.space.now c.args.tree.now c.args.fusion.now.0.items c.loop-v.v (omega arith),
      c.requires.limit,
    )

pub loop-v-preserved : goal.loop-v-preserved
loop-v-preserved c = record {
  offset =
      ap₂ (λ a b. a + b) c.loop-v.invariant.offset
      (c.slot_over-slot.ensures.sized ∙ ap (volume_of c.args.space.now) c.kept_at_node.ensures ∙ size_is c.args.space.now c.args.tree.now c.args.fusion.now.0.items c.loop-v.v)
      ∙ sym (before_next c.args.space.now c.args.tree.now c.args.fusion.now.0.items c.loop-v.v);
  slots =
      one_more c.args.space.now c.args.tree.now c.args.fusion.now.0.items c.loop-v.v c.loop-v.slots.items c.push.new.self.items c.slot_over-slot.result c.push.ensures.items
      (subst (λ s. IsSlot c.args.space.now s (size_before c.args.space.now c.args.tree.now c.args.fusion.now.0.items c.loop-v.v) c.slot_over-slot.result) c.kept_at_node.ensures
      (subst (λ o. IsSlot c.args.space.now c.kept_at_node.result o c.slot_over-slot.result) c.loop-v.invariant.offset c.slot_over-slot.ensures))
      c.loop-v.invariant.slots;
}

pub returns-clause-places : goal.returns-clause-places
returns-clause-places c =
    let last : c.loop-v.v ≡ operations c.args.tree.now - 1 = omega arith in
    places_fill c.args.space.now c.args.tree.now c.args.fusion.now.0.items c.loop-v.slots.items (record {
      each = c.loop-v.invariant.slots.each ∙ last;
      slot = λ v l. c.loop-v.invariant.slots.slot v (omega arith);
    })
