use Rattle.std.proofs.Common.{◌≤◌, List, ℕ, length, take, arith, ◌∙◌, sym, ap}
use Rattle.std.proofs.lemmas.List.{take_all, length-take}
use Rattle.tce_nesting.specs.Classes.{restricted}
use Rattle.tce_nesting.proofs.Joins.{class_before, take_item}
use Rattle.tce_nesting.proofs.Cuts.{restricted-push, restricted-skip, length-restricted, part_apart}
use Rattle.tce_nesting.proofs.nesting.Nesting.restrict.Goals as goal
use Rattle.tce_nesting.proofs.nesting.Nesting.restrict.Goals.{then-not-is_empty, else-not-is_empty}

pub with_class-kept-requires-clause-room : goal.with_class-kept-requires-clause-room
with_class-kept-requires-clause-room c =
    let items = c.classes-class-items.result.now in
    let kept : length c.loop-class.kept ≤ length (take c.loop-class.class-index items) = rw c.loop-class.invariant (length-restricted (take c.loop-class.class-index items) c.args.fused) in
    let room : length items ≤ 10 = rw c.classes-class-items.ensures.value c.classes-class-items.ensures.room in
    omega (arith, kept, room, length-take c.loop-class.class-index items, c.loop-class-test.true)

pub with_class-kept-requires-clause-apart : goal.with_class-kept-requires-clause-apart
with_class-kept-requires-clause-apart c =
    let items = c.classes-class-items.result.now in
    let nesting = rw (← c.classes-class-items.ensures.value) at c.classes-class-items.ensures.nesting in
    rw c.loop-class.invariant
    (part_apart (take c.loop-class.class-index items) c.class-item.result c.meet-left.result c.args.fused c.meet-left.ensures.members
    (class_before items c.loop-class.class-index c.class-item.result c.loop-class-test.true c.class-item.is nesting))

pub loop-class-preserved : goal.loop-class-preserved
loop-class-preserved c =
    let items = c.classes-class-items.result.now in
    let here = take_item items c.loop-class.class-index c.class-item.result c.loop-class-test.true c.class-item.is in
    let before = take c.loop-class.class-index items in
    elim c.if-not-is_empty.branch [
      | then-not-is_empty w ↦
          rw (w.kept-is, w.with_class-kept.ensures, here, c.loop-class.invariant, c.meet-left.ensures.value)
          (sym (restricted-push before c.class-item.result c.args.fused (rw c.meet-left.ensures.value at (sym c.is_empty.ensures.number ∙ w.if-not-is_empty.true))))
      | else-not-is_empty w ↦
          rw (w.kept-is, here, c.loop-class.invariant)
          (sym (restricted-skip before c.class-item.result c.args.fused (rw c.meet-left.ensures.value at (sym c.is_empty.ensures.number ∙ w.if-not-is_empty.false))))
    ]

pub returns : goal.returns
returns c =
    let items = c.classes-class-items.result.now in
    c.loop-class.invariant
    ∙ ap (λ (classes : List ℕ). restricted classes c.args.fused) (take_all c.loop-class.class-index items c.loop-class-test.false ∙ c.classes-class-items.ensures.value)
