use Rattle.std.proofs.Common.{◌+◌, subst, drop}
use Rattle.tce_fusion.specs.Relation.{above}
use Rattle.tce_nesting.proofs.Classes.{drop-item}
use Rattle.tce_nesting.proofs.Tops.{IsReached, reached_none, no_top, reached_further, reached_is_top}
use Rattle.tce_nesting.proofs.ends.largest_top.Goals as goal

pub loop-class-init : goal.loop-class-init
loop-class-init c = record {
  reached = reached_none c.args.loops c.classes-class-items.result.now c.empty-reached.result c.empty-reached.ensures.members;
  top = no_top c.args.loops c.empty-top.result (above c.classes-class-items.result.now) c.empty-top.ensures.members;
}

pub loop-class-preserved : goal.loop-class-preserved
loop-class-preserved c =
    let items = c.classes-class-items.result.now in
    let rest = drop (c.loop-class.class-index + 1) items in
    let here = drop-item items c.loop-class.class-index c.class-item.result c.loop-class-test.true c.class-item.is in
    let further = reached_further c.args.loops c.class-item.result c.meet.result items rest c.loop-class.reached c.union-reached.result c.meet.ensures.members c.union-reached.ensures.members
    (subst (λ cs. IsReached c.args.loops items cs c.loop-class.reached) here c.loop-class.invariant.reached) in
    record {
      reached = further;
      top = reached_is_top c.args.loops items rest c.union-reached.result further;
    }
