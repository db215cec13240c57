use Rattle.std.proofs.Common.{◌+◌, ◌∷◌, [], ◌++◌, ap, subst, ◌∙◌, drop, length}
use Rattle.std.specs.List.{All}
use Rattle.std.proofs.lemmas.List.{length_push}
use Rattle.std.proofs.lemmas.List.Elements.{All-push, All-same}
use Rattle.tce_fusion.specs.Relation.{above}
use Rattle.tce_fusion.specs.Row.{Row}
use Rattle.tce_nesting.specs.Ends.{IsTopOf}
use Rattle.tce_nesting.proofs.Classes.{drop-item}
use Rattle.tce_nesting.proofs.Tops.{IsReached, reached_further, reached_is_top}
use Rattle.tce_check.specs.Tops.{AreTops}
use Rattle.tce_check.proofs.tops.tops_of.Goals as goal

pub loop-class-preserved : goal.loop-class-preserved
loop-class-preserved c =
    let items = c.classes-class-items.result.now in
    let rest = drop (c.loop-class.class-index + 1) items in
    let old = c.loop-class.tops.items in
    let new = c.push.new.self.items in
    let wider = c.union-reached.result in
    let here = drop-item items c.loop-class.class-index c.class-item.result c.loop-class-test.true c.class-item.is in
    let further = reached_further c.args.loops c.class-item.result c.meet.result items rest c.loop-class.reached wider c.meet.ensures.members c.union-reached.ensures.members
    (subst (λ cs. IsReached c.args.loops items cs c.loop-class.reached) here c.loop-class.invariant.reached) in
    let tops = IsTopOf c.args.loops (above items) in
    record {
      reached = further;
      tops = All-same tops new (old ++ wider ∷ []) c.push.ensures.items (All-push tops old wider c.loop-class.invariant.tops (reached_is_top c.args.loops items rest wider further));
      count = ap length c.push.ensures.items ∙ length_push old wider ∙ ap (λ n. n + 1) c.loop-class.invariant.count;
    }

pub returns : goal.returns
returns c =
    subst (λ (r : Row). AreTops c.args.loops r c.loop-class.tops.items) c.row.view_is
    (subst (λ cs. All (IsTopOf c.args.loops (above cs)) c.loop-class.tops.items) c.classes-class-items.ensures.value c.loop-class.invariant.tops)
