use Rattle.std.proofs.Common.{◌+◌, ◌∷◌, [], ◌++◌, sym, ap, subst, ◌∙◌, length, drop}
use Rattle.std.specs.List.{Contains}
use Rattle.std.proofs.Math.ListN.{drop_of_length-le}
use Rattle.std.proofs.lemmas.Bool.{both_ways}
use Rattle.std.proofs.lemmas.List.{length_push}
use Rattle.std.proofs.lemmas.List.Elements.{All-push, All-same, Contains-push, Contains-append_left}
use Rattle.tce_fusion.specs.Relation.{above}
use Rattle.tce_nesting.proofs.Classes.{drop-item}
use Rattle.tce_search.specs.Parts.{IsUpperPart}
use Rattle.tce_search.proofs.Parts.{IsReachedPart, AreSeen, AreAll, members_of, reached_further, reached_is_upper, seen_further, seen_stop, seen_end}
use Rattle.tce_search.proofs.upper.upper_parts.Goals as goal

pub loop-class-preserved : goal.loop-class-preserved
loop-class-preserved c =
    let outer = c.args.outer in
    let items = c.classes-class-items.result.now in
    let rest = drop (c.loop-class.class-index + 1) items in
    let class = c.class-item.result in
    let reached = c.loop-class.reached in
    let wider = c.union-reached.result in
    let old = c.loop-class.parts.items in
    let new = c.push-in-loop-class.new.self.items in
    let grown = c.push-in-loop-class.ensures.items in
    let here = drop-item items c.loop-class.class-index class c.loop-class-test.true c.class-item.is in
    let members = members_of outer class c.meet.result reached wider c.meet.ensures.members c.union-reached.ensures.members in
    let further = reached_further outer items rest class reached wider c.bits-number.ensures.bounded members (λ all. both_ways c.within.result c.if-within.false (c.within.ensures.1 all))
    (subst (λ cs. IsReachedPart outer items cs reached) here c.loop-class.invariant.reached) in
    record {
      reached = further;
      each = All-same (IsUpperPart outer (above items)) new (old ++ wider ∷ []) grown (All-push (IsUpperPart outer (above items)) old wider c.loop-class.invariant.each (reached_is_upper outer items rest wider further));
      seen = seen_further outer class reached wider items rest old new c.loop-class.invariant.reached.number members grown c.loop-class.invariant.last
          (subst (λ cs. AreSeen outer items cs reached old) here c.loop-class.invariant.seen);
      last = subst (λ xs. Contains xs wider) (sym grown) (Contains-push old wider);
      empty = subst (λ xs. Contains xs 0) (sym grown) (Contains-append_left old (wider ∷ []) 0 c.loop-class.invariant.empty);
      count = ap length grown ∙ length_push old wider ∙ ap (λ n. n + 1) c.loop-class.invariant.count;
    }

pub returns-then-within-clause-all : goal.returns-then-within-clause-all
returns-then-within-clause-all c =
    let outer = c.args.outer in
    let items = c.classes-class-items.result.now in
    let rest = drop (c.loop-class.class-index + 1) items in
    let class = c.class-item.result in
    let reached = c.loop-class.reached in
    let wider = c.union-reached.result in
    let old = c.loop-class.parts.items in
    let here = drop-item items c.loop-class.class-index class c.loop-class-test.true c.class-item.is in
    let members = members_of outer class c.meet.result reached wider c.meet.ensures.members c.union-reached.ensures.members in
    subst (λ cs. AreAll outer cs old) c.classes-class-items.ensures.value
    (seen_stop outer class reached wider items rest old c.loop-class.invariant.reached.number members (c.within.ensures.0 c.if-within.true) c.loop-class.invariant.last c.loop-class.invariant.empty
    (subst (λ cs. AreSeen outer items cs reached old) here c.loop-class.invariant.seen))

pub returns-clause-all : goal.returns-clause-all
returns-clause-all c =
    let outer = c.args.outer in
    let items = c.classes-class-items.result.now in
    let reached = c.loop-class.reached in
    let old = c.loop-class.parts.items in
    let end = drop_of_length-le items c.loop-class-test.false in
    subst (λ cs. AreAll outer cs old) c.classes-class-items.ensures.value
    (seen_end outer reached items old c.loop-class.invariant.reached.number c.loop-class.invariant.last
    (subst (λ cs. AreSeen outer items cs reached old) end c.loop-class.invariant.seen))
