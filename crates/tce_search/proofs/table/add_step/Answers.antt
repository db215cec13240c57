use Rattle.std.proofs.Common.{◌+◌, ◌⊎◌, ◌<◌, inl, inr, arith, sym, ap, subst, [], ◌∷◌}
use Rattle.std.specs.List.{All, AllPairs, Any, Contains}
use Rattle.std.proofs.lemmas.Bool.{both_ways}
use Rattle.std.proofs.lemmas.List.Elements.{All-push, All-weaker, All-contains_itself}
use Rattle.std.proofs.lemmas.List.Quantifiers.{all_pairs_push}
use Rattle.tce_fusion.specs.Relation.{above}
use Rattle.tce_nesting.specs.Classes.{restricted}
use Rattle.tce_search.specs.declared.candidate.Candidate.{Candidate}
use Rattle.tce_search.specs.Candidates.{Stands}
use Rattle.tce_search.specs.Groups.{LeavesOpen}
use Rattle.tce_search.specs.Joins.{IsNewStep}
use Rattle.tce_search.proofs.Quantifiers.{Any-append_left, Any-last, Any-weaker, none_has}
use Rattle.tce_search.proofs.Standing.{stands_through}
use Rattle.tce_search.proofs.table.add_step.Goals as goal

pub returns-then-covers-clause-covered : goal.returns-then-covers-clause-covered
returns-then-covers-clause-covered c allowed =
    let outer = c.args.list.now.outer in
    let last = c.in-Some.candidate in
    let relation = above (restricted c.args.join.now.row.classes c.args.choice.now.fused) in
    let cost = c.args.join.now.row.cost + c.args.choice.now.size in
    Any-weaker (Stands outer (above last.row.classes) last.row.cost) (Stands outer relation cost)
    (λ x h. stands_through outer relation cost last x (c.in-Some.ensures.stands outer) h) c.args.list.now.candidates (c.covers.ensures.0 c.if-covers.true)

pub returns-clause-covered : goal.returns-clause-covered
returns-clause-covered c allowed =
    let outer = c.args.list.now.outer in
    let last = c.in-Some.candidate in
    let stands = Stands outer (above (restricted c.args.join.now.row.classes c.args.choice.now.fused)) (c.args.join.now.row.cost + c.args.choice.now.size) in
    subst (Any stands) (sym c.in_ok-push.ensures.candidates) (Any-last stands c.args.list.now.candidates last (c.in-Some.ensures.stands outer))

pub returns-clause-grows : goal.returns-clause-grows
returns-clause-grows c =
    let last = c.in-Some.candidate in
    let outer = c.args.list.now.outer in
    let old = c.args.list.now.candidates in
    let none = none_has (Stands outer (above last.row.classes) last.row.cost) old (λ found. both_ways c.covers.result c.if-covers.false (c.covers.ensures.1 found)) in
    record {
      outer = c.in_ok-push.ensures.outer;
      others = λ r n found. subst (Any (Stands outer r n)) (sym c.in_ok-push.ensures.candidates) (Any-append_left (Stands outer r n) old (last ∷ []) found);
      later = λ pairs. subst (AllPairs (LeavesOpen outer)) (sym c.in_ok-push.ensures.candidates) (all_pairs_push (LeavesOpen outer) old last pairs (λ k d low. none k d low));
    }

pub returns-clause-origin : goal.returns-clause-origin
returns-clause-origin c =
    let last = c.in-Some.candidate in
    let old = c.args.list.now.candidates in
    let from = λ (x : Candidate). Contains old x ⊎ IsNewStep c.args.choosing.now c.args.join.now c.args.choice.now x in
    let cheap : last.row.cost < c.args.choosing.now.limit = omega (arith, c.if-choosing-join.false, (c.in-Some.ensures.stands 0).cheap, ap (λ (x : Candidate). x.row.cost) c.join.view_is) in
    subst (All from) (sym c.in_ok-push.ensures.candidates)
    (All-push from old last (All-weaker (Contains old) from (λ x inn. inl inn) old (All-contains_itself old)) (inr (c.in-Some.ensures.origin, cheap)))
