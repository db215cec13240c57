use Rattle.std.proofs.Common.{◌≡◌, ◌∙◌, sym, ap, subst, arith, rules, reverse}
use Rattle.std.specs.List.{Any}
use Rattle.std.proofs.lemmas.Bool.{both_ways}
use Rattle.std.proofs.lemmas.Grind.{common_steps}
use Rattle.std.proofs.lemmas.List.{nil_from_length}
use Rattle.tce_fusion.specs.Relation.{above}
use Rattle.tce_search.specs.Candidates.{Stands}
use Rattle.tce_search.specs.Groups.{Listed}
use Rattle.tce_search.proofs.Thinning.{IsThinned, thinned_none, thinned_drop, thinned_keep, thinned_others, thinned_origin}
use Rattle.tce_search.proofs.thinned.thinned.Goals as goal

pub loop-candidate-init : goal.loop-candidate-init
loop-candidate-init c =
    let outer = c.args.list.outer in
    let all = c.args.list.candidates in
    record {
      outer = ap (λ (l : Listed). l.outer) c.in_ok-kept.ensures ∙ c.outer.ensures;
      thinned = subst (λ xs. IsThinned outer all xs c.in_ok-kept.kept.candidates) (sym c.into_candidates-rest.ensures)
          (subst (IsThinned outer all all) (sym (ap (λ (l : Listed). l.candidates) c.in_ok-kept.ensures)) (thinned_none outer all c.requires));
    }

pub loop-candidate-preserved-in-Continue-branch-2 : goal.loop-candidate-preserved-in-Continue-branch-2
loop-candidate-preserved-in-Continue-branch-2 c =
    let last = c.in-Some.candidate in
    let kept = c.loop-candidate.kept in
    let same = c.loop-candidate.invariant.outer in
    record {
      outer = c.in_ok-push.ensures.outer ∙ same;
      thinned = thinned_keep c.args.list.outer c.args.list.candidates c.loop-candidate.rest.items c.pop.new.self.items kept.candidates c.push.new.self.candidates last c.in-Some.ensures.items c.in_ok-push.ensures.candidates
          (λ found. both_ways c.covers.result c.if-not-covers.true (c.covers.ensures.1 (subst (λ o. Any (Stands o (above last.row.classes) last.row.cost) kept.candidates) (sym same) found)))
          c.loop-candidate.invariant.thinned;
    }

pub loop-candidate-preserved : goal.loop-candidate-preserved
loop-candidate-preserved c =
    let last = c.in-Some.candidate in
    let kept = c.loop-candidate.kept in
    let same = c.loop-candidate.invariant.outer in
    record {
      outer = same;
      thinned = thinned_drop c.args.list.outer c.args.list.candidates c.loop-candidate.rest.items c.pop.new.self.items kept.candidates last c.in-Some.ensures.items
          (subst (λ o. Any (Stands o (above last.row.classes) last.row.cost) kept.candidates) same (c.covers.ensures.0 c.if-not-covers.false))
          c.loop-candidate.invariant.thinned;
    }

pub returns-clause-others : goal.returns-clause-others
returns-clause-others c =
    let rest = c.loop-candidate.rest in
    let none : rest.len ≡ 0 = first_of (search rules, grind (arith, common_steps)) in
    let kept = c.loop-candidate.kept.candidates in
    thinned_others c.args.list.outer c.args.list.candidates rest.items kept c.reverse.new.self.items (nil_from_length rest.items (omega (arith, none, rest.ok.0)))
    (c.reverse.ensures.items ∙ ap reverse c.into_candidates-candidates.ensures) c.loop-candidate.invariant.thinned

pub returns-clause-origin : goal.returns-clause-origin
returns-clause-origin c =
    let kept = c.loop-candidate.kept.candidates in
    thinned_origin c.args.list.outer c.args.list.candidates c.loop-candidate.rest.items kept c.reverse.new.self.items
    (c.reverse.ensures.items ∙ ap reverse c.into_candidates-candidates.ensures) c.loop-candidate.invariant.thinned
