use Rattle.std.proofs.lemmas.Bool.{false≢true, both_ways}
use Rattle.std.proofs.lemmas.Result.{err_from_is_err_and}
use Rattle.std.proofs.Common.{◌⊎◌, inl, inr, refl, arith, ◌∙◌, sym, ap₂, subst, ◌++◌}
use Rattle.std.specs.List.{All, Contains}
use Rattle.std.proofs.lemmas.List.Elements.{All-push, All-weaker, All-contains_itself}
use Rattle.tce_fusion.specs.Relation.{HasNoConflict}
use Rattle.tce_fusion.specs.Row.{rows_joined}
use Rattle.tce_search.specs.Steps.{IsRowJoin}
use Rattle.tce_search.specs.declared.candidate.Candidate.{Candidate}
use Rattle.tce_search.specs.Joins.{IsJoinBelow}
use Rattle.tce_search.proofs.Adding.{all_there, covered_before, covered_now, others_stand, open_later}
use Rattle.tce_search.proofs.joins.add_join.Goals as goal

pub returns-then-not-are_below : goal.returns-then-not-are_below
returns-then-not-are_below c = record {
  covered = λ quiet low. absurd (both_ways c.are_below.result c.if-not-are_below.true (c.are_below.ensures.1 low));
  outer = refl {a = c.args.list.now.outer};
  others = λ relation limit found. found;
  later = λ pairs. pairs;
  origin = all_there (IsJoinBelow c.args.limit c.args.list.now.outer c.args.left.now c.args.right.now) c.args.list.now.candidates;
}

pub returns-in_default : goal.returns-in_default
returns-in_default c = record {
  covered = λ quiet low. absurd (false≢true (c.in_default.ensures.conflict.1 (subst (λ o. HasNoConflict o (rows_joined c.args.left.now.row c.args.right.now.row)) (sym c.outer.ensures) quiet)));
  outer = refl {a = c.args.list.now.outer};
  others = λ relation limit found. found;
  later = λ pairs. pairs;
  origin = all_there (IsJoinBelow c.args.limit c.args.list.now.outer c.args.left.now c.args.right.now) c.args.list.now.candidates;
}

pub returns-then-covers : goal.returns-then-covers
returns-then-covers c = record {
  covered =
      covered_before c.args.list.now.outer c.args.left.now c.args.right.now c.in-Some.row
      (subst (λ o. IsRowJoin o c.args.left.now.row c.args.right.now.row c.in-Some.row) c.outer.ensures c.in-Some.ensures.joins) c.args.limit c.args.list.now.candidates
      (c.covers.ensures.0 c.if-covers.true);
  outer = refl {a = c.args.list.now.outer};
  others = λ relation limit found. found;
  later = λ pairs. pairs;
  origin = all_there (IsJoinBelow c.args.limit c.args.list.now.outer c.args.left.now c.args.right.now) c.args.list.now.candidates;
}

pub returns-in_err-push : goal.returns-in_err-push
returns-in_err-push c =
    let p = err_from_is_err_and c.from_residual.result c.from_residual.ensures.1 in
    rw p.1 (record { covered = tt; outer = tt; others = tt; later = tt; origin = tt })

pub returns-clause-covered : goal.returns-clause-covered
returns-clause-covered c =
    covered_now c.args.list.now.outer c.args.left.now c.args.right.now c.in-Some.row
    (subst (λ o. IsRowJoin o c.args.left.now.row c.args.right.now.row c.in-Some.row) c.outer.ensures c.in-Some.ensures.joins) c.args.limit c.args.list.now.candidates
    c.push.new.self.candidates (record { row = c.in-Some.row; sets = c.both_sets-sets.result }) refl c.in_ok-push.ensures.candidates

pub returns-clause-outer : goal.returns-clause-outer
returns-clause-outer c = c.push.ensures.outer

pub returns-clause-others : goal.returns-clause-others
returns-clause-others c =
    others_stand c.args.list.now.outer c.args.list.now.candidates c.push.new.self.candidates (record { row = c.in-Some.row; sets = c.both_sets-sets.result })
    c.in_ok-push.ensures.candidates

pub returns-clause-later : goal.returns-clause-later
returns-clause-later c =
    open_later c.args.list.now.outer c.args.list.now.candidates c.push.new.self.candidates (record { row = c.in-Some.row; sets = c.both_sets-sets.result })
    c.in_ok-push.ensures.candidates (λ found. both_ways c.covers.result c.if-covers.false (c.covers.ensures.1 found))

pub returns-clause-origin : goal.returns-clause-origin
returns-clause-origin c =
    let last : Candidate = record { row = c.in-Some.row; sets = c.both_sets-sets.result } in
    let old = c.args.list.now.candidates in
    let loops = c.args.list.now.outer in
    let left = c.args.left.now in
    let right = c.args.right.now in
    let from = λ (x : Candidate). Contains old x ⊎ IsJoinBelow c.args.limit loops left right x in
    let join : IsJoinBelow c.args.limit loops left right last = record {
      join = record {
        quiet = subst (λ o. HasNoConflict o (rows_joined left.row right.row)) c.outer.ensures (c.in-Some.ensures.conflict.0 refl);
        joins = subst (λ o. IsRowJoin o left.row right.row c.in-Some.row) c.outer.ensures c.in-Some.ensures.joins;
        sets = c.both_sets-sets.ensures ∙ ap₂ (λ xs ys. xs ++ ys) c.as_slice.ensures.value c.as_slice-2.ensures.value;
      };
      cheap = let low = c.are_below.ensures.0 c.if-not-are_below.false in omega (arith, low, c.in-Some.ensures.joins.cost);
    } in
    subst (All from) (sym c.in_ok-push.ensures.candidates)
    (All-push from old last (All-weaker (Contains old) from (λ x inn. inl inn) old (All-contains_itself old)) (inr join))
