use Rattle.std.proofs.Common.{◌⊎◌, inl, inr, sym, subst}
use Rattle.std.specs.List.{All, Contains}
use Rattle.std.proofs.lemmas.Bool.{both_ways}
use Rattle.std.proofs.lemmas.List.Elements.{All-push, All-weaker, All-contains_itself}
use Rattle.tce_search.specs.declared.candidate.Candidate.{Candidate}
use Rattle.tce_search.specs.Candidates.{IsBoundOf}
use Rattle.tce_search.specs.Joins.{IsNewStep}
use Rattle.tce_search.proofs.Adding.{others_stand, open_later}
use Rattle.tce_search.proofs.table.add_bound.Goals as goal

pub returns-clause-grows : goal.returns-clause-grows
returns-clause-grows c =
    let last : Candidate = record { row = c.in-Some.row; sets = c.new-sets.result } in
    let outer = c.args.list.now.outer in
    let old = c.args.list.now.candidates in
    let new = c.push.new.self.candidates in
    record {
      outer = c.in_ok-push.ensures.outer;
      others = others_stand outer old new last c.in_ok-push.ensures.candidates;
      later = open_later outer old new last c.in_ok-push.ensures.candidates (λ found. both_ways c.covers.result c.if-covers.false (c.covers.ensures.1 found));
    }

pub returns-clause-origin : goal.returns-clause-origin
returns-clause-origin c =
    let last : Candidate = record { row = c.in-Some.row; sets = c.new-sets.result } in
    let old = c.args.list.now.candidates in
    let from = λ (x : Candidate). Contains old x ⊎ IsNewStep c.args.choosing.now c.args.join.now c.args.choice.now x in
    let bound : IsBoundOf c.args.choosing.now.limits.least c.args.choice.now last = record { sets = c.new-sets.ensures; high = c.in-Some.ensures.high; within = c.in-Some.ensures.within } in
    subst (All from) (sym c.in_ok-push.ensures.candidates)
    (All-push from old last (All-weaker (Contains old) from (λ x inn. inl inn) old (All-contains_itself old)) (inr (inr bound, c.in-Some.ensures.cheap)))
