use Rattle.std.proofs.Common.{◌⊎◌, inr}
use Rattle.std.specs.List.{Contains}
use Rattle.tce_search.specs.declared.candidate.Candidate.{Candidate}
use Rattle.tce_search.specs.Joins.{IsNewStep}
use Rattle.tce_search.proofs.Covers.{choice_later, from_earlier}
use Rattle.tce_search.proofs.CandidatesGrowing.{grows_from, grows_further}
use Rattle.tce_search.proofs.table.add_choice.Goals as goal

pub returns-clause-covered : goal.returns-clause-covered
returns-clause-covered c =
    let start = c.args.list.now in
    let mid = c.add_step.new.list in
    let new = c.add_bound.new.list in
    let first = c.in_ok-add_step.ensures in
    choice_later start.outer c.args.join.now.row mid.candidates new.candidates c.args.choice.now
    (grows_from start mid new first.grows.outer c.in_ok-add_bound.ensures.grows) first.covered

pub returns-clause-grows : goal.returns-clause-grows
returns-clause-grows c =
    grows_further c.args.list.now c.add_step.new.list c.add_bound.new.list c.in_ok-add_step.ensures.grows c.in_ok-add_bound.ensures.grows

pub returns-clause-origin : goal.returns-clause-origin
returns-clause-origin c =
    let start = c.args.list.now in
    let new_step = IsNewStep c.args.choosing.now c.args.join.now c.args.choice.now in
    from_earlier (λ (x : Candidate). Contains start.candidates x ⊎ new_step x) new_step c.add_step.new.list.candidates c.add_bound.new.list.candidates
    c.in_ok-add_bound.ensures.origin (λ x s. inr s) c.in_ok-add_step.ensures.origin
