use Rattle.std.proofs.Common.{◌⊎◌, inl, inr, subst, sym, get_or}
use Rattle.std.specs.List.{All, Any, Contains}
use Rattle.std.proofs.lemmas.List.Elements.{AllWithin-none, AllWithin-more, All-from_all_within, All-weaker, All-contains_itself, at_read, AllWithin-upto}
use Rattle.tce_fusion.specs.Relation.{none}
use Rattle.tce_search.specs.declared.candidate.Candidate.{Candidate}
use Rattle.tce_search.specs.Candidates.{ChoiceCovered}
use Rattle.tce_search.specs.Joins.{IsSomeStepFrom, Grows}
use Rattle.tce_search.proofs.Covers.{choice_later, from_earlier}
use Rattle.tce_search.proofs.CandidatesGrowing.{grows_none, grows_from, grows_further, stands_later}
use Rattle.tce_search.proofs.table.add_all_steps.Goals as goal

pub loop-join-init : goal.loop-join-init
loop-join-init c =
    let start = c.args.list.now in
    let choices = c.args.choosing.now.choices.now in
    let joins = c.args.joins.now in
    let from = λ (x : Candidate). Contains start.candidates x ⊎ Any (λ (join : Candidate). IsSomeStepFrom c.args.choosing.now join x) joins in
    record {
      covered = AllWithin-none (λ (join : Candidate). All (ChoiceCovered start.outer join.row start.candidates) choices) joins 0;
      grows = grows_none start;
      limit = c.requires.limit;
      origin = All-weaker (Contains start.candidates) from (λ x inn. inl inn) start.candidates (All-contains_itself start.candidates);
    }

pub loop-join-preserved : goal.loop-join-preserved
loop-join-preserved c =
    let join = c.join-item.result in
    let choices = c.args.choosing.now.choices.now in
    let joins = c.args.joins.now in
    let k = c.loop-join.join-index in
    let start = c.args.list.now in
    let old = c.loop-join.list in
    let new = c.add_steps.new.list in
    let here = c.in_ok-add_steps.ensures in
    let first = c.loop-join.invariant.grows in
    let second : Grows old new = here.grows in
    let later = grows_from start old new first.outer second in
    let covers = λ (x : Candidate). All (ChoiceCovered start.outer x.row new.candidates) choices in
    record {
      covered = AllWithin-more covers joins 0 k
          (λ m d from low. λ n e inner. choice_later start.outer (get_or joins m d).row old.candidates new.candidates (get_or choices n e) later (c.loop-join.invariant.covered m d from low n e inner))
          (at_read joins covers k join c.loop-join-test.true c.join-item.is (subst (λ o. All (ChoiceCovered o join.row new.candidates) choices) first.outer here.covered));
      grows = grows_further start old new first second;
      limit = stands_later none c.args.choosing.now.limit old new second c.loop-join.invariant.limit;
      origin = from_earlier (λ (x : Candidate). Contains start.candidates x ⊎ Any (λ (j : Candidate). IsSomeStepFrom c.args.choosing.now j x) joins) (λ (x : Candidate). IsSomeStepFrom c.args.choosing.now join x) old.candidates new.candidates here.origin
          (λ x s. inr (k, join, c.loop-join-test.true, sym c.join-item.is, s))
          c.loop-join.invariant.origin;
    }

pub returns-clause-covered : goal.returns-clause-covered
returns-clause-covered c =
    let covers = λ (join : Candidate). All (ChoiceCovered c.args.list.now.outer join.row c.loop-join.list.candidates) c.args.choosing.now.choices.now in
    All-from_all_within covers c.args.joins.now (AllWithin-upto covers c.args.joins.now 0 c.loop-join.join-index _ c.loop-join-test.false c.loop-join.invariant.covered)
