use Rattle.std.proofs.Common.{◌⊎◌, inl, inr, arith, subst, get_or}
use Rattle.std.specs.List.{Contains}
use Rattle.std.proofs.lemmas.List.Elements.{AllWithin-none, AllWithin-more, All-from_all_within, All-weaker, All-contains_itself, at_read, AllWithin-upto}
use Rattle.tce_fusion.specs.Relation.{above, none}
use Rattle.tce_nesting.specs.Stretches.{AllowsNone}
use Rattle.tce_nesting.proofs.StretchParts.{stretch_passed}
use Rattle.tce_search.specs.declared.candidate.Candidate.{Candidate}
use Rattle.tce_search.specs.Candidates.{ChoiceCovered}
use Rattle.tce_search.specs.Joins.{IsNewStep, IsSomeStepFrom, Grows}
use Rattle.tce_search.proofs.Covers.{choices_later, from_earlier, read_contains}
use Rattle.tce_search.proofs.CandidatesGrowing.{grows_none, grows_from, grows_further, stands_later}
use Rattle.tce_search.proofs.table.add_steps.Goals as goal

pub loop-place-init : goal.loop-place-init
loop-place-init c =
    let start = c.args.list.now in
    let choices = c.args.choosing.now.choices.now in
    let join = c.args.join.now in
    let from = λ (x : Candidate). Contains start.candidates x ⊎ IsSomeStepFrom c.args.choosing.now join x in
    record {
      covered = AllWithin-none (ChoiceCovered start.outer join.row start.candidates) choices 0;
      grows = grows_none start;
      limit = c.requires.limit;
      origin = All-weaker (Contains start.candidates) from (λ x inn. inl inn) start.candidates (All-contains_itself start.candidates);
    }

pub loop-place-preserved-then-allows_none : goal.loop-place-preserved-then-allows_none
loop-place-preserved-then-allows_none c =
    let choices = c.args.choosing.now.choices.now in
    let k = c.loop-place.place in
    let join = c.args.join.now in
    let outer = c.args.list.now.outer in
    let invariant = c.loop-place.invariant in
    let stretch = get_or c.args.stretches.now k c.index-stretches-place.result in
    record {
      covered = stretch_passed (ChoiceCovered outer join.row c.loop-place.list.candidates) k join.row.classes choices stretch
          (c.requires.stretches k c.index-stretches-place.result c.loop-place-test.true c.if-place-lt-MAX_CHOICES.true)
          (subst (λ (x : Candidate). AllowsNone (above x.row.classes) stretch.common stretch.all) c.join.view_is (c.allows_none.ensures c.if-allows_none.true))
          (λ x refused allowed. absurd (refused allowed)) invariant.covered;
      grows = invariant.grows;
      limit = invariant.limit;
      origin = invariant.origin;
    }

pub loop-place-smaller-then-allows_none : goal.loop-place-smaller-then-allows_none
loop-place-smaller-then-allows_none c =
    let is = c.requires.stretches c.loop-place.place c.index-stretches-place.result c.loop-place-test.true c.if-place-lt-MAX_CHOICES.true in
    omega (arith, is.later, is.inside)

pub loop-place-preserved : goal.loop-place-preserved
loop-place-preserved c =
    let choices = c.args.choosing.now.choices.now in
    let k = c.loop-place.place in
    let choice = c.index-choices-place.result in
    let join = c.args.join.now in
    let start = c.args.list.now in
    let old = c.loop-place.list in
    let new = c.add_choice.new.list in
    let here = c.in_ok-add_choice.ensures in
    let first = c.loop-place.invariant.grows in
    let second : Grows old new = here.grows in
    let covers = ChoiceCovered start.outer join.row new.candidates in
    record {
      covered = AllWithin-more covers choices 0 k
          (choices_later start.outer join.row old.candidates new.candidates choices k (grows_from start old new first.outer second) c.loop-place.invariant.covered)
          (at_read choices covers k choice c.loop-place-test.true c.index-choices-place.is (subst (λ o. ChoiceCovered o join.row new.candidates choice) first.outer here.covered));
      grows = grows_further start old new first second;
      limit = stands_later none c.args.choosing.now.limit old new second c.loop-place.invariant.limit;
      origin = from_earlier (λ (x : Candidate). Contains start.candidates x ⊎ IsSomeStepFrom c.args.choosing.now join x) (IsNewStep c.args.choosing.now join choice) old.candidates new.candidates here.origin
          (λ x s. inr (record { choice = choice; chosen = read_contains choices k choice c.loop-place-test.true c.index-choices-place.is; step = s }))
          c.loop-place.invariant.origin;
    }

pub returns-clause-covered : goal.returns-clause-covered
returns-clause-covered c =
    let covers = ChoiceCovered c.args.list.now.outer c.args.join.now.row c.loop-place.list.candidates in
    All-from_all_within covers c.args.choosing.now.choices.now (AllWithin-upto covers c.args.choosing.now.choices.now 0 c.loop-place.place _ c.loop-place-test.false c.loop-place.invariant.covered)
