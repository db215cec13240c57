use Rattle.std.proofs.Common.{◌⊎◌, ◌<◌, ◌^◌, ◌∙◌, ◌∷◌, [], ◌++◌, List, inl, inr, sym, ap, ap₂, subst}
use Rattle.std.specs.List.{All, AllPairs, Any, Contains}
use Rattle.std.proofs.lemmas.List.Elements.{All-weaker, All-contains}
use Rattle.tce_fusion.specs.Relation.{none}
use Rattle.tce_search.specs.declared.candidate.Candidate.{Candidate}
use Rattle.tce_search.specs.declared.table.Choosing.{Choosing}
use Rattle.tce_search.specs.Candidates.{StandForAll, AreApart, ChoiceCovered, IsReachedOrBound}
use Rattle.tce_search.specs.Groups.{Listed, LeavesOpen}
use Rattle.tce_search.specs.Joins.{IsSomeJoinBelow, IsSomeStepFrom, HasNext}
use Rattle.std.proofs.lemmas.List.Sorted.{All-permutation}
use Rattle.tce_search.proofs.Covers.{pairs_later}
use Rattle.tce_search.proofs.CandidatesJoining.{pairs_from_joins, joins_placed, step_reached, limit_stands, limit_alone, limit_bounds}
use Rattle.tce_search.proofs.Reordered.{stand_permuted, apart_permuted}
use Rattle.tce_search.proofs.table.candidates_of.Goals as goal

pub add_all_steps-requires-clause-limit : goal.add_all_steps-requires-clause-limit
add_all_steps-requires-clause-limit c =
    limit_stands c.push.new.self.outer c.of-limit.result c.push.new.self.candidates
    (c.in_ok-push.ensures.candidates ∙ ap₂ (λ (xs : List Candidate) x. xs ++ x ∷ []) (ap (λ (l : Listed). l.candidates) c.in_ok-list.ensures) c.at_limit.ensures)

pub add_all_steps-requires-clause-next : goal.add_all_steps-requires-clause-next
add_all_steps-requires-clause-next c = subst (All HasNext) (sym c.as_slice.ensures.value) c.in_ok-joins.ensures.next

pub thinned-requires : goal.thinned-requires
thinned-requires c =
    let start = c.push.new.self in
    let is = c.in_ok-push.ensures.candidates ∙ ap₂ (λ (xs : List Candidate) x. xs ++ x ∷ []) (ap (λ (l : Listed). l.candidates) c.in_ok-list.ensures) c.at_limit.ensures in
    subst (λ o. AllPairs (LeavesOpen o) c.add_all_steps.new.list.candidates) (sym c.in_ok-add_all_steps.ensures.grows.outer)
    (c.in_ok-add_all_steps.ensures.grows.later (limit_alone start.outer c.of-limit.result start.candidates is))

pub returns-clause-covered : goal.returns-clause-covered
returns-clause-covered c =
    let outer = c.args.loops.outer in
    let limit = c.of-limit.result in
    let loops = c.args.loops.own in
    let choices = c.args.choices.now in
    let lefts = c.args.lefts.now in
    let rights = c.args.rights.now in
    let start = c.push.new.self in
    let joins = c.in_ok-joins.joins.items in
    let mid = c.add_all_steps.new.list.candidates in
    let kept = c.in_ok-kept.kept.items in
    let new = c.in_ok-table.table.items in
    let here = c.in_ok-add_all_steps.ensures in
    let same = c.in_ok-push.ensures.outer ∙ ap (λ (l : Listed). l.outer) c.in_ok-list.ensures in
    let is = c.in_ok-push.ensures.candidates ∙ ap₂ (λ (xs : List Candidate) x. xs ++ x ∷ []) (ap (λ (l : Listed). l.candidates) c.in_ok-list.ensures) c.at_limit.ensures in
    let each = subst (λ js. All (λ (join : Candidate). All (ChoiceCovered outer join.row mid) choices) js) c.as_slice.ensures.value
    (subst (λ o. All (λ (join : Candidate). All (ChoiceCovered o join.row mid) choices) c.as_slice.result.now) same here.covered) in
    let at_limit = subst (λ o. StandForAll o start.candidates mid) same here.grows.others none limit (limit_stands outer limit start.candidates is) in
    let covered = pairs_from_joins limit loops outer choices mid joins c.bits-number.ensures.bounded
    (joins_placed limit loops lefts rights joins c.in_ok-joins.ensures.joins) each at_limit lefts rights c.in_ok-joins.ensures.covered in
    let shorter = pairs_later loops outer choices mid kept lefts rights (subst (λ o. StandForAll o mid kept) (here.grows.outer ∙ same) c.in_ok-kept.ensures.others) covered in
    pairs_later loops outer choices kept new lefts rights (stand_permuted outer kept new c.in_ok-table.ensures) shorter

pub returns-clause-reached : goal.returns-clause-reached
returns-clause-reached c =
    let limit = c.of-limit.result in
    let loops = c.args.loops.own in
    let choices = c.args.choices.now in
    let lefts = c.args.lefts.now in
    let rights = c.args.rights.now in
    let start = c.push.new.self in
    let joins = c.in_ok-joins.joins.items in
    let mid = c.add_all_steps.new.list.candidates in
    let is = c.in_ok-push.ensures.candidates ∙ ap₂ (λ (xs : List Candidate) x. xs ++ x ∷ []) (ap (λ (l : Listed). l.candidates) c.in_ok-list.ensures) c.at_limit.ensures in
    let least = c.args.limits.now.least in
    let reached = IsReachedOrBound least loops choices lefts rights in
    let small : limit < 2 ^ 96 = c.of-limit.ensures.small (2 ^ 96) c.requires.target c.requires.least in
    let choosing : Choosing = record { choices = c.args.choices; loops = loops; limit = limit; limits = c.args.limits.now } in
    let from = λ (x : Candidate). Contains start.candidates x ⊎ Any (λ (join : Candidate). IsSomeStepFrom choosing join x) joins in
    let origin : All from mid = subst (λ js. All (λ (x : Candidate). Contains start.candidates x ⊎ Any (λ (join : Candidate). IsSomeStepFrom choosing join x) js) mid) c.as_slice.ensures.value c.in_ok-add_all_steps.ensures.origin in
    let all : All reached mid = All-weaker from reached
    (λ x h. elim h [
      | inl there ↦ inr (limit_bounds c.args.loops.outer limit start.candidates is least choices x c.of-limit.ensures.low small there)
      | inr found ↦ step_reached loops choosing lefts rights found.1 x small
          (All-contains (IsSomeJoinBelow limit loops lefts rights) joins found.1 c.in_ok-joins.ensures.joins (found.0, found.2, found.3)) found.4
    ]) mid origin in
    let kept = c.in_ok-kept.kept.items in
    All-permutation reached kept c.in_ok-table.table.items c.in_ok-table.ensures
    (All-weaker (Contains mid) reached (λ x inn. All-contains reached mid x all inn) kept c.in_ok-kept.ensures.origin)

pub returns-clause-apart : goal.returns-clause-apart
returns-clause-apart c =
    let same = c.in_ok-push.ensures.outer ∙ ap (λ (l : Listed). l.outer) c.in_ok-list.ensures in
    let kept = c.in_ok-kept.kept.items in
    apart_permuted c.args.loops.outer kept c.in_ok-table.table.items c.in_ok-table.ensures
    (subst (λ o. AllPairs (AreApart o) kept) (c.in_ok-add_all_steps.ensures.grows.outer ∙ same) c.in_ok-kept.ensures.apart)
