use Rattle.std.proofs.Common.{ℕ, ◌<◌, List, length, sym, ap, subst, arith, get_or}
use Rattle.std.proofs.lemmas.List.{get_or_default}
use Rattle.std.proofs.lemmas.List.Elements.{AllWithin-none, AllWithin-more, at_read}
use Rattle.tce_nesting.specs.declared.runs.Run.{Run}
use Rattle.tce_search.specs.Candidates.{StandForAll}
use Rattle.tce_search.specs.Joins.{AreJoinable, RunCovered}
use Rattle.tce_search.proofs.JoinedLists.{grown_none, grown_further}
use Rattle.tce_search.proofs.CandidatesJoining.{join_later}
use Rattle.tce_search.proofs.RunParts.{rows_count}
use Rattle.tce_search.proofs.StartParts.{IsRunCovered, all_covered}
use Rattle.tce_search.proofs.joins.add_joins.Goals as goal

pub loop-start-init : goal.loop-start-init
loop-start-init c = record {
  covered = AllWithin-none (IsRunCovered c.args.list.now.outer c.args.list.now.candidates c.args.left.now c.args.rights.now) _ 0;
  grown = grown_none c.args.left.now c.args.rights.now c.args.list.now;
}

pub add_run-requires-clause-joinable : goal.add_run-requires-clause-joinable
add_run-requires-clause-joinable c = subst (λ o. AreJoinable o c.args.left.now c.args.rights.now) (sym c.loop-start.invariant.grown.outer) c.requires.joinable

pub loop-start-preserved : goal.loop-start-preserved
loop-start-preserved c =
    let rights = c.args.rights.now in
    let limit = rights.limit in
    let all = rights.candidates.now in
    let runs = rights.runs.now in
    let left = c.args.left.now in
    let places = c.args.starts.now.places.items in
    let k = c.loop-start.start-index in
    let first = c.args.list.now in
    let old = c.loop-start.list in
    let new = c.add_run.new.list in
    let here = c.in_ok-add_run.ensures in
    let grown = c.loop-start.invariant.grown in
    let later = subst (λ o. StandForAll o old.candidates new.candidates) grown.outer here.grown.others in
    let items = c.as_slice-start-items.result.now in
    let same = c.as_slice-start-items.ensures.value in
    let start = get_or items k 0 in
    let run = get_or runs start c.index-rights-start.result in
    let is = ap (λ r. get_or runs start r) c.index-rights-start.is in
    let low : k < length places = omega (arith, c.loop-start-test.true, c.as_slice-start-items.ensures.len) in
    let inside : start < length runs = let below = subst (λ (xs : List ℕ). get_or xs k 0 < length all) (sym same) (c.requires.starts.inside k 0 low) in let count = c.requires.joinable.known.count in omega (arith, below, count, rows_count all) in
    let ends = λ (r : Run). RunCovered first.outer new.candidates left rights start r.until in
    let here_covered = subst (λ o. RunCovered o new.candidates left rights start run.until) grown.outer here.covered in
    let covers = IsRunCovered first.outer new.candidates left rights in
    record {
      covered = AllWithin-more covers places 0 k
          (λ m d from before. λ r n e a b. join_later limit first.outer old.candidates new.candidates left (get_or all n e) later (c.loop-start.invariant.covered m d from before r n e a b))
          (λ d. subst covers (get_or_default places k 0 d low) (subst (λ (xs : List ℕ). covers (get_or xs k 0)) same (at_read runs ends start run inside is here_covered)));
      grown = grown_further left rights first old new grown here.grown;
    }

pub returns-clause-covered : goal.returns-clause-covered
returns-clause-covered c =
    let rights = c.args.rights.now in
    let places = c.args.starts.now.places.items in
    all_covered c.args.list.now.outer c.loop-start.list.candidates c.args.left.now rights c.args.starts.now c.requires.joinable.known c.requires.starts c.requires.own
    (λ k d low. c.loop-start.invariant.covered k d (omega arith) (omega (arith, low, c.loop-start-test.false, c.as_slice-start-items.ensures.len)))
