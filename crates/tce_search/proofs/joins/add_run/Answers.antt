use Rattle.std.proofs.Common.{◌+◌, ◌<◌, ◌≤◌, length, sym, ap, subst, arith, get_or}
use Rattle.std.proofs.lemmas.List.Elements.{AllWithin-none, AllWithin-more, at_read}
use Rattle.tce_space.specs.IndexSet.{count}
use Rattle.tce_nesting.proofs.RunParts.{run_at}
use Rattle.tce_search.specs.declared.candidate.Candidate.{Candidate}
use Rattle.tce_search.specs.Joins.{JoinCovered}
use Rattle.tce_search.specs.Laws.{rows_of}
use Rattle.tce_search.specs.Candidates.{StandForAll}
use Rattle.tce_search.proofs.JoinedLists.{grown_none, grown_further, grown_by_one}
use Rattle.tce_search.proofs.CandidatesJoining.{join_later}
use Rattle.tce_search.proofs.RunParts.{rows_count}
use Rattle.tce_search.proofs.StartParts.{dear_skipped}
use Rattle.tce_search.proofs.joins.add_run.Goals as goal

pub loop-place-init : goal.loop-place-init
loop-place-init c = record {
  covered = AllWithin-none (JoinCovered c.args.rights.now.limit c.args.list.now.outer c.args.list.now.candidates c.args.left.now) c.args.rights.now.candidates.now c.args.from;
  grown = grown_none c.args.left.now c.args.rights.now c.args.list.now;
}

pub add_join-requires-clause-loops : goal.add_join-requires-clause-loops
add_join-requires-clause-loops c = subst (λ o. count o ≤ 10) (sym c.loop-place.invariant.grown.outer) c.requires.joinable.few

pub loop-place-preserved-then-saturating_sub-run : goal.loop-place-preserved-then-saturating_sub-run
loop-place-preserved-then-saturating_sub-run c =
    let rights = c.args.rights.now in
    let all = rights.candidates.now in
    let outer = c.args.list.now.outer in
    let place = c.loop-place.place in
    let runs = rights.runs.now in
    let run = get_or runs place c.index-rights-place.result in
    let low : place < length (rows_of all) = omega (arith, c.loop-place-test.true, c.requires.inside, rows_count all) in
    let is = run_at outer place (rows_of all) runs run c.requires.joinable.known low (ap (λ r. get_or runs place r) c.index-rights-place.is) in
    let own = ap (λ (x : Candidate). x.row.cost) c.left.view_is in
    let dear : rights.limit ≤ c.args.left.now.row.cost + run.cost = omega (arith, own, c.saturating_sub.ensures, c.if-saturating_sub-run.true) in
    record {
      covered = dear_skipped outer place all run is rights.limit c.args.from c.loop-place.list.candidates c.args.left.now dear c.loop-place.invariant.covered;
      grown = c.loop-place.invariant.grown;
    }

pub loop-place-preserved : goal.loop-place-preserved
loop-place-preserved c =
    let side = c.args.rights.now in
    let limit = side.limit in
    let left = c.args.left.now in
    let rights = side.candidates.now in
    let k = c.loop-place.place in
    let right = get_or rights k c.index-rights-place-in-loop-place.result in
    let is = ap (λ x. get_or rights k x) c.index-rights-place-in-loop-place.is in
    let start = c.args.list.now in
    let old = c.loop-place.list in
    let new = c.add_join.new.list in
    let here = c.in_ok-add_join.ensures in
    let first = c.loop-place.invariant.grown in
    let low : k < length rights = omega (arith, c.loop-place-test.true, c.requires.inside) in
    let second = grown_by_one left side old new k right low is here.outer here.others here.later here.origin in
    let later = subst (λ o. StandForAll o old.candidates new.candidates) first.outer here.others in
    let covers = JoinCovered limit start.outer new.candidates left in
    record {
      covered = AllWithin-more covers rights c.args.from k
          (λ m e from before. join_later limit start.outer old.candidates new.candidates left (get_or rights m e) later (c.loop-place.invariant.covered m e from before))
          (at_read rights covers k right low is (subst (λ o. JoinCovered limit o new.candidates left right) first.outer here.covered));
      grown = grown_further left side start old new first second;
    }
