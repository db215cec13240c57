use Rattle.std.proofs.Common.{◌⊎◌, ◌∙◌, sym, subst, get_or}
use Rattle.std.proofs.lemmas.Result.{err_from_is_err_and}
use Rattle.std.specs.List.{All, AllPairs, Any, Contains}
use Rattle.std.proofs.lemmas.List.Elements.{AllWithin-more, AllWithin-none, All-nil, All-from_all_within, at_read, AllWithin-upto}
use Rattle.tce_search.specs.declared.candidate.Candidate.{Candidate}
use Rattle.tce_search.specs.Candidates.{StandForAll, IsLimited, LeavesRoom}
use Rattle.tce_search.specs.Groups.{LeavesOpen}
use Rattle.tce_search.specs.Joins.{IsJoinBelow, IsSomeJoinBelow, JoinCovered, AreJoinable}
use Rattle.tce_search.proofs.Covers.{from_earlier, read_contains, item_of}
use Rattle.tce_search.proofs.CandidatesJoining.{join_later}
use Rattle.tce_search.proofs.Quantifiers.{no_pairs}
use Rattle.tce_search.proofs.joins.add_joins_by_runs.Goals as goal

pub loop-left-init : goal.loop-left-init
loop-left-init c = record {
  outer = c.requires.outer;
  starts = c.in_ok-starts.ensures.starts;
  covered = AllWithin-none (λ (left : Candidate). All (JoinCovered c.args.side.now.limit c.args.loops c.args.list.now.candidates left) c.args.side.now.candidates.now) c.args.lefts.now 0;
  joins =
      subst (All (IsSomeJoinBelow c.args.side.now.limit c.args.loops c.args.lefts.now c.args.side.now.candidates.now)) (sym c.requires.empty)
      (All-nil (IsSomeJoinBelow c.args.side.now.limit c.args.loops c.args.lefts.now c.args.side.now.candidates.now));
  later = subst (AllPairs (LeavesOpen c.args.loops)) (sym c.requires.empty) (no_pairs (LeavesOpen c.args.loops));
}

pub add_joins-requires-clause-joinable : goal.add_joins-requires-clause-joinable
add_joins-requires-clause-joinable c =
    let joinable : AreJoinable c.args.loops c.left-item.result c.args.side.now = record {
      few = c.requires.loops;
      limited_left = item_of IsLimited c.args.lefts.now c.loop-left.left-index c.left-item.result c.loop-left-test.true c.left-item.is c.requires.lefts;
      limited_rights = c.requires.rights;
      room =
          item_of (λ (left : Candidate). All (LeavesRoom left) c.args.side.now.candidates.now) c.args.lefts.now c.loop-left.left-index c.left-item.result c.loop-left-test.true
          c.left-item.is c.requires.room;
      known = c.requires.runs;
    } in
    subst (λ o. AreJoinable o c.left-item.result c.args.side.now) (sym c.loop-left.invariant.outer) joinable

pub loop-left-preserved : goal.loop-left-preserved
loop-left-preserved c =
    let here = c.in_ok-add_joins.ensures in
    let limit = c.args.side.now.limit in
    let loops = c.args.loops in
    let same = c.loop-left.invariant.outer in
    let old = c.loop-left.list.candidates in
    let new = c.add_joins.new.list.candidates in
    let later = subst (λ o. StandForAll o old new) same here.grown.others in
    let left = c.left-item.result in
    let lefts = c.args.lefts.now in
    let rights = c.args.side.now.candidates.now in
    let k = c.loop-left.left-index in
    let covers = λ (x : Candidate). All (JoinCovered limit loops new x) rights in
    record {
      outer = here.grown.outer ∙ same;
      starts = c.in_ok-starts-2.ensures.starts;
      covered = AllWithin-more covers lefts 0 k
          (λ n d from low. λ m e inner. join_later limit loops old new (get_or lefts n d) (get_or rights m e) later (c.loop-left.invariant.covered n d from low m e inner))
          (at_read lefts covers k left c.loop-left-test.true c.left-item.is (subst (λ o. All (JoinCovered limit o new left) rights) same here.covered));
      joins = from_earlier (IsSomeJoinBelow limit loops lefts rights) (λ (x : Candidate). Any (λ (right : Candidate). IsJoinBelow limit loops left right x) rights) old new
          (subst (λ o. All (λ (x : Candidate). Contains old x ⊎ Any (λ (right : Candidate). IsJoinBelow limit o left right x) rights) new) same here.grown.origin)
          (λ x s. record {
            left = left;
            right = s.1;
            from_left = read_contains lefts k left c.loop-left-test.true c.left-item.is;
            from_right = (s.0, s.2, s.3);
            join = s.4;
          })
          c.loop-left.invariant.joins;
      later = subst (λ o. AllPairs (LeavesOpen o) old → AllPairs (LeavesOpen o) new) same here.grown.later c.loop-left.invariant.later;
    }

pub returns-in_err-starts : goal.returns-in_err-starts
returns-in_err-starts c =
    let p = err_from_is_err_and c.from_residual.result c.from_residual.ensures.1 in
    rw p.1 (record { outer = tt; covered = tt; joins = tt; later = tt })

pub returns-in_err-starts-2 : goal.returns-in_err-starts-2
returns-in_err-starts-2 c =
    let p = err_from_is_err_and c.from_residual-in_err-starts-2.result c.from_residual-in_err-starts-2.ensures.1 in
    rw p.1 (record { outer = tt; covered = tt; joins = tt; later = tt })

pub returns-in_err-add_joins : goal.returns-in_err-add_joins
returns-in_err-add_joins c =
    let p = err_from_is_err_and c.from_residual-in_err-add_joins.result c.from_residual-in_err-add_joins.ensures.1 in
    rw p.1 (record { outer = tt; covered = tt; joins = tt; later = tt })

pub returns : goal.returns
returns c =
    let covers = λ (left : Candidate). All (JoinCovered c.args.side.now.limit c.args.loops c.loop-left.list.candidates left) c.args.side.now.candidates.now in
    record {
      outer = c.loop-left.invariant.outer;
      covered = All-from_all_within covers c.args.lefts.now (AllWithin-upto covers c.args.lefts.now 0 c.loop-left.left-index _ c.loop-left-test.false c.loop-left.invariant.covered);
      joins = c.loop-left.invariant.joins;
      later = c.loop-left.invariant.later;
    }
