use Rattle.std.proofs.lemmas.Result.{err_from_is_err_and, IfOk-weaker}
use Rattle.std.proofs.Common.{ap, sym, subst}
use Rattle.std.specs.List.{AllPairs, Contains}
use Rattle.std.proofs.lemmas.List.Elements.{All-weaker, All-contains}
use Rattle.tce_search.specs.Candidates.{StandForAll}
use Rattle.tce_search.specs.Groups.{Listed, LeavesOpen}
use Rattle.tce_search.specs.Joins.{IsSomeJoinBelow, HasNext}
use Rattle.tce_search.proofs.CandidatesJoining.{joins_later, joins_next}
use Rattle.tce_search.proofs.joins.joins_of.Goals as goal

pub add_all_joins-requires-clause-outer : goal.add_all_joins-requires-clause-outer
add_all_joins-requires-clause-outer c = ap (λ (l : Listed). l.outer) c.in_ok-list.ensures

pub add_all_joins-requires-clause-empty : goal.add_all_joins-requires-clause-empty
add_all_joins-requires-clause-empty c = ap (λ (l : Listed). l.candidates) c.in_ok-list.ensures

pub returns-in_err-list : goal.returns-in_err-list
returns-in_err-list c =
    let p = err_from_is_err_and c.from_residual.result c.from_residual.ensures.1 in
    rw p.1 (record { covered = tt; joins = tt; next = tt })

pub returns-in_err-add_all_joins : goal.returns-in_err-add_all_joins
returns-in_err-add_all_joins c =
    let p = err_from_is_err_and c.from_residual-in_err-add_all_joins.result c.from_residual-in_err-add_all_joins.ensures.1 in
    rw p.1 (record { covered = tt; joins = tt; next = tt })

pub thinned-requires : goal.thinned-requires
thinned-requires c =
    let new = c.add_all_joins.new.list in
    subst (λ o. AllPairs (LeavesOpen o) new.candidates) (sym c.in_ok-add_all_joins.ensures.outer) c.in_ok-add_all_joins.ensures.later

pub returns-clause-covered : goal.returns-clause-covered
returns-clause-covered c =
    let here = c.in_ok-add_all_joins.ensures in
    let list = c.add_all_joins.new.list in
    IfOk-weaker c.thinned.result _ _
    (λ kept others. joins_later c.args.limit c.args.loops list.candidates kept.items c.args.lefts.now c.args.rights.now
    (subst (λ o. StandForAll o list.candidates kept.items) here.outer others) here.covered) c.thinned.ensures.others

pub returns-clause-joins : goal.returns-clause-joins
returns-clause-joins c =
    let old = c.add_all_joins.new.list.candidates in
    let is_join = IsSomeJoinBelow c.args.limit c.args.loops c.args.lefts.now c.args.rights.now in
    IfOk-weaker c.thinned.result _ _
    (λ kept origin. All-weaker (Contains old) is_join (λ x inn. All-contains is_join old x c.in_ok-add_all_joins.ensures.joins inn) kept.items origin)
    c.thinned.ensures.origin

pub returns-clause-next : goal.returns-clause-next
returns-clause-next c =
    let old = c.add_all_joins.new.list.candidates in
    let next = joins_next c.args.limit c.args.loops c.args.lefts.now c.args.rights.now old c.requires.lefts c.requires.rights c.requires.room c.in_ok-add_all_joins.ensures.joins in
    IfOk-weaker c.thinned.result _ _ (λ kept origin. All-weaker (Contains old) HasNext (λ x inn. All-contains HasNext old x next inn) kept.items origin)
    c.thinned.ensures.origin
