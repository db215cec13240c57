use Rattle.std.proofs.lemmas.Result.{err_from_is_err_and}
use Rattle.std.proofs.Common.{sym, subst}
use Rattle.tce_nesting.specs.Ends.{AreRuns}
use Rattle.tce_search.specs.Laws.{rows_of}
use Rattle.tce_search.proofs.joins.add_all_joins.Goals as goal

pub returns-in_err-runs : goal.returns-in_err-runs
returns-in_err-runs c =
    let p = err_from_is_err_and c.from_residual.result c.from_residual.ensures.1 in
    rw p.1 (record { outer = tt; covered = tt; joins = tt; later = tt })

pub add_joins_by_runs-requires-clause-runs : goal.add_joins_by_runs-requires-clause-runs
add_joins_by_runs-requires-clause-runs c = subst (AreRuns c.args.loops (rows_of c.args.rights.now)) (sym c.as_slice.ensures.value) c.in_ok-runs.ensures

pub returns : goal.returns
returns c = c.add_joins_by_runs.ensures
