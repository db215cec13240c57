use Rattle.std.proofs.lemmas.Result.{err_from_is_err_and}
use Rattle.tce_cert.specs.Faults.{node}
use Rattle.tce_cert.proofs.Faulty.{missing, not_due}
use Rattle.tce_cert.proofs.DueLines.{no_node}
use Rattle.tce_cert.proofs.due.read_node.Goals as goal

pub returns-in_err-line-clause-err : goal.returns-in_err-line-clause-err
returns-in_err-line-clause-err c =
    let p = err_from_is_err_and c.from_residual.result c.from_residual.ensures.1 in
    rw (p.1, p.2) (λ ds. missing c.args.space.now c.args.tree.now (node c.args.v) ds c.args.from.number c.args.from.rest.now c.in_err-line.field-0.0 c.in_err-line.ensures.0 c.in_err-line.ensures.1)

pub returns-in-Err-clause-err : goal.returns-in-Err-clause-err
returns-in-Err-clause-err c ds =
    not_due c.args.space.now c.args.tree.now (node c.args.v) ds c.args.from.number c.in_ok-line.to.number c.args.from.rest.now c.in_ok-line.line.now c.in_ok-line.to.rest.now c.fault_of.result c.in_ok-line.ensures
    (no_node c.args.space.now c.args.tree.now c.args.v c.in_ok-line.line.now c.in-Err.ensures.read) c.fault_of.ensures

pub returns-in_err-line-clause-ok : goal.returns-in_err-line-clause-ok
returns-in_err-line-clause-ok c =
    let p = err_from_is_err_and c.from_residual.result c.from_residual.ensures.1 in
    rw p.1 tt
