use Rattle.std.proofs.Common.{◌≡◌, false, true, sym, ◌∙◌}
use Rattle.std.proofs.lemmas.Result.{err_from_is_err_and}
use Rattle.tce_cert.specs.Faults.{opening}
use Rattle.tce_cert.proofs.Faulty.{missing, not_due}
use Rattle.tce_cert.proofs.DueLines.{no_opening}
use Rattle.tce_cert.proofs.due.read_opening.Goals as goal

pub returns-in_err-line-clause-err : goal.returns-in_err-line-clause-err
returns-in_err-line-clause-err c =
    let p = err_from_is_err_and c.from_residual.result c.from_residual.ensures.1 in
    rw (p.1, p.2) (λ ds. missing c.args.space.now c.args.tree.now opening ds c.args.from.number c.args.from.rest.now c.in_err-line.field-0.0 c.in_err-line.ensures.0 c.in_err-line.ensures.1)

pub returns-else-is_opening_line-clause-err : goal.returns-else-is_opening_line-clause-err
returns-else-is_opening_line-clause-err c ds =
    not_due c.args.space.now c.args.tree.now opening ds c.args.from.number c.in_ok-line.to.number c.args.from.rest.now c.in_ok-line.line.now c.in_ok-line.to.rest.now c.fault_of.result c.in_ok-line.ensures
    (no_opening c.args.space.now c.args.tree.now c.in_ok-line.line.now (λ e. let f : false ≡ true = sym c.if-is_opening_line.false ∙ c.is_opening_line.ensures.1 e in cc)) c.fault_of.ensures

pub returns-in_err-line-clause-ok : goal.returns-in_err-line-clause-ok
returns-in_err-line-clause-ok c =
    let p = err_from_is_err_and c.from_residual.result c.from_residual.ensures.1 in
    rw p.1 tt
