use Rattle.std.proofs.Common.{◌≡◌, false, true, refl, sym, ◌∙◌, []}
use Rattle.std.proofs.lemmas.Result.{err_from_is_err_and}
use Rattle.tce_cert.specs.Faults.{ending}
use Rattle.tce_cert.proofs.Faulty.{missing, not_due, passed, behind_end, tail_behind_end, some_left}
use Rattle.tce_cert.proofs.DueLines.{no_end}
use Rattle.tce_cert.proofs.due.read_end.Goals as goal

pub returns-in_err-line-clause-err : goal.returns-in_err-line-clause-err
returns-in_err-line-clause-err c =
    let p = err_from_is_err_and c.from_residual.result c.from_residual.ensures.1 in
    rw (p.1, p.2) (missing c.args.space.now c.args.tree.now ending [] c.args.from.number c.args.from.rest.now c.in_err-line.field-0.0 c.in_err-line.ensures.0 c.in_err-line.ensures.1)

pub returns-then-not-is_end_line-clause-err : goal.returns-then-not-is_end_line-clause-err
returns-then-not-is_end_line-clause-err c =
    not_due c.args.space.now c.args.tree.now ending [] c.args.from.number c.in_ok-line.to.number c.args.from.rest.now c.in_ok-line.line.now c.in_ok-line.to.rest.now c.fault_of.result c.in_ok-line.ensures
    (no_end c.args.space.now c.args.tree.now c.in_ok-line.line.now (λ e. let f : false ≡ true = sym c.if-not-is_end_line.true ∙ c.is_end_line.ensures.1 e in cc)) c.fault_of.ensures

pub returns-in_err-behind-clause-err : goal.returns-in_err-behind-clause-err
returns-in_err-behind-clause-err c =
    let p = err_from_is_err_and c.from_residual-in_err-behind.result c.from_residual-in_err-behind.ensures.1 in
    rw (p.1, p.2)
    (passed c.args.space.now c.args.tree.now ending [] [] c.args.from.number c.in_ok-line.to.number c.args.from.rest.now c.in_ok-line.line.now c.in_ok-line.to.rest.now c.in_err-behind.field-0.0 c.in_ok-line.ensures
    (c.is_end_line.ensures.0 c.if-not-is_end_line.false, refl)
    (tail_behind_end c.args.space.now c.args.tree.now c.in_ok-line.to.number c.in_ok-line.to.rest.now c.in_err-behind.field-0.0 c.in_err-behind.ensures.0
    (some_left c.in_ok-line.to.rest.now c.is_empty.result c.is_empty.ensures c.if-is_empty.false) c.in_err-behind.ensures.1))

pub returns-clause-err : goal.returns-clause-err
returns-clause-err c =
    passed c.args.space.now c.args.tree.now ending [] [] c.args.from.number c.in_ok-line.to.number c.args.from.rest.now c.in_ok-line.line.now c.in_ok-line.to.rest.now c.fault_of-2.result c.in_ok-line.ensures
    (c.is_end_line.ensures.0 c.if-not-is_end_line.false, refl)
    (behind_end c.args.space.now c.args.tree.now c.in_ok-line.to.number c.in_ok-behind.field-0-1.number c.in_ok-line.to.rest.now c.in_ok-behind.behind.now c.in_ok-behind.field-0-1.rest.now c.fault_of-2.result c.in_ok-behind.ensures c.fault_of-2.ensures)

pub returns-in_err-line-clause-ok : goal.returns-in_err-line-clause-ok
returns-in_err-line-clause-ok c =
    let p = err_from_is_err_and c.from_residual.result c.from_residual.ensures.1 in
    rw p.1 tt

pub returns-in_err-behind-clause-ok : goal.returns-in_err-behind-clause-ok
returns-in_err-behind-clause-ok c =
    let p = err_from_is_err_and c.from_residual-in_err-behind.result c.from_residual-in_err-behind.ensures.1 in
    rw p.1 tt
