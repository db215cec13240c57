use Rattle.std.proofs.Common.{sym, subst, None}
use Rattle.std.proofs.lemmas.Result.{err_from_is_err_and}
use Rattle.tce_space.specs.Space.{IsDeclared}
use Rattle.tce_tree.proofs.NamedIndexes.{node_dims_declared}
use Rattle.tce_fields.specs.Reading.{GivesExactly}
use Rattle.tce_cert.specs.Forms.{StatesRow}
use Rattle.tce_cert.specs.Faults.{row}
use Rattle.tce_cert.proofs.Faulty.{missing, not_due}
use Rattle.tce_cert.proofs.DueLines.{no_row}
use Rattle.tce_cert.proofs.due.read_row.Goals as goal

pub returns-in_err-line-clause-err : goal.returns-in_err-line-clause-err
returns-in_err-line-clause-err c =
    let p = err_from_is_err_and c.from_residual.result c.from_residual.ensures.1 in
    rw (p.1, p.2) (λ ds. missing c.args.space.now c.args.tree.now (row c.args.v) ds c.args.from.number c.args.from.rest.now c.in_err-line.field-0.0 c.in_err-line.ensures.0 c.in_err-line.ensures.1)

pub read_row_line-requires : goal.read_row_line-requires
read_row_line-requires c =
    subst (IsDeclared c.args.space.now) (sym c.dims.ensures)
    (node_dims_declared c.args.space.now c.args.tree.now c.args.v c.requires.inside c.index_count-declared.ensures.limits.index_limit c.requires.declared)

pub returns-in-None-clause-err : goal.returns-in-None-clause-err
returns-in-None-clause-err c ds =
    not_due c.args.space.now c.args.tree.now (row c.args.v) ds c.args.from.number c.in_ok-line.to.number c.args.from.rest.now c.in_ok-line.line.now c.in_ok-line.to.rest.now c.fault_of.result c.in_ok-line.ensures
    (no_row c.args.space.now c.args.tree.now c.args.v c.in_ok-line.line.now
    (subst (λ dims. GivesExactly None (StatesRow c.args.space.now dims c.in_ok-line.line.now)) c.dims.ensures c.in-None.ensures)) c.fault_of.ensures

pub returns-in_err-line-clause-ok : goal.returns-in_err-line-clause-ok
returns-in_err-line-clause-ok c =
    let p = err_from_is_err_and c.from_residual.result c.from_residual.ensures.1 in
    rw p.1 tt
