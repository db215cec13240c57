use Rattle.std.proofs.Common.{length-set, ap, ◌∙◌, length}
use Rattle.std.proofs.lemmas.Result.{err_from_is_err_and}
use Rattle.tce_cert.proofs.TableRows.{one_row, keeps_more, row_fault}
use Rattle.tce_cert.proofs.tables.read_rows.Goals as goal

pub returns-in_err-row-clause-err : goal.returns-in_err-row-clause-err
returns-in_err-row-clause-err c =
    let p = err_from_is_err_and c.from_residual.result c.from_residual.ensures.1 in
    rw (p.1, p.2) (λ other.
    row_fault c.args.space.now c.args.tree.now c.args.v c.args.rows c.loop.counter c.args.from.number c.loop.at.number c.args.from.rest.now c.loop.at.rest.now c.in_err-row.field-0.0 c.loop-test.true
    c.loop.invariant.keeps c.in_err-row.ensures.err)

pub loop-preserved : goal.loop-preserved
loop-preserved c = record {
  read =
      one_row c.args.space.now c.args.tree.now c.args.v c.loop.counter c.loop.at.number c.in_ok-row.next.number c.args.tables.now c.loop.tables c.push.new.self
      c.args.from.rest.now c.loop.at.rest.now c.in_ok-row.next.rest.now c.in_ok-row.row c.requires.listed c.loop.invariant.read c.in_ok-row.ensures.ok c.in_ok-push.ensures.added;
  keeps =
      keeps_more c.args.space.now c.args.tree.now c.args.v c.args.rows c.loop.counter c.args.from.number c.loop.at.number c.in_ok-row.next.number
      c.args.from.rest.now c.loop.at.rest.now c.in_ok-row.next.rest.now c.in_ok-row.row c.loop-test.true c.loop.invariant.keeps c.in_ok-row.ensures.ok;
  listed = ap length c.in_ok-push.ensures.added ∙ length-set c.loop.tables c.args.v _ ∙ c.loop.invariant.listed;
}

pub returns-in_err-row-clause-ok : goal.returns-in_err-row-clause-ok
returns-in_err-row-clause-ok c =
    let p = err_from_is_err_and c.from_residual.result c.from_residual.ensures.1 in
    rw p.1 tt

pub returns-in_err-row-clause-on : goal.returns-in_err-row-clause-on
returns-in_err-row-clause-on c =
    let p = err_from_is_err_and c.from_residual.result c.from_residual.ensures.1 in
    rw p.1 tt

pub returns-in_err-push-clause-ok : goal.returns-in_err-push-clause-ok
returns-in_err-push-clause-ok c =
    let p = err_from_is_err_and c.from_residual-in_err-push.result c.from_residual-in_err-push.ensures.1 in
    rw p.1 tt

pub returns-in_err-push-clause-on : goal.returns-in_err-push-clause-on
returns-in_err-push-clause-on c =
    let p = err_from_is_err_and c.from_residual-in_err-push.result c.from_residual-in_err-push.ensures.1 in
    rw p.1 tt
