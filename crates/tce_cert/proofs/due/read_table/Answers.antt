use Rattle.std.proofs.Common.{refl, subst}
use Rattle.std.proofs.lemmas.Result.{err_from_is_err_and}
use Rattle.tce_cert.specs.Forms.{StatesTable}
use Rattle.tce_cert.specs.Faults.{table}
use Rattle.tce_cert.proofs.Faulty.{missing, not_due}
use Rattle.tce_cert.proofs.DueLines.{no_table, other_table}
use Rattle.tce_cert.proofs.due.read_table.Goals as goal

pub returns-in_err-line-clause-err : goal.returns-in_err-line-clause-err
returns-in_err-line-clause-err c =
    let p = err_from_is_err_and c.from_residual.result c.from_residual.ensures.1 in
    rw (p.1, p.2) (λ ds. missing c.args.space.now c.args.tree.now (table c.args.v) ds c.args.from.number c.args.from.rest.now c.in_err-line.field-0.0 c.in_err-line.ensures.0 c.in_err-line.ensures.1)

pub returns-in_default-clause-err : goal.returns-in_default-clause-err
returns-in_default-clause-err c ds =
    not_due c.args.space.now c.args.tree.now (table c.args.v) ds c.args.from.number c.in_ok-line.to.number c.args.from.rest.now c.in_ok-line.line.now c.in_ok-line.to.rest.now c.fault_of.result c.in_ok-line.ensures
    (no_table c.args.space.now c.args.tree.now c.args.v c.in_ok-line.line.now c.in_default.ensures) c.fault_of.ensures

pub returns-then-of_node-v-clause-err : goal.returns-then-of_node-v-clause-err
returns-then-of_node-v-clause-err c ds =
    not_due c.args.space.now c.args.tree.now (table c.args.v) ds c.args.from.number c.in_ok-line.to.number c.args.from.rest.now c.in_ok-line.line.now c.in_ok-line.to.rest.now c.fault_of-then-of_node-v.result c.in_ok-line.ensures
    (other_table c.args.space.now c.args.tree.now c.args.v c.in-Some.of_node c.in-Some.rows c.in_ok-line.line.now c.in-Some.ensures c.if-of_node-v.true) c.fault_of-then-of_node-v.ensures

pub returns-clause-ok : goal.returns-clause-ok
returns-clause-ok c = record {
  line = c.in_ok-line.line.now;
  reads = c.in_ok-line.ensures;
  holds = subst (λ k. StatesTable c.in_ok-line.line.now k c.in-Some.rows) c.if-of_node-v.false ((c.in-Some.ensures (c.in-Some.of_node, c.in-Some.rows)).0 refl);
}

pub returns-in_err-line-clause-ok : goal.returns-in_err-line-clause-ok
returns-in_err-line-clause-ok c =
    let p = err_from_is_err_and c.from_residual.result c.from_residual.ensures.1 in
    rw p.1 tt
