use Rattle.std.proofs.Common.{◌<◌, ◌-◌, ◌+◌, length, length-set, map, ap, ◌∙◌, arith, ◌++◌}
use Rattle.std.specs.List.{range_with_len}
use Rattle.std.proofs.lemmas.Result.{err_from_is_err_and}
use Rattle.tce_tree.specs.ContractionTree.{operations}
use Rattle.tce_fusion.specs.Row.{rows_at}
use Rattle.tce_cert.specs.Faults.{table}
use Rattle.tce_cert.proofs.TableRuns.{opened, line_fault, rows_fault, keeps_table, one_table, empty_more}
use Rattle.tce_cert.proofs.tables.read_tables.Goals as goal

pub returns-in_err-rows-clause-err : goal.returns-in_err-rows-clause-err
returns-in_err-rows-clause-err c =
    let count = operations c.args.tree.now - 1 in
    let inside : c.loop-v.v < operations c.args.tree.now - 1 = omega (arith, c.loop-v-test.true, c.count-inner.ensures.value) in
    let p = err_from_is_err_and c.from_residual-in_err-rows.result c.from_residual-in_err-rows.ensures.1 in
    rw (p.1, p.2) (λ other.
    line_fault c.args.space.now c.args.tree.now (table c.loop-v.v) (map table (range_with_len 0 count)) (map table (range_with_len (c.loop-v.v + 1) (count - (c.loop-v.v + 1))))
    c.args.from.number c.loop-v.at.number c.args.from.rest.now c.loop-v.at.rest.now c.in_err-rows.field-0.0
    (opened c.args.space.now c.args.tree.now table c.loop-v.v count (map table (range_with_len 0 count)) c.args.from.number c.loop-v.at.number c.args.from.rest.now c.loop-v.at.rest.now inside c.loop-v.invariant.keeps)
    c.in_err-rows.ensures.err)

pub returns-in_err-at-clause-err : goal.returns-in_err-at-clause-err
returns-in_err-at-clause-err c =
    let count = operations c.args.tree.now - 1 in
    let inside : c.loop-v.v < operations c.args.tree.now - 1 = omega (arith, c.loop-v-test.true, c.count-inner.ensures.value) in
    let p = err_from_is_err_and c.from_residual-in_err-at.result c.from_residual-in_err-at.ensures.1 in
    rw (p.1, p.2) (λ other.
    rows_fault c.args.space.now c.args.tree.now c.loop-v.v c.in_ok-rows.rows (map table (range_with_len 0 count)) (map table (range_with_len (c.loop-v.v + 1) (count - (c.loop-v.v + 1))))
    c.args.from.number c.loop-v.at.number c.in_ok-rows.first.number c.args.from.rest.now c.loop-v.at.rest.now c.in_ok-rows.first.rest.now c.in_err-at.field-0.0
    (opened c.args.space.now c.args.tree.now table c.loop-v.v count (map table (range_with_len 0 count)) c.args.from.number c.loop-v.at.number c.args.from.rest.now c.loop-v.at.rest.now inside c.loop-v.invariant.keeps)
    c.in_ok-rows.ensures.ok (c.in_err-at.ensures.err other))

pub loop-v-preserved : goal.loop-v-preserved
loop-v-preserved c =
    let count = operations c.args.tree.now - 1 in
    let inside : c.loop-v.v < operations c.args.tree.now - 1 = omega (arith, c.loop-v-test.true, c.count-inner.ensures.value) in
    let listed : c.loop-v.v < length c.loop-v.tables = omega (arith, c.loop-v-test.true, c.loop-v.invariant.count) in
    record {
      count = ap length c.in_ok-at.ensures.ok.tables_are ∙ length-set c.loop-v.tables c.loop-v.v _ ∙ c.loop-v.invariant.count;
      empty = empty_more c.loop-v.v c.loop-v.tables c.read_rows.new.tables (rows_at c.loop-v.tables c.loop-v.v ++ c.in_ok-at.ensures.ok.rows) c.in_ok-at.ensures.ok.tables_are c.loop-v.invariant.empty;
      read =
          one_table c.args.space.now c.args.tree.now c.loop-v.v c.in_ok-rows.rows c.loop-v.at.number c.in_ok-rows.first.number c.loop-v.tables c.read_rows.new.tables
          c.args.from.rest.now c.loop-v.at.rest.now c.in_ok-rows.first.rest.now c.in_ok-at.at.rest.now listed c.loop-v.invariant.empty c.loop-v.invariant.read c.in_ok-rows.ensures.ok c.in_ok-at.ensures.ok;
      keeps =
          keeps_table c.args.space.now c.args.tree.now c.loop-v.v c.in_ok-rows.rows (map table (range_with_len 0 count)) (map table (range_with_len (c.loop-v.v + 1) (count - (c.loop-v.v + 1))))
          c.args.from.number c.loop-v.at.number c.in_ok-rows.first.number c.in_ok-at.at.number c.args.from.rest.now c.loop-v.at.rest.now c.in_ok-rows.first.rest.now c.in_ok-at.at.rest.now
          (opened c.args.space.now c.args.tree.now table c.loop-v.v count (map table (range_with_len 0 count)) c.args.from.number c.loop-v.at.number c.args.from.rest.now c.loop-v.at.rest.now inside c.loop-v.invariant.keeps)
          c.in_ok-rows.ensures.ok c.in_ok-at.ensures.on;
    }

pub returns-in_err-tables-clause-each : goal.returns-in_err-tables-clause-each
returns-in_err-tables-clause-each c =
    let p = err_from_is_err_and c.from_residual.result c.from_residual.ensures.1 in
    rw p.1 tt

pub returns-in_err-tables-clause-ok : goal.returns-in_err-tables-clause-ok
returns-in_err-tables-clause-ok c =
    let p = err_from_is_err_and c.from_residual.result c.from_residual.ensures.1 in
    rw p.1 tt

pub returns-in_err-tables-clause-on : goal.returns-in_err-tables-clause-on
returns-in_err-tables-clause-on c =
    let p = err_from_is_err_and c.from_residual.result c.from_residual.ensures.1 in
    rw p.1 tt

pub returns-in_err-rows-clause-each : goal.returns-in_err-rows-clause-each
returns-in_err-rows-clause-each c =
    let p = err_from_is_err_and c.from_residual-in_err-rows.result c.from_residual-in_err-rows.ensures.1 in
    rw p.1 tt

pub returns-in_err-rows-clause-ok : goal.returns-in_err-rows-clause-ok
returns-in_err-rows-clause-ok c =
    let p = err_from_is_err_and c.from_residual-in_err-rows.result c.from_residual-in_err-rows.ensures.1 in
    rw p.1 tt

pub returns-in_err-rows-clause-on : goal.returns-in_err-rows-clause-on
returns-in_err-rows-clause-on c =
    let p = err_from_is_err_and c.from_residual-in_err-rows.result c.from_residual-in_err-rows.ensures.1 in
    rw p.1 tt

pub returns-in_err-at-clause-each : goal.returns-in_err-at-clause-each
returns-in_err-at-clause-each c =
    let p = err_from_is_err_and c.from_residual-in_err-at.result c.from_residual-in_err-at.ensures.1 in
    rw p.1 tt

pub returns-in_err-at-clause-ok : goal.returns-in_err-at-clause-ok
returns-in_err-at-clause-ok c =
    let p = err_from_is_err_and c.from_residual-in_err-at.result c.from_residual-in_err-at.ensures.1 in
    rw p.1 tt

pub returns-in_err-at-clause-on : goal.returns-in_err-at-clause-on
returns-in_err-at-clause-on c =
    let p = err_from_is_err_and c.from_residual-in_err-at.result c.from_residual-in_err-at.ensures.1 in
    rw p.1 tt
