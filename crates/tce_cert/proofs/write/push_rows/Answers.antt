use Rattle.std.proofs.Common.{sym, subst}
use Rattle.std.specs.List.{All}
use Rattle.std.proofs.lemmas.Result.{err_from_is_err_and}
use Rattle.tce_space.specs.Space.{IsDeclared}
use Rattle.tce_fusion.specs.Row.{Row}
use Rattle.tce_cert.specs.Laws.{IsNestingRow}
use Rattle.tce_cert.proofs.RowTexts.{row_pushed, all_pushed, row_further, all_rows}
use Rattle.tce_cert.proofs.write.push_rows.Goals as goal

pub push_row-requires : goal.push_row-requires
push_row-requires c =
    subst (λ (row : Row). All (IsDeclared c.args.space.now) row.classes) (sym c.row-item.is) (c.requires c.loop-row.row-index c.row-item.result c.loop-row-test.true)

pub returns-in_err-push_row-clause-text : goal.returns-in_err-push_row-clause-text
returns-in_err-push_row-clause-text c =
    let p = err_from_is_err_and c.from_residual.result c.from_residual.ensures.1 in
    rw p.1 tt

pub returns-in_err-push_row-clause-nestings : goal.returns-in_err-push_row-clause-nestings
returns-in_err-push_row-clause-nestings c =
    let p = err_from_is_err_and c.from_residual.result c.from_residual.ensures.1 in
    rw p.1 tt

pub loop-row-preserved : goal.loop-row-preserved
loop-row-preserved c =
    record {
      text = row_pushed c.args.space.now c.args.rows.now c.loop-row.row-index c.row-item.result c.args.text.now.items c.loop-row.text.items c.push_row.new.text.items c.loop-row-test.true c.row-item.is c.loop-row.invariant.text c.in_ok-push_row.ensures.text;
      nestings = row_further IsNestingRow c.args.rows.now c.loop-row.row-index c.row-item.result c.loop-row-test.true c.row-item.is c.loop-row.invariant.nestings c.in_ok-push_row.ensures.nesting;
    }

pub returns-clause-text : goal.returns-clause-text
returns-clause-text c = all_pushed c.args.space.now c.args.rows.now c.loop-row.row-index c.args.text.now.items c.loop-row.text.items c.loop-row-test.false c.loop-row.invariant.text

pub returns-clause-nestings : goal.returns-clause-nestings
returns-clause-nestings c = all_rows IsNestingRow c.args.rows.now c.loop-row.row-index c.loop-row-test.false c.loop-row.invariant.nestings
