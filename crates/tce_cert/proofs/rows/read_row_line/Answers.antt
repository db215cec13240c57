use Rattle.std.proofs.Common.{sym, subst}
use Rattle.tce_fields.specs.Reading.{GivesExactly}
use Rattle.tce_cert.specs.Forms.{StatesRow}
use Rattle.tce_cert.proofs.StatedRows.{row_refused, row_given}
use Rattle.tce_cert.proofs.rows.read_row_line.Goals as goal

pub returns-in_err-classes : goal.returns-in_err-classes
returns-in_err-classes c =
    subst (λ r. GivesExactly r (StatesRow c.args.space.now c.args.dims c.args.line.now)) (sym c.from_residual-in_err-classes.ensures)
    (row_refused c.args.space.now c.args.dims c.args.line.now c.in_ok-cost.text.now c.in_ok-cost.cost c.in_ok-cost.ensures c.in_err-classes.ensures)

pub returns : goal.returns
returns c =
    row_given c.args.space.now c.args.dims c.args.line.now c.in_ok-cost.text.now (record { classes = c.in_ok-classes.classes; cost = c.in_ok-cost.cost }) c.in_ok-cost.ensures c.in_ok-classes.ensures
