use Rattle.tce_cert.proofs.Stated.{costs_without, costs_refused, costs_given}
use Rattle.tce_cert.proofs.forms.read_cost.Goals as goal

pub returns-in_err-cost : goal.returns-in_err-cost
returns-in_err-cost c = rw c.from_residual.ensures (costs_without c.args.text.now c.in_err-cost.ensures)

pub returns-in_err-read_number : goal.returns-in_err-read_number
returns-in_err-read_number c =
    rw c.from_residual-in_err-read_number.ensures
    (costs_refused c.args.text.now c.in_ok-cost.cost.now c.in_ok-cost.classes.now c.in_ok-cost.ensures c.in_err-read_number.ensures)

pub returns : goal.returns
returns c = costs_given c.args.text.now c.in_ok-cost.cost.now c.in_ok-cost.classes.now c.in_ok-read_number.field-0 c.in_ok-cost.ensures c.in_ok-read_number.ensures
