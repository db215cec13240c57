use Rattle.std.proofs.Common.{sym, subst}
use Rattle.tce_fields.specs.Reading.{GivesExactly}
use Rattle.tce_cert.proofs.Stated.{StatesPair, numbers_without, numbers_first, numbers_second, numbers_both}
use Rattle.tce_cert.proofs.forms.read_numbers.Goals as goal

pub returns-in_err-first : goal.returns-in_err-first
returns-in_err-first c =
    subst (λ r. GivesExactly r (StatesPair c.args.text.now)) (sym c.from_residual.ensures) (numbers_without c.args.text.now c.in_err-first.ensures)

pub returns-in_err-read_number : goal.returns-in_err-read_number
returns-in_err-read_number c =
    subst (λ r. GivesExactly r (StatesPair c.args.text.now)) (sym c.from_residual-in_err-read_number.ensures)
    (numbers_first c.args.text.now c.in_ok-first.first.now c.in_ok-first.second.now c.in_ok-first.ensures c.in_err-read_number.ensures)

pub returns-in_err-read_number-2 : goal.returns-in_err-read_number-2
returns-in_err-read_number-2 c =
    subst (λ r. GivesExactly r (StatesPair c.args.text.now)) (sym c.from_residual-in_err-read_number-2.ensures)
    (numbers_second c.args.text.now c.in_ok-first.first.now c.in_ok-first.second.now c.in_ok-first.ensures c.in_err-read_number-2.ensures)

pub returns : goal.returns
returns c =
    numbers_both c.args.text.now c.in_ok-first.first.now c.in_ok-first.second.now c.in_ok-read_number.field-0 c.in_ok-read_number-2.field-0 c.in_ok-first.ensures
    c.in_ok-read_number.ensures c.in_ok-read_number-2.ensures
