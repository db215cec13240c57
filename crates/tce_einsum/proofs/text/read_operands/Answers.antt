use Rattle.std.proofs.Common.{◌≡◌, sym, ap, ◌∙◌, List, ℕ, Bool, Some}
use Rattle.std.specs.List.{list_all}
use Rattle.std.specs.Borrow.{Bor}
use Rattle.std.proofs.lemmas.List.Folds.{list_all-map}
use Rattle.tce_fields.specs.Reading.{texts}
use Rattle.tce_einsum.specs.Text.{are_labels}
use Rattle.tce_einsum.specs.Reading.{comma_parts}
use Rattle.tce_einsum.proofs.OneReading.{operands_by_test, operands_refused}
use Rattle.std.proofs.lemmas.Result.{err_from_is_err_and}
use Rattle.tce_einsum.proofs.text.read_operands.Goals as goal

tested : (parts : List (List ℕ)) (slice items : List (Bor (List ℕ))) (d : Bool) → texts items ≡ parts → slice ≡ items → d ≡ list_all (λ (operand : Bor (List ℕ)). are_labels operand.now) slice
    → list_all are_labels parts ≡ d
tested parts slice items d are is e =
    ap (list_all are_labels) (sym are) ∙ list_all-map are_labels (λ (b : Bor (List ℕ)). b.now) items
    ∙ ap (list_all (λ (operand : Bor (List ℕ)). are_labels operand.now)) (sym is) ∙ sym e

pub returns-then-all_labels : goal.returns-then-all_labels
returns-then-all_labels c =
    operands_by_test c.args.text.now (tested (comma_parts c.args.text.now) c.as_slice.result.now c.in_ok-operands.operands.items c.all_labels.result
    c.in_ok-operands.ensures c.as_slice.ensures.value c.all_labels.ensures ∙ c.if-all_labels.true)
    ∙ ap (λ (found : List (List ℕ)). Some found) (sym c.in_ok-operands.ensures)

pub returns : goal.returns
returns c =
    operands_refused c.args.text.now (tested (comma_parts c.args.text.now) c.as_slice.result.now c.in_ok-operands.operands.items c.all_labels.result
    c.in_ok-operands.ensures c.as_slice.ensures.value c.all_labels.ensures ∙ c.if-all_labels.false)

pub returns-in_err-operands : goal.returns-in_err-operands
returns-in_err-operands c = let p = err_from_is_err_and c.from_residual.result c.from_residual.ensures.1 in rw (p.1, p.2) tt
