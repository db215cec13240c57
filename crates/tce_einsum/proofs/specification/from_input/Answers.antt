use Rattle.std.proofs.Common.{ℕ, List, subst, sym, ◌∙◌, arith}
use Rattle.std.specs.Borrow.{Bor}
use Rattle.std.proofs.lemmas.List.{length-map}
use Rattle.tce_spec.specs.Outcome.{IsOutcome}
use Rattle.tce_einsum.specs.Code as code
use Rattle.tce_einsum.proofs.LongTexts.{many_are_too_long}
use Rattle.std.proofs.lemmas.Result.{IfOk-from_err}
use Rattle.tce_einsum.proofs.specification.from_input.Goals as goal

pub returns-then-len-gt-MAX_OPERANDS-clause-answers : goal.returns-then-len-gt-MAX_OPERANDS-clause-answers
returns-then-len-gt-MAX_OPERANDS-clause-answers c found is =
    let many = length-map c.args.input.now.einsum.operands.items (λ (b : Bor (List ℕ)). b.now) in
    many_are_too_long (code.einsum c.args.input.now.einsum) (code.items c.args.input.now.items.items) found (omega (arith, many)) is

pub returns-clause-answers : goal.returns-clause-answers
returns-clause-answers c found is =
    c.read_spec.ensures.answers found (subst (λ text. IsOutcome text found) (sym (c.as_slice.ensures.value ∙ c.in_ok-text.ensures)) is)

pub returns-in_err-text-clause-names : goal.returns-in_err-text-clause-names
returns-in_err-text-clause-names c = IfOk-from_err c.from_residual.result _ c.from_residual.ensures.0

pub returns-then-len-gt-MAX_OPERANDS-clause-names : goal.returns-then-len-gt-MAX_OPERANDS-clause-names
returns-then-len-gt-MAX_OPERANDS-clause-names c = tt

pub returns-clause-names : goal.returns-clause-names
returns-clause-names c = c.read_spec.ensures.names
