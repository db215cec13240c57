use Rattle.std.proofs.Common.{ℕ, Bor, ◌≡◌, ◌≤◌, ◌+◌, true, ap, List, Option, None, Ok, refl, sym, subst, ◌∙◌}
use Rattle.std.proofs.lemmas.Result.{err_from_is_err_and}
use Rattle.tce_tree.specs.ContractionTree.{operations}
use Rattle.tce_tree.specs.WellFormed.{sums_distinct}
use Rattle.tce_tree.specs.Faults.{fault_of}
use Rattle.tce_grammar.specs.Code.{names, formula}
use Rattle.tce_spec.specs.Faults.{Fault}
use Rattle.tce_spec.specs.FaultCode.{Shows}
use Rattle.tce_spec.specs.Text.{closing_fault}
use Rattle.tce_spec.specs.TextCode.{head}
use Rattle.tce_spec.proofs.Readings.{computed_head, head_is, closing_is, lines_of}
use Rattle.tce_spec.specs.FormulaFaults.{formula_fault}
use Rattle.tce_spec.specs.Specification.{ConstantsAreWords}
use Rattle.tce_spec.proofs.Reading.{formula_shown, rest_shown, rest_lines, all_specified}
use Rattle.tce_spec.proofs.Kept.{line_keeps}
use Rattle.tce_spec.proofs.spec.read_contraction.Goals as goal

pub returns-in_err-contraction-clause-fault : goal.returns-in_err-contraction-clause-fault
returns-in_err-contraction-clause-fault c =
    let h = c.args.head.now in
    let f = c.in_err-contraction.field-0.0 in
    let p = err_from_is_err_and c.from_residual.result c.from_residual.ensures.1 in
    rw (p.1, p.2) (λ text found has is. formula_shown text found (head h) f is (has.0 (computed_head text) (head_is text))
    (subst (λ (xs : List (Bor (List ℕ))). Shows (formula_fault h.line h.declarations h.result.now (names xs) (formula h.formula)) f) c.as_slice.ensures.value c.in_err-contraction.ensures.fault))

pub returns-in-Err-clause-fault : goal.returns-in-Err-clause-fault
returns-in-Err-clause-fault c = λ text found has is.
    let h = c.args.head.now in
    let f = c.in-Err.fault in
    let none = subst (λ (xs : List (Bor (List ℕ))). formula_fault h.line h.declarations h.result.now (names xs) (formula h.formula) ≡ None) c.as_slice.ensures.value c.in_ok-contraction.ensures.ok in
    let shown : Shows (closing_fault (h.line + 1) (lines_of h.rest.now)) f = c.in-Err.ensures (closing_fault (h.line + 1) (lines_of h.rest.now)) (closing_is (h.line + 1) h.rest.now) in
    rest_shown text found (head h) f is (has.0 (computed_head text) (head_is text)) none (subst (λ (o : Option Fault). Shows o f) (rest_lines text h.rest.now h.line has.1) shown)

pub returns-in-Ok-clause-kept : goal.returns-in-Ok-clause-kept
returns-in-Ok-clause-kept c =
    let h = c.args.head.now in
    let none = subst (λ (xs : List (Bor (List ℕ))). formula_fault h.line h.declarations h.result.now (names xs) (formula h.formula) ≡ None) c.as_slice.ensures.value c.in_ok-contraction.ensures.ok in
    let keeps = line_keeps h.line h.declarations h.result.now (names h.indexes.items) (formula h.formula) c.space-space.ensures.limits none in
    let same = sym c.in_ok-contraction.ensures.tree in
    record {
      rules = record {
        declarations = c.space-space.ensures.limits;
        contraction = c.in_ok-contraction.ensures.rules;
        few = subst (λ t. operations t ≤ 32) same keeps.few;
        distinct = subst (λ t. sums_distinct t ≡ true) same keeps.distinct;
        faultless = subst (λ t. fault_of h.declarations.space t ≡ None) same keeps.faultless;
        measured = c.in_ok-contraction.ensures.measured;
        constants = subst ConstantsAreWords same keeps.constants;
      };
      expression = c.in_ok-contraction.ensures.expr ∙ same;
    }

pub returns-in-Ok-clause-specified : goal.returns-in-Ok-clause-specified
returns-in-Ok-clause-specified c = λ text found has is.
    let h = c.args.head.now in
    let none = subst (λ (xs : List (Bor (List ℕ))). formula_fault h.line h.declarations h.result.now (names xs) (formula h.formula) ≡ None) c.as_slice.ensures.value c.in_ok-contraction.ensures.ok in
    let closed : closing_fault (h.line + 1) (lines_of h.rest.now) ≡ None = c.in-Ok.ensures (closing_fault (h.line + 1) (lines_of h.rest.now)) (closing_is (h.line + 1) h.rest.now) in
    all_specified text found (head h) is (has.0 (computed_head text) (head_is text)) none (sym (rest_lines text h.rest.now h.line has.1) ∙ closed)
    ∙ ap Ok (rw (c.in_ok-contraction.ensures.tensor, c.in_ok-contraction.ensures.indexes, c.as_slice.ensures.value, c.in_ok-contraction.ensures.tree) refl)
