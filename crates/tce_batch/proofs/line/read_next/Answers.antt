use Rattle.std.proofs.Common.{ℕ, Bor, List, Option, sym, subst, ap, ◌∙◌}
use Rattle.std.proofs.lemmas.Result.{err_from_is_err_and}
use Rattle.tce_grammar.specs.Grammar.{IsLine, Line}
use Rattle.tce_grammar.specs.Code.{names, formula, line as line_view}
use Rattle.tce_grammar.specs.declared.line.Line.TheVariants.{Says}
use Rattle.tce_spec.proofs.LineNames.{line_names}
use Rattle.tce_spec.specs.Faults.{Fault}
use Rattle.tce_spec.specs.FaultCode.{Shows}
use Rattle.tce_spec.specs.TextCode.{fault_in}
use Rattle.tce_batch.specs.Outcome.{together}
use Rattle.tce_batch.specs.Reading.{of_line, specified_by}
use Rattle.tce_batch.proofs.Lines.{one_fault}
use Rattle.tce_batch.proofs.line.read_next.Goals as goal

pub contraction_of-requires-clause-written : goal.contraction_of-requires-clause-written
contraction_of-requires-clause-written c =
    let at = subst (λ l. IsLine c.args.text.now (line_view l)) c.in-Says-Formula.is c.in_ok-result.ensures.is_line in
    let said = subst (λ s. IsLine c.args.text.now (line_view (Says s))) c.in-Says-Formula.field-0-is at in
    (line_names c.args.text.now _ _ _ said).2

pub returns-in_err-contraction-in-Says-Formula-clause-fault : goal.returns-in_err-contraction-in-Says-Formula-clause-fault
returns-in_err-contraction-in-Says-Formula-clause-fault c =
    let p = err_from_is_err_and c.from_residual-in_err-contraction-in-Says-Formula.result c.from_residual-in_err-contraction-in-Says-Formula.ensures.1 in
    let line_is = sym c.in_ok-result.ensures.line ∙ ap line_view c.in-Says-Formula.is ∙ ap (λ s. line_view (Says s)) c.in-Says-Formula.field-0-is in
    let r = specified_by c.args.line c.args.declarations.now c.in-Says-Formula.result.now (names c.in-Says-Formula.indexes.items) (formula c.in-Says-Formula.formula) in
    let f = c.in_err-contraction-in-Says-Formula.field-0.0 in
    let shown = subst (λ (xs : List (Bor (List ℕ))). Shows (fault_in (specified_by c.args.line c.args.declarations.now c.in-Says-Formula.result.now (names xs) (formula c.in-Says-Formula.formula))) f) c.as_slice.ensures.value c.in_err-contraction-in-Says-Formula.ensures.fault in
    rw (p.1, p.2) (subst (λ (l : Line). Shows (fault_in (together (of_line c.args.line c.args.declarations.now l))) f) (sym line_is)
    (subst (λ (o : Option Fault). Shows o f) (sym (one_fault r)) shown))
