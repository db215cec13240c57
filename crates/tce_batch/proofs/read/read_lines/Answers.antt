use Rattle.std.proofs.Common.{ℕ, Bor, ◌≡◌, List, Ok, subst}
use Rattle.std.proofs.lemmas.Result.{err_from_is_err_and, IfOk-weaker, IfErr-weaker}
use Rattle.tce_grammar.specs.Code.{names, formula}
use Rattle.tce_spec.specs.FaultCode.{Shows}
use Rattle.tce_spec.specs.TextCode.{head, fault_in}
use Rattle.tce_spec.proofs.Readings.{computed_head, head_is}
use Rattle.tce_spec.specs.SpecCode.{specification_of}
use Rattle.tce_batch.specs.Reading.{specified_by}
use Rattle.tce_batch.proofs.Lines.{some_found}
use Rattle.tce_batch.proofs.Answered.{first_shown, closing_shown, further_shown, all_read}
use Rattle.tce_batch.proofs.read.read_lines.Goals as goal

pub returns-in_err-first-clause-fault : goal.returns-in_err-first-clause-fault
returns-in_err-first-clause-fault c =
    let h = c.args.head.now in
    let f = c.in_err-first.field-0.0 in
    let p = err_from_is_err_and c.from_residual.result c.from_residual.ensures.1 in
    rw (p.1, p.2) (λ text found has is. first_shown text found (head h) f is (has.0 (computed_head text) (head_is text))
    (subst (λ (xs : List (Bor (List ℕ))). Shows (fault_in (specified_by h.line h.declarations h.result.now (names xs) (formula h.formula))) f) c.as_slice.ensures.value c.in_err-first.ensures.fault))

pub returns-in-Err-clause-fault : goal.returns-in-Err-clause-fault
returns-in-Err-clause-fault c = λ text found has is.
    let h = c.args.head.now in
    let first = subst (λ (xs : List (Bor (List ℕ))). specified_by h.line h.declarations h.result.now (names xs) (formula h.formula) ≡ Ok (specification_of h.declarations c.in_ok-first.first)) c.as_slice.ensures.value c.in_ok-first.ensures.specified in
    closing_shown text h.rest.now found (head h) (specification_of h.declarations c.in_ok-first.first) c.in-Err.fault is
    (has.0 (computed_head text) (head_is text)) has.1 first c.in-Err.ensures

pub returns-in-Ok-clause-some : goal.returns-in-Ok-clause-some
returns-in-Ok-clause-some c = IfOk-weaker c.read_further.result _ _ (λ cs read. some_found c.args.head.now.declarations cs.items _ _ read) c.read_further.ensures.read

pub returns-in-Ok-clause-read : goal.returns-in-Ok-clause-read
returns-in-Ok-clause-read c =
    let h = c.args.head.now in
    let first = subst (λ (xs : List (Bor (List ℕ))). specified_by h.line h.declarations h.result.now (names xs) (formula h.formula) ≡ Ok (specification_of h.declarations c.in_ok-first.first)) c.as_slice.ensures.value c.in_ok-first.ensures.specified in
    IfOk-weaker c.read_further.result _ _ (λ cs read. λ text found has is.
    all_read text h.rest.now found (head h) (specification_of h.declarations c.in_ok-first.first) cs.items is
    (has.0 (computed_head text) (head_is text)) has.1 first c.in-Ok.ensures read) c.read_further.ensures.read

pub returns-in-Ok-clause-fault : goal.returns-in-Ok-clause-fault
returns-in-Ok-clause-fault c =
    let h = c.args.head.now in
    let first = subst (λ (xs : List (Bor (List ℕ))). specified_by h.line h.declarations h.result.now (names xs) (formula h.formula) ≡ Ok (specification_of h.declarations c.in_ok-first.first)) c.as_slice.ensures.value c.in_ok-first.ensures.specified in
    IfErr-weaker c.read_further.result _ _ (λ f shown. λ text found has is.
    further_shown text h.rest.now found (head h) (specification_of h.declarations c.in_ok-first.first) f is
    (has.0 (computed_head text) (head_is text)) has.1 first c.in-Ok.ensures shown) c.read_further.ensures.fault
