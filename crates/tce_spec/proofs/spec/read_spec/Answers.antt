use Rattle.std.proofs.lemmas.Result.{err_from_is_err_and}
use Rattle.tce_spec.proofs.Readings.{computed_head, head_is}
use Rattle.tce_spec.proofs.LineNames.{line_names}
use Rattle.tce_spec.proofs.Reading.{head_fault}
use Rattle.tce_spec.proofs.spec.read_spec.Goals as goal

pub returns-in_err-head-clause-answers : goal.returns-in_err-head-clause-answers
returns-in_err-head-clause-answers c = λ found is.
    let p = err_from_is_err_and c.from_residual.result c.from_residual.ensures.1 in
    rw (p.1, p.2) (head_fault c.args.text.now found c.in_err-head.field-0.0 is (c.in_err-head.ensures.answers (computed_head c.args.text.now) (head_is c.args.text.now)))

pub read_contraction-requires-clause-names : goal.read_contraction-requires-clause-names
read_contraction-requires-clause-names c = line_names _ _ _ _ c.in_ok-head.ensures.said

pub invariant_of-result : goal.invariant_of-result
invariant_of-result c = c.in-Ok.ensures.kept

pub returns-in-Ok-clause-answers : goal.returns-in-Ok-clause-answers
returns-in-Ok-clause-answers c = λ found is. c.in-Ok.ensures.specified c.args.text.now found (c.in_ok-head.ensures.answers, c.in_ok-head.ensures.rest) is

pub returns-in-Err-clause-answers : goal.returns-in-Err-clause-answers
returns-in-Err-clause-answers c = λ found is. c.in-Err.ensures.fault c.args.text.now found (c.in_ok-head.ensures.answers, c.in_ok-head.ensures.rest) is
