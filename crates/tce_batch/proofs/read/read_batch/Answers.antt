use Rattle.std.proofs.lemmas.Result.{err_from_is_err_and}
use Rattle.tce_spec.proofs.Readings.{computed_head, head_is}
use Rattle.tce_spec.proofs.LineNames.{line_names}
use Rattle.tce_batch.proofs.Answered.{head_shown}
use Rattle.tce_batch.proofs.read.read_batch.Goals as goal

pub returns-in_err-head : goal.returns-in_err-head
returns-in_err-head c = λ found is.
    let p = err_from_is_err_and c.from_residual.result c.from_residual.ensures.1 in
    rw (p.1, p.2) (head_shown c.args.text.now found c.in_err-head.field-0.0 is (c.in_err-head.ensures.answers (computed_head c.args.text.now) (head_is c.args.text.now)))

pub read_lines-requires-clause-names : goal.read_lines-requires-clause-names
read_lines-requires-clause-names c = line_names _ _ _ _ c.in_ok-head.ensures.said

pub invariant_of-result : goal.invariant_of-result
invariant_of-result c = record {
  some = c.in-Ok.ensures.some;
  each = c.in-Ok.ensures.kept;
  named = c.in_ok-head.ensures.names;
}

pub returns-in-Ok : goal.returns-in-Ok
returns-in-Ok c = λ found is. c.in-Ok.ensures.read c.args.text.now found (c.in_ok-head.ensures.answers, c.in_ok-head.ensures.rest) is

pub returns-in-Err : goal.returns-in-Err
returns-in-Err c = λ found is. c.in-Err.ensures.fault c.args.text.now found (c.in_ok-head.ensures.answers, c.in_ok-head.ensures.rest) is
