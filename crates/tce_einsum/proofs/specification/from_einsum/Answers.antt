use Rattle.std.proofs.Common.{Ok}
use Rattle.tce_einsum.specs.Code as code
use Rattle.tce_einsum.proofs.ReadInputs.{few_read, leave_read}
use Rattle.tce_einsum.proofs.HasValue.{answer_has_the_value}
use Rattle.tce_einsum.proofs.Answered.{specified_answer, told_answer}
use Rattle.std.proofs.lemmas.Result.{IfOk-from_err}
use Rattle.tce_einsum.proofs.specification.from_einsum.Goals as goal

pub from_input-requires-clause-few : goal.from_input-requires-clause-few
from_input-requires-clause-few c = few_read c.args.text.now c.args.path.now c.in_ok-input.input.einsum c.in_ok-input.input.items.items c.in_ok-input.ensures

pub from_input-requires-clause-leave : goal.from_input-requires-clause-leave
from_input-requires-clause-leave c = leave_read c.args.text.now c.args.path.now c.in_ok-input.input.einsum c.in_ok-input.input.items.items c.in_ok-input.ensures

pub returns-in-Ok-clause-answers : goal.returns-in-Ok-clause-answers
returns-in-Ok-clause-answers c =
    specified_answer c.args.text.now c.args.path.now (code.einsum c.in_ok-input.input.einsum) (code.items c.in_ok-input.input.items.items) _ c.in_ok-input.ensures c.in-Ok.ensures.answers

pub returns-in-Ok-clause-value : goal.returns-in-Ok-clause-value
returns-in-Ok-clause-value c =
    answer_has_the_value c.args.text.now c.args.path.now (Ok c.in-Ok.spec)
    (specified_answer c.args.text.now c.args.path.now (code.einsum c.in_ok-input.input.einsum) (code.items c.in_ok-input.input.items.items) _ c.in_ok-input.ensures c.in-Ok.ensures.answers)

pub returns-clause-answers : goal.returns-clause-answers
returns-clause-answers c =
    told_answer c.args.text.now c.args.path.now (code.einsum c.in_ok-input.input.einsum) (code.items c.in_ok-input.input.items.items) c.in-Err.fault c.fault_of.result c.in_ok-input.ensures c.fault_of.ensures.answers c.in-Err.ensures.answers

pub returns-in_err-input-clause-value : goal.returns-in_err-input-clause-value
returns-in_err-input-clause-value c = IfOk-from_err c.from_residual.result _ c.from_residual.ensures.0

pub returns-in_err-input-clause-names : goal.returns-in_err-input-clause-names
returns-in_err-input-clause-names c = IfOk-from_err c.from_residual.result _ c.from_residual.ensures.0

pub returns-in-Ok-clause-names : goal.returns-in-Ok-clause-names
returns-in-Ok-clause-names c = c.in-Ok.ensures.names

pub returns-clause-value : goal.returns-clause-value
returns-clause-value c = tt

pub returns-clause-names : goal.returns-clause-names
returns-clause-names c = tt
