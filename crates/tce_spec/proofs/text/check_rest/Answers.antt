use Rattle.std.proofs.Common.{Option, subst, sym}
use Rattle.tce_spec.specs.Faults.{Fault}
use Rattle.tce_spec.specs.TextCode.{AnswersFault}
use Rattle.tce_spec.proofs.Readings.{closing_only}
use Rattle.tce_spec.proofs.text.check_rest.Goals as goal

pub returns : goal.returns
returns c = λ found is. subst (λ (o : Option Fault). AnswersFault o c.check_lines.result) (sym (closing_only c.args.line c.args.text.now found is)) c.check_lines.ensures
