use Rattle.std.proofs.Common.{◌∙◌, ap, sym, subst}
use Rattle.tce_command.specs.CommandRefusals.{HasNames}
use Rattle.tce_command.specs.Report.{line_over}
use Rattle.tce_command.proofs.Statuses.{written}
use Rattle.tce_command.proofs.report.refuse.Goals as goal

pub returns-in-Common-clause-line : goal.returns-in-Common-clause-line
returns-in-Common-clause-line g c = λ names is.
    c.put_line.ensures.line names
    (c.as_str.ensures.value ∙ c.refusal_line-line.ensures ∙ written names c.in-Common.refusal (subst (HasNames names) c.in-Common.is is) ∙ sym (ap (line_over names) c.status.ensures.value))
