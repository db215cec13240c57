use Rattle.tce_command.proofs.Outcomes as outcomes
use Rattle.tce_command.proofs.source_laws.sources_have_one_outcome.Goals as goal

pub returns : goal.returns
returns c = record { one = outcomes.one; one_refusal = outcomes.one_refusal; not_both = outcomes.not_both }
