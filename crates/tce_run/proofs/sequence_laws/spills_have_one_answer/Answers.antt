use Rattle.tce_run.proofs.SpillReasons.{granted_spill, alone_spill, possible_spill}
use Rattle.tce_run.proofs.sequence_laws.spills_have_one_answer.Goals as goal

pub returns : goal.returns
returns c = record { granted = granted_spill; alone = alone_spill; possible = possible_spill }
