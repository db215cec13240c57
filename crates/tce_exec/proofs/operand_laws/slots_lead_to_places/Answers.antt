use Rattle.tce_exec.proofs.Slots as slots
use Rattle.tce_exec.proofs.operand_laws.slots_lead_to_places.Goals as goal

pub returns : goal.returns
returns c = slots.slots_lead_to_places
