use Rattle.tce_spill.proofs.Limits.{cuts_meet_limits as law}
use Rattle.tce_spill.proofs.laws.cuts_meet_limits.Goals as goal

pub returns : goal.returns
returns c = law
