use Rattle.tce_spill.proofs.Limits.{cuts_are_one as law}
use Rattle.tce_spill.proofs.laws.cuts_are_one.Goals as goal

pub returns : goal.returns
returns c = law
