use Rattle.tce_spill.proofs.Renumbered.{renumbered_is_alike as law}
use Rattle.tce_spill.proofs.laws.renumbered_is_alike.Goals as goal

pub returns : goal.returns
returns c = law
