use Rattle.tce_spill.proofs.Limits.{no_cut_is_idle as law}
use Rattle.tce_spill.proofs.laws.no_cut_is_idle.Goals as goal

pub returns : goal.returns
returns c = law
