use Rattle.tce_spill.proofs.Pieces.{more_cuts_take_no_more as law}
use Rattle.tce_spill.proofs.laws.more_cuts_take_no_more.Goals as goal

pub returns : goal.returns
returns c = law
