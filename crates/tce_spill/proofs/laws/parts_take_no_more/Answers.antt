use Rattle.tce_spill.proofs.Parts.{parts_take_no_more as law}
use Rattle.tce_spill.proofs.laws.parts_take_no_more.Goals as goal

pub returns : goal.returns
returns c = law
