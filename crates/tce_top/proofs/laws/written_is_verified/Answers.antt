use Rattle.tce_top.proofs.Written as written
use Rattle.tce_top.proofs.laws.written_is_verified.Goals as goal

pub returns : goal.returns
returns c = written.written_is_verified
