use Rattle.tce_einsum.proofs.Contractions.{paths_leave_their_entries}
use Rattle.tce_einsum.proofs.laws.paths_leave_their_entries.Goals as goal

pub returns : goal.returns
returns c = paths_leave_their_entries
