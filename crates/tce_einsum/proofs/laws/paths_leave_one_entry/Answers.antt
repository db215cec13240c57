use Rattle.tce_einsum.proofs.FewSizes.{paths_leave_one_entry}
use Rattle.tce_einsum.proofs.laws.paths_leave_one_entry.Goals as goal

pub returns : goal.returns
returns c = paths_leave_one_entry
