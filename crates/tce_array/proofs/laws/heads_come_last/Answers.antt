use Rattle.tce_array.proofs.Heads.{completed, no_zeros, no_arrays}
use Rattle.tce_array.proofs.laws.heads_come_last.Goals as goal

pub returns-clause-complete : goal.returns-clause-complete
returns-clause-complete c = completed

pub returns-clause-no_zeros : goal.returns-clause-no_zeros
returns-clause-no_zeros c = no_zeros

pub returns-clause-no_half : goal.returns-clause-no_half
returns-clause-no_half c = no_arrays
