use Rattle.tce_space.proofs.IndexSetLaws.{has-empty}
use Rattle.tce_space.proofs.index_set.IndexSet.empty.Goals as goal

pub returns-clause-members : goal.returns-clause-members
returns-clause-members c = has-empty
