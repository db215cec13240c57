use Rattle.tce_tree.proofs.Values.{value-depends}
use Rattle.tce_tree.proofs.laws.value_depends_on_dims.Goals as goal

pub returns : goal.returns
returns c = value-depends
