use Rattle.tce_spec.proofs.ExampleFaults.{examples_meant}
use Rattle.tce_spec.proofs.formula_laws.examples_mean_their_trees.Goals as goal

pub returns : goal.returns
returns c = examples_meant
