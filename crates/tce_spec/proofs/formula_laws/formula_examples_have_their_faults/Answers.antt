use Rattle.tce_spec.proofs.ExampleFaults.{examples_faulty}
use Rattle.tce_spec.proofs.formula_laws.formula_examples_have_their_faults.Goals as goal

pub returns : goal.returns
returns c = examples_faulty
