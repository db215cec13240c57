use Rattle.tce_run.proofs.DemoSpecified.{specified}
use Rattle.tce_run.proofs.demo_laws.demos_are_specified.Goals as goal

pub returns : goal.returns
returns c = specified
