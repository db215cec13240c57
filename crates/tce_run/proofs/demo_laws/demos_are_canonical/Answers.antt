use Rattle.std.proofs.Common.{sym}
use Rattle.tce_run.proofs.DemoText.{canonical_is}
use Rattle.tce_run.proofs.demo_laws.demos_are_canonical.Goals as goal

pub returns : goal.returns
returns c = λ v o hv ho. sym (canonical_is v o hv.0 ho.0)
