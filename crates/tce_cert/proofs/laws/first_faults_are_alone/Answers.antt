use Rattle.tce_cert.proofs.OneFault as law
use Rattle.tce_cert.proofs.laws.first_faults_are_alone.Goals as goal

pub returns : goal.returns
returns c = law.first_faults_are_alone
