use Rattle.tce_cert.proofs.NoFault as law
use Rattle.tce_cert.proofs.laws.certificates_have_no_fault.Goals as goal

pub returns : goal.returns
returns c = law.certificates_have_no_fault
