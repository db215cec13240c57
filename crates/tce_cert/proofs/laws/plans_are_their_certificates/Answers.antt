use Rattle.tce_cert.proofs.OnePlan as plans
use Rattle.tce_cert.proofs.laws.plans_are_their_certificates.Goals as goal

pub returns : goal.returns
returns c = plans.plans_are_their_certificates
