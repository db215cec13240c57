use Rattle.std.proofs.Common.{refl}
use Rattle.tce_spec.proofs.declaration_laws.declaration_examples_have_their_faults.Goals as goal

pub returns : goal.returns
returns c = (refl, (refl, (refl, (refl, (refl, (refl, (refl, (refl, (refl, (refl, (refl, (refl, (refl, (refl, tt))))))))))))))
