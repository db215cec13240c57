use Rattle.tce_spec.proofs.Outcomes.{canonical_outcome}
use Rattle.tce_spec.proofs.Written.{outcome_writable}
use Rattle.tce_spec.proofs.canonical_laws.accepted_texts_have_canonical_texts.Goals as goal

pub returns : goal.returns
returns c = λ text s is. canonical_outcome s (outcome_writable text s is)
