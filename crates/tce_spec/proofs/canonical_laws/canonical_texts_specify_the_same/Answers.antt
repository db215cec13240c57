use Rattle.tce_spec.proofs.Outcomes.{canonical_outcome}
use Rattle.tce_spec.proofs.canonical_laws.canonical_texts_specify_the_same.Goals as goal

pub returns : goal.returns
returns c = canonical_outcome
