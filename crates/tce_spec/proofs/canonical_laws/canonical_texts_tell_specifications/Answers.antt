use Rattle.tce_spec.proofs.Outcomes.{specifications_told}
use Rattle.tce_spec.proofs.canonical_laws.canonical_texts_tell_specifications.Goals as goal

pub returns : goal.returns
returns c = specifications_told
