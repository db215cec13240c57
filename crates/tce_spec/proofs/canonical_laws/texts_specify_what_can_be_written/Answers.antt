use Rattle.tce_spec.proofs.Written.{outcome_writable}
use Rattle.tce_spec.proofs.canonical_laws.texts_specify_what_can_be_written.Goals as goal

pub returns : goal.returns
returns c = outcome_writable
