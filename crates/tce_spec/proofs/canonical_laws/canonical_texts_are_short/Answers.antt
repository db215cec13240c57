use Rattle.tce_spec.proofs.TextLengths.{canonical_short}
use Rattle.tce_spec.proofs.canonical_laws.canonical_texts_are_short.Goals as goal

pub returns : goal.returns
returns c = canonical_short
