use Rattle.tce_einsum.proofs.OneReading.{texts_have_one_reading}
use Rattle.tce_einsum.proofs.laws.texts_have_one_reading.Goals as goal

pub returns : goal.returns
returns c = texts_have_one_reading
