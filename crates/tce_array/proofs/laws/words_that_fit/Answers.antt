use Rattle.tce_array.proofs.Fitting.{words_fit}
use Rattle.tce_array.proofs.laws.words_that_fit.Goals as goal

pub returns : goal.returns
returns c = words_fit
