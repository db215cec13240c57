use Rattle.tce_walk.proofs.TermLaws as laws
use Rattle.tce_walk.proofs.band_laws.values_make_bands.Goals as goal

pub returns : goal.returns
returns c = laws.values_make_bands
