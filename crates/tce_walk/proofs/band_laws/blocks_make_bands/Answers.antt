use Rattle.tce_walk.proofs.BandLaws as laws
use Rattle.tce_walk.proofs.band_laws.blocks_make_bands.Goals as goal

pub returns : goal.returns
returns c = laws.blocks_make_bands
