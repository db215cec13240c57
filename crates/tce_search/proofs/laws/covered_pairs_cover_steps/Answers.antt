use Rattle.tce_search.proofs.Steppings as law
use Rattle.tce_search.proofs.laws.covered_pairs_cover_steps.Goals as goal

pub returns : goal.returns
returns c = law.covered_pairs_cover_steps
