use Rattle.tce_nesting.proofs.NestingLaws as law
use Rattle.tce_nesting.proofs.laws.restrictions_cut.Goals as goal

pub returns : goal.returns
returns c = law.restrictions_cut
