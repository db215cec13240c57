use Rattle.tce_nesting.proofs.NestingLaws as law
use Rattle.tce_nesting.proofs.laws.joins_tell_steps.Goals as goal

pub returns : goal.returns
returns c = law.joins_tell_steps
