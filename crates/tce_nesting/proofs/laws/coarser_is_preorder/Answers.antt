use Rattle.tce_nesting.proofs.NestingLaws as law
use Rattle.tce_nesting.proofs.laws.coarser_is_preorder.Goals as goal

pub returns : goal.returns
returns c = law.coarser_is_preorder
