use Rattle.tce_nesting.proofs.NestingLaws as law
use Rattle.tce_nesting.proofs.laws.nestings_are_their_relations.Goals as goal

pub returns : goal.returns
returns c = law.nestings_are_their_relations
