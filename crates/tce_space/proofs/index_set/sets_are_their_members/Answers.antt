use Rattle.tce_space.proofs.Members.{sets_are_their_members}
use Rattle.tce_space.proofs.Examples.{set_examples}
use Rattle.tce_space.proofs.index_set.sets_are_their_members.Goals as goal

pub returns : goal.returns
returns c =
    let worked = set_examples in
    sets_are_their_members
