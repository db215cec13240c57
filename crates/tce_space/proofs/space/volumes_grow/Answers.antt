use Rattle.tce_space.proofs.VolumeLaws.{volume_within}
use Rattle.tce_space.proofs.Examples.{space_examples, name_examples}
use Rattle.tce_space.proofs.space.volumes_grow.Goals as goal

pub returns : goal.returns
returns c extent a b within positive =
    let spaces = space_examples in
    let names = name_examples in
    volume_within extent a b within positive
