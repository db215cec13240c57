use Rattle.tce_walk.specs.BandSearch.{known_of}
use Rattle.tce_walk.proofs.BandChecks.{right_ready_some}
use Rattle.tce_walk.proofs.band_search.is_right_ready.Goals as goal

pub returns-in-Some : goal.returns-in-Some
returns-in-Some c = λ t.
    right_ready_some c.args.walk.now.tree.now (known_of c.args.known.now) c.args.v c.in-Some.right.now c.requires c.in-Some.ensures.value (c.is_ready.ensures t)
