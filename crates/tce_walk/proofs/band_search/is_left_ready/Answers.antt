use Rattle.std.proofs.Common.{sym, ap, ◌∙◌}
use Rattle.tce_walk.specs.BandSearch.{known_of, operand_ready}
use Rattle.tce_walk.proofs.BandChecks.{left_ready_is}
use Rattle.tce_walk.proofs.band_search.is_left_ready.Goals as goal

pub returns : goal.returns
returns c = λ t.
    sym (left_ready_is c.args.walk.now.tree.now (known_of c.args.known.now) c.args.v c.requires)
    ∙ ap (operand_ready (known_of c.args.known.now)) (sym c.left.ensures.value) ∙ c.is_ready.ensures t
