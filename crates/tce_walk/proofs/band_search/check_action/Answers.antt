use Rattle.tce_walk.proofs.BandChecks.{passed_compute}
use Rattle.tce_walk.proofs.band_search.check_action.Goals as goal

pub returns-in-Mul : goal.returns-in-Mul
returns-in-Mul c = λ t.
    passed_compute c.args.walk.now.tree.now c.args.walk.now.fusion.now.0.items c.args.claim.now c.args.op c.in-Mul.v c.args.known.now c.gain-in-Mul.new.known
    c.in-Mul.is (c.may_compute-passes.ensures t) c.gain-in-Mul.ensures
