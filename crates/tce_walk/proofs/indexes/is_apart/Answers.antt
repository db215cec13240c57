use Rattle.std.proofs.Common.{arith}
use Rattle.std.proofs.lemmas.Bool.{not_from_false}
use Rattle.tce_tree.specs.WellFormed.{among}
use Rattle.tce_walk.proofs.BandChecks.{none_among}
use Rattle.tce_walk.proofs.indexes.is_apart.Goals as goal

pub returns : goal.returns
returns c = λ t.
    not_from_false (among c.args.loops.now c.args.i) (none_among c.args.loops.now c.args.i (λ k l. c.loop-d.invariant k (omega (arith, l, c.loop-d-test.false))))
