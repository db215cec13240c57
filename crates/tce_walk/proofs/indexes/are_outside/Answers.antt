use Rattle.std.proofs.Common.{not, arith}
use Rattle.tce_space.specs.IndexSet.{has}
use Rattle.tce_walk.proofs.BandChecks.{all_from}
use Rattle.tce_walk.proofs.indexes.are_outside.Goals as goal

pub returns : goal.returns
returns c = λ t. all_from (λ i. not (has c.args.set i)) c.args.loops.now (λ k l. c.loop-d.invariant k (omega (arith, l, c.loop-d-test.false)))
