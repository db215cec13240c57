use Rattle.std.proofs.Common.{length, arith}
use Rattle.tce_walk.proofs.SummedLoops.{all_at}
use Rattle.tce_walk.proofs.indexes.are_declared.Goals as goal

pub returns : goal.returns
returns c = λ t. all_at (length c.args.space.now.indexes) c.args.loops.now (λ k l. c.loop-d.invariant k (omega (arith, l, c.loop-d-test.false)))
