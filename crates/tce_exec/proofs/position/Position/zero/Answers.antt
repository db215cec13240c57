use Rattle.std.proofs.Common.{arith}
use Rattle.tce_exec.proofs.Positions.{at_zero}
use Rattle.tce_exec.proofs.position.Position.zero.Goals as goal

pub returns : goal.returns
returns c =
    let i = c.loop-index.invariant in
    let last = c.index_count-index-end.ensures in
    at_zero c.args.space.now c.loop-index.edges c.loop-index.counts last.limits (record {
      edges_are = λ k lt. i.edges k (omega (arith, lt, c.loop-index-test.false, last.count));
      counts_are = λ k lt. i.counts k (omega (arith, lt, c.loop-index-test.false, last.count));
      other_edges = λ k past lt. i.other_edges k (omega (arith, past, c.loop-index.auto.index-end, last.count)) lt;
      other_counts = λ k past lt. i.other_counts k (omega (arith, past, c.loop-index.auto.index-end, last.count)) lt;
    })
