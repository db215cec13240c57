use Rattle.tce_einsum.proofs.Items.{two_same}
use Rattle.std.proofs.Common.{arith}
use Rattle.tce_einsum.proofs.path.read_two.Goals as goal

pub returns-then-p-q : goal.returns-then-p-q
returns-then-p-q c =
    two_same c.args.count c.in-Some.p c.in-Some-read_position.q c.args.first.now c.args.second.now (omega arith)
    c.in-Some.ensures.1 c.in-Some-read_position.ensures.1 c.in-Some.ensures.0 c.in-Some-read_position.ensures.0 c.if-p-q.true
