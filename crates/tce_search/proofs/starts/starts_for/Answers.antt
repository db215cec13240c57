use Rattle.std.proofs.Common.{ap}
use Rattle.tce_fusion.specs.Row.{Row}
use Rattle.tce_search.proofs.StartParts.{are_for}
use Rattle.tce_search.proofs.starts.starts_for.Goals as goal

pub returns-then-serve-clause-left : goal.returns-then-serve-clause-left
returns-then-serve-clause-left c =
    are_for c.args.loops c.left.inside.cost c.args.left.now c.args.starts c.ends_of-ends.result c.ends_of-ends.ensures (ap (λ (x : Row). x.cost) c.left.view_is) (c.serve.ensures c.if-serve.true)
