use Rattle.std.proofs.Common.{arith}
use Rattle.tce_search.proofs.RowLists.{all_filled}
use Rattle.tce_search.proofs.plan.tables_of.Goals as goal

pub returns : goal.returns
returns c = all_filled c.args.found.now.lists c.loop-v.tables c.loop-v.v (omega arith) c.loop-v.invariant
