use Rattle.tce_search.proofs.RowLists.{AreFilled}
use Rattle.tce_search.proofs.plan.tables_of.Given as goal

abbrev pub invariant-loop-v : goal.invariant-loop-v
invariant-loop-v l = AreFilled l.found.lists l.tables l.v
