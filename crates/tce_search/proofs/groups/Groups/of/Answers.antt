use Rattle.std.proofs.Common.{sym, subst, arith}
use Rattle.tce_search.specs.Groups.{AreByCost}
use Rattle.tce_search.proofs.Grouping.{list_ordered}
use Rattle.tce_search.proofs.groups.Groups.of.Goals as goal

pub returns-clause-order : goal.returns-clause-order
returns-clause-order c =
    subst AreByCost (sym c.as_slice.ensures.value)
    (list_ordered c.self.inside.lists.items (λ list. list.items) c.self.inside.leasts.items c.number_of.result c.index.result.now c.self.invariant (omega (arith, c.number_of.ensures.inside, c.len.ensures, c.self.inside.lists.ok.0)) c.index.ensures)
