use Rattle.std.proofs.Common.{sym, subst}
use Rattle.tce_tree.specs.Fusion.{Carries}
use Rattle.tce_tree.specs.Orders.{lists_of}
use Rattle.tce_job.proofs.ordering.running_orders.Goals as goal

pub returns-then-is_none-clause-carried : goal.returns-then-is_none-clause-carried
returns-then-is_none-clause-carried c = c.first_not_carried.ensures.carried.0 c.if-is_none.ensures

pub returns-clause-carried : goal.returns-clause-carried
returns-clause-carried c =
    subst (λ items. Carries c.args.tree.now c.args.fusion.now.0.items (lists_of items)) (sym c.copied.ensures) c.requires.carried
