use Rattle.std.proofs.Common.{sym, subst}
use Rattle.tce_tree.specs.ContractionTree.{ContractionTree}
use Rattle.tce_tree.specs.Fusion.{Carries}
use Rattle.tce_tree.specs.Orders.{lists_of}
use Rattle.tce_job.proofs.preparing.orders_of.Goals as goal

pub running_orders-requires-clause-carried : goal.running_orders-requires-clause-carried
running_orders-requires-clause-carried c =
    subst (λ (tree : ContractionTree). Carries tree c.args.plan.now.fusion.0.items (lists_of c.args.plan.now.orders.0.items)) (sym c.tree-tree.ensures.tree) c.requires.plan.carried

pub returns-clause-carried : goal.returns-clause-carried
returns-clause-carried c =
    subst (λ (tree : ContractionTree). Carries tree c.args.plan.now.fusion.0.items (lists_of c.running_orders.result.0.items)) c.tree-tree.ensures.tree c.running_orders.ensures.carried
