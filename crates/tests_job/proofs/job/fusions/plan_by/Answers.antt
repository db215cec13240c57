use Rattle.std.proofs.Common.{ap₂, ◌∙◌, subst}
use Rattle.tce_space.specs.Space.{IndexSpace}
use Rattle.tce_tree.specs.ContractionTree.{ContractionTree}
use Rattle.tce_tree.specs.Fusion.{Carries}
use Rattle.tce_tree.specs.Memory.{memory}
use Rattle.tce_tree.specs.Orders.{lists_of}
use Rattle.tce_nesting.specs.declared.plan.Plan.{Plan}
use Rattle.tce_nesting.specs.Plan.{PlanFits}
use Rattle.tests_job.proofs.job.fusions.plan_by.Goals as goal

pub returns-clause-carried : goal.returns-clause-carried
returns-clause-carried c =
    let plan : Plan = record { fusion = c.args.fusion; orders = c.standard_orders-orders.result; sizes = c.in_ok-sizes.sizes; memory = c.memory-memory.result; tables = c.in_ok-tables.tables } in
    record {
      fits = subst (λ (tree : ContractionTree). PlanFits tree plan) c.tree-tree.ensures.tree (c.fits-2.ensures.0 c.if-not-fits-2.false);
      carried =
          subst (λ (tree : ContractionTree). Carries tree c.args.fusion.0.items (lists_of c.standard_orders-orders.result.0.items)) c.tree-tree.ensures.tree
          c.standard_orders-orders.ensures.carried;
      memory_is =
          c.memory-memory.ensures.value
          ∙ ap₂ (λ (space : IndexSpace) (tree : ContractionTree). memory space tree c.args.fusion.0.items) c.space-space.ensures.space c.tree-tree.ensures.tree;
    }
