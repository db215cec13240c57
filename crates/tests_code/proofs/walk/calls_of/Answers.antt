use Rattle.std.proofs.Common.{◌+◌, ◌<◌, ◌^◌, sym, subst, arith}
use Rattle.tce_tree.specs.Orders.{lists_of}
use Rattle.tce_tree.specs.Measure.{IsMeasured}
use Rattle.tce_code.specs.CodeFor.{IsCodeFor}
use Rattle.tce_code.specs.Plan.{plan_of}
use Rattle.tce_code.specs.Program.{program_of}
use Rattle.tce_walk.specs.Touches.{touch_bound}
use Rattle.tests_code.proofs.walk.calls_of.Goals as goal

pub run_program-answer-requires-clause-few : goal.run_program-answer-requires-clause-few
run_program-answer-requires-clause-few c =
    let few : touch_bound c.args.space.now c.in_ok-tree.tree (program_of c.ops.result.now) < 2 ^ 100 =
    c.touches_are_few.ensures c.args.space.now c.in_ok-tree.tree
    (plan_of c.try_extend_from_slice.new.self.items (lists_of c.standard_orders-orders.result.0.items)) c.ops.result.now c.index_count-indexes.ensures.limits
    (subst (IsMeasured c.args.space.now) (sym (c.in_ok-tree.ensures).ok) (c.in_ok-tree.ensures).measured) c.count-nodes.ensures.kept c.standard_orders-orders.ensures.fit (subst (IsCodeFor c.in_ok-tree.tree (plan_of c.try_extend_from_slice.new.self.items (lists_of c.standard_orders-orders.result.0.items))) (sym c.ops.ensures) c.in_ok-code.ensures) in
    omega (arith, few)
