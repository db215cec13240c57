use Rattle.std.proofs.Common.{◌≡◌, ◌+◌, ◌*◌, ◌++◌, ℕ, List, [], ◌∷◌, length, get_or, sym, ap, ◌∙◌, subst, arith}
use Rattle.std.proofs.lemmas.Result.{on_ok_weaker}
use Rattle.tce_tree.specs.declared.node.Operand.TheVariants.{Node}
use Rattle.tce_space.specs.IndexSet.{count}
use Rattle.tce_tree.specs.ContractionTree.{operations, node}
use Rattle.tce_tree.specs.FlatTree.{IsBefore}
use Rattle.tce_tree.specs.Fusion.{order_at, fused_at}
use Rattle.tce_tree.specs.Orders.{lists_of}
use Rattle.tce_tree.proofs.Nodes.{size_bounds}
use Rattle.tce_tree.proofs.Operands.{right_is_before}
use Rattle.tce_code.specs.Program.{spelled}
use Rattle.tce_code.specs.Generation.{computing}
use Rattle.tce_code.specs.Plan.{Plan, plan_of}
use Rattle.tce_code.specs.Emission.{named_code, node_inner_code}
use Rattle.tce_code.proofs.Emitted.{before-weaker, measure-before, loops-open, loops-end, computing-spelled, two-operands, one-operand, operand-begun, operand_measure}
use Rattle.tce_code.proofs.emission.+emission.Goals as goal

pub emit_inside-emit_operand-requires : goal.emit_inside-emit_operand-requires
emit_inside-emit_operand-requires t c =
    let m = measure-before c.left.result.now c.args.v c.left.ensures.before in
    (omega arith, (c.requires.fit, before-weaker c.left.result.now c.args.v (operations c.args.tree.now) c.left.ensures.before (omega arith)))

pub emit_inside-emit_operand-requires-in-Some : goal.emit_inside-emit_operand-requires-in-Some
emit_inside-emit_operand-requires-in-Some t c =
    let b : IsBefore c.args.v c.in-Some.right.now = right_is_before c.args.tree.now c.args.v c.in-Some.right.now c.requires.inside c.in-Some.ensures.value in
    let m = measure-before c.in-Some.right.now c.args.v b in
    (omega arith, (c.requires.fit, before-weaker c.in-Some.right.now c.args.v (operations c.args.tree.now) b (omega arith)))

pub emit_inside-returns-in-Some : goal.emit_inside-returns-in-Some
emit_inside-returns-in-Some t c =
    on_ok_weaker c.emit_operand-in-Some.result
    (λ e. two-operands c.args.tree.now (plan_of c.args.fusion.now.0.items (lists_of c.args.orders.now.0.items)) c.args.v c.args.depth
    c.left.result.now c.in-Some.right.now c.args.ops.now.items c.emit_operand.new.ops.items c.emit_operand-in-Some.new.ops.items
    c.requires.inside c.left.ensures.value c.in-Some.ensures.value c.in_ok-emit_operand.ensures e)
    c.emit_operand-in-Some.ensures

pub emit_inside-returns-in-None : goal.emit_inside-returns-in-None
emit_inside-returns-in-None t c =
    one-operand c.args.tree.now (plan_of c.args.fusion.now.0.items (lists_of c.args.orders.now.0.items)) c.args.v c.args.depth
    c.left.result.now c.args.ops.now.items c.emit_operand.new.ops.items
    c.requires.inside c.left.ensures.value c.in-None.ensures.value c.in_ok-emit_operand.ensures

pub emit_loops-returns-in_ok-push-2 : goal.emit_loops-returns-in_ok-push-2
emit_loops-returns-in_ok-push-2 t c =
    let order : List ℕ = order_at (lists_of c.args.orders.now.0.items) c.args.v in
    let long : c.len.result ≡ length order = c.len.ensures.value ∙ ap length c.order_at_node-order.ensures in
    let plan : Plan = plan_of c.args.fusion.now.0.items (lists_of c.args.orders.now.0.items) in
    loops-open (node_inner_code c.args.tree.now plan c.args.v) order (computing (node c.args.tree.now c.args.v) c.args.v) c.args.depth
    (get_or c.deref.result.now c.args.depth 0) c.args.ops.now.items c.emit_inside.new.ops.items c.push.new.self.items c.emit_loops.new.ops.items
    c.push-then-depth-len.new.self.items (omega arith)
    (ap (λ xs. get_or xs c.args.depth 0) (c.deref.ensures.0 ∙ c.order_at_node-order.ensures))
    c.in_ok-emit_inside.ensures c.in_ok-push.ensures.items c.in_ok-emit_loops.ensures c.in_ok-push-2.ensures.items

pub emit_loops-returns-in_ok-push-3 : goal.emit_loops-returns-in_ok-push-3
emit_loops-returns-in_ok-push-3 t c =
    let order : List ℕ = order_at (lists_of c.args.orders.now.0.items) c.args.v in
    let long : c.len.result ≡ length order = c.len.ensures.value ∙ ap length c.order_at_node-order.ensures in
    let plan : Plan = plan_of c.args.fusion.now.0.items (lists_of c.args.orders.now.0.items) in
    loops-end (node_inner_code c.args.tree.now plan c.args.v) order (computing (node c.args.tree.now c.args.v) c.args.v) c.args.depth
    c.computing.result c.args.ops.now.items c.emit_inside.new.ops.items c.push-else-depth-len.new.self.items (omega arith)
    (computing-spelled (node c.args.tree.now c.args.v) c.args.v (size_bounds c.args.tree.now c.args.v c.requires.inside).0
    ∙ ap (λ o. o ∷ []) (sym c.computing.ensures))
    c.in_ok-emit_inside.ensures c.in_ok-push-3.ensures.items

pub emit_operand-emit_inside-requires : goal.emit_operand-emit_inside-requires
emit_operand-emit_inside-requires t c =
    let b : IsBefore (operations c.args.tree.now) (Node c.in-Node.v) = subst (IsBefore (operations c.args.tree.now)) c.in-Node.is c.requires.inside in
    let m : operand_measure c.args.operand.now ≡ 36 * c.in-Node.v + 36 = ap operand_measure c.in-Node.is in
    (omega arith, (c.requires.fit, b))

pub emit_operand-emit_loops-requires : goal.emit_operand-emit_loops-requires
emit_operand-emit_loops-requires t c =
    let b : IsBefore (operations c.args.tree.now) (Node c.in-Node.v) = subst (IsBefore (operations c.args.tree.now)) c.in-Node.is c.requires.inside in
    let m : operand_measure c.args.operand.now ≡ 36 * c.in-Node.v + 36 = ap operand_measure c.in-Node.is in
    let joint : c.count-joint.result ≡ count (fused_at c.args.fusion.now.0.items c.in-Node.v) =
    c.count-joint.ensures.value ∙ ap count c.fused_at_node.ensures in
    let low = c.requires.fit.joints c.in-Node.v b in
    (omega arith, (c.requires.fit, (b, omega arith)))

pub emit_operand-returns-in_ok-emit_clearing : goal.emit_operand-returns-in_ok-emit_clearing
emit_operand-returns-in_ok-emit_clearing t c =
    let b : IsBefore (operations c.args.tree.now) (Node c.in-Node.v) = subst (IsBefore (operations c.args.tree.now)) c.in-Node.is c.requires.inside in
    let joint : c.count-joint.result ≡ count (fused_at c.args.fusion.now.0.items c.in-Node.v) =
    c.count-joint.ensures.value ∙ ap count c.fused_at_node.ensures in
    on_ok_weaker c.emit_loops.result
    (λ e. operand-begun c.args.tree.now (plan_of c.args.fusion.now.0.items (lists_of c.args.orders.now.0.items)) c.in-Node.v c.args.depth
    c.args.ops.now.items c.emit_clearing.new.ops.items c.emit_loops.new.ops.items b (c.if-depth-joint-2.true ∙ joint) c.in_ok-emit_clearing.ensures e
    ∙ ap (λ o. c.args.ops.now.items ++ spelled (named_code c.args.tree.now (plan_of c.args.fusion.now.0.items (lists_of c.args.orders.now.0.items)) o c.args.depth))
    (sym c.in-Node.is))
    c.emit_loops.ensures
