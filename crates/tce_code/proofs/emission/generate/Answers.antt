use Rattle.std.proofs.Common.{◌-◌, ◌++◌, ap, ◌∙◌, arith}
use Rattle.tce_tree.specs.Orders.{lists_of}
use Rattle.tce_code.specs.Program.{spelled}
use Rattle.tce_code.specs.Emission.{node_loops_code}
use Rattle.tce_code.specs.Plan.{plan_of}
use Rattle.tce_code.proofs.Emitted.{root-code}
use Rattle.tce_code.proofs.Conditions.{joints-fit}
use Rattle.tce_code.proofs.CodeLaws.{code-is}
use Rattle.tce_code.proofs.emission.generate.Goals as goal

pub emit_loops-requires-clause-fit : goal.emit_loops-requires-clause-fit
emit_loops-requires-clause-fit c =
    joints-fit c.args.tree.now c.args.fusion.now.0.items (lists_of c.args.orders.now.0.items) c.requires.fusion_fits c.requires.orders_fit

pub returns : goal.returns
returns c =
    code-is c.args.tree.now c.args.fusion.now.0.items (lists_of c.args.orders.now.0.items) c.requires.fusion_fits c.requires.orders_fit c.requires.carried
    c.count-root.ensures.kept c.emit_loops.new.ops.items
    (c.in_ok-emit_loops.ensures
    ∙ ap (λ xs. xs ++ spelled (node_loops_code c.args.tree.now (plan_of c.args.fusion.now.0.items (lists_of c.args.orders.now.0.items)) (c.count-root.result - 1) 0)) c.new-ops.ensures.items
    ∙ ap spelled (root-code c.args.tree.now (plan_of c.args.fusion.now.0.items (lists_of c.args.orders.now.0.items)) (c.count-root.result - 1) (omega arith)))
