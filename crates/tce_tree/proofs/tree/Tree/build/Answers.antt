use Rattle.std.proofs.Common.{◌≡◌, length, arith, sym, ap, ◌∙◌, eqb-true}
use Rattle.std.proofs.lemmas.Bool.{eqb-false}
use Rattle.tce_tree.specs.Expr.{tree_of}
use Rattle.tce_tree.specs.Faults.{nodes_fault}
use Rattle.tce_tree.proofs.FaultLaws.{shows_tree, fault_of_none, fault_of_faultless, built, built_is, nodes_from, is_tree, is_measured}
use Rattle.tce_tree.proofs.tree.Tree.build.Goals as goal

pub invariant_of-result : goal.invariant_of-result
invariant_of-result c =
    let n : length c.new-nodes.result.items ≡ 0 = ap length c.new-nodes.ensures in
    let ne = eqb-false _ _ (sym c.is_empty.ensures ∙ c.if-is_empty.false) in
    built c.push_nodes.new.nodes.items (tree_of c.args.expr.now)
    (nodes_from c.new-nodes.result.items c.push_nodes.new.nodes.items (tree_of c.args.expr.now) c.new-nodes.ensures c.in-Ok-2.ensures.ok)
    (is_tree c.args.space.now (tree_of c.args.expr.now) (omega (arith, c.in-Ok-2.ensures.len)) c.requires.few c.index_count-count.ensures.limits.index_limit
    c.requires.declared c.requires.distinct (ap (λ k. nodes_fault c.args.space.now k (tree_of c.args.expr.now)) (sym n) ∙ c.in-Ok-2.ensures.faultless))

pub returns-in-Err-clause-fault : goal.returns-in-Err-clause-fault
returns-in-Err-clause-fault c =
    shows_tree c.args.space.now (tree_of c.args.expr.now) (length c.new-nodes.result.items) c.in-Err.fault (ap length c.new-nodes.ensures) c.in-Err.ensures.fault

pub returns-in-Ok-clause-fault : goal.returns-in-Ok-clause-fault
returns-in-Ok-clause-fault c =
    let n : length c.new-nodes.result.items ≡ 0 = ap length c.new-nodes.ensures in
    let e = eqb-true _ _ (sym c.is_empty.ensures ∙ c.if-is_empty.true) in
    fault_of_none c.args.space.now (tree_of c.args.expr.now) (omega (arith, c.in-Ok.ensures.len))

pub returns-in-Ok-2-clause-ok : goal.returns-in-Ok-2-clause-ok
returns-in-Ok-2-clause-ok c =
    let n : length c.new-nodes.result.items ≡ 0 = ap length c.new-nodes.ensures in
    let ne = eqb-false _ _ (sym c.is_empty.ensures ∙ c.if-is_empty.false) in
    built_is c.push_nodes.new.nodes.items (tree_of c.args.expr.now)
    (nodes_from c.new-nodes.result.items c.push_nodes.new.nodes.items (tree_of c.args.expr.now) c.new-nodes.ensures c.in-Ok-2.ensures.ok)
    (omega (arith, c.in-Ok-2.ensures.len))

pub returns-in-Ok-2-clause-faultless : goal.returns-in-Ok-2-clause-faultless
returns-in-Ok-2-clause-faultless c =
    let n : length c.new-nodes.result.items ≡ 0 = ap length c.new-nodes.ensures in
    let ne = eqb-false _ _ (sym c.is_empty.ensures ∙ c.if-is_empty.false) in
    fault_of_faultless c.args.space.now (tree_of c.args.expr.now) (omega (arith, c.in-Ok-2.ensures.len))
    (ap (λ k. nodes_fault c.args.space.now k (tree_of c.args.expr.now)) (sym n) ∙ c.in-Ok-2.ensures.faultless)

pub returns-in-Ok-2-clause-measured : goal.returns-in-Ok-2-clause-measured
returns-in-Ok-2-clause-measured c =
    let n : length c.new-nodes.result.items ≡ 0 = ap length c.new-nodes.ensures in
    is_measured c.args.space.now (tree_of c.args.expr.now) c.requires.declared
    (ap (λ k. nodes_fault c.args.space.now k (tree_of c.args.expr.now)) (sym n) ∙ c.in-Ok-2.ensures.faultless)
