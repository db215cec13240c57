use Rattle.std.proofs.Common.{◌≡◌, ◌-◌, inl, inr, sym, ap, ◌∙◌, arith}
use Rattle.tce_tree.specs.Expr.{tree_of}
use Rattle.tce_tree.specs.ContractionTree.{ContractionTree, operations, Arithmetic, binary, node, multiply, add, subtract}
use Rattle.tce_tree.proofs.Nodes.{node-root, node-left, node-operand}
use Rattle.tce_spec.proofs.PieceParts.{in_right}
use Rattle.tce_spec.proofs.pieces.+node_of.Goals as goal

pub returns-then-v-operations : goal.returns-then-v-operations
returns-then-v-operations t c = sym (node-root (tree_of c.args.expr.now) c.args.v (omega (arith, c.if-v-operations.true, c.operations.ensures, c.requires.few)))

pub returns-in-Sum : goal.returns-in-Sum
returns-in-Sum t c =
    let count = ap (λ (e : ContractionTree). operations e) (ap tree_of c.in-Sum.is) in
    c.node_of.ensures ∙ ap (λ (e : ContractionTree). node e c.args.v) (ap tree_of c.deref.ensures)
    ∙ sym (ap (λ (e : ContractionTree). node e c.args.v) (ap tree_of c.in-Sum.is) ∙ node-operand c.in-Sum.field-0.items (tree_of c.in-Sum.operand.value) c.args.v
    (omega (arith, count, c.requires.inside, c.requires.few, c.operations.ensures, c.if-v-operations.false)))

pub returns-then-v-before : goal.returns-then-v-before
returns-then-v-before t c =
    let which : (op : Arithmetic) × (tree_of c.args.expr.now ≡ binary op (tree_of c.in-Product.left.value) (tree_of c.in-Product.right.value)) =
    elim c.in-Product.is [ inl p ↦ (multiply, ap tree_of p) | inr q ↦ elim q [ inl p ↦ (add, ap tree_of p) | inr p ↦ (subtract, ap tree_of p) ] ] in
    let left = ap (λ (e : ContractionTree). operations e) (ap tree_of c.deref-in-Product.ensures) in
    c.node_of-then-v-before.ensures ∙ ap (λ (e : ContractionTree). node e c.args.v) (ap tree_of c.deref-then-v-before.ensures)
    ∙ sym (ap (λ (e : ContractionTree). node e c.args.v) which.1 ∙ node-left which.0 (tree_of c.in-Product.left.value) (tree_of c.in-Product.right.value) c.args.v
    (omega (arith, c.if-v-before.true, c.operations-before.ensures, left)))

pub returns-else-v-before : goal.returns-else-v-before
returns-else-v-before t c =
    let which : (op : Arithmetic) × (tree_of c.args.expr.now ≡ binary op (tree_of c.in-Product.left.value) (tree_of c.in-Product.right.value)) =
    elim c.in-Product.is [ inl p ↦ (multiply, ap tree_of p) | inr q ↦ elim q [ inl p ↦ (add, ap tree_of p) | inr p ↦ (subtract, ap tree_of p) ] ] in
    let left = ap (λ (e : ContractionTree). operations e) (ap tree_of c.deref-in-Product.ensures) in
    let count = ap (λ (e : ContractionTree). operations e) which.1 in
    c.node_of-else-v-before.ensures ∙ ap (λ (e : ContractionTree). node e (c.args.v - c.operations-before.result)) (ap tree_of c.deref-else-v-before.ensures)
    ∙ sym (ap (λ (e : ContractionTree). node e c.args.v) which.1
    ∙ in_right which.0 (tree_of c.in-Product.left.value) (tree_of c.in-Product.right.value) c.args.v (c.args.v - c.operations-before.result)
    (omega (arith, c.if-v-before.false, c.operations-before.ensures, left, count, c.requires.few)) (omega (arith, count, c.requires.inside, c.requires.few, c.operations.ensures, c.if-v-operations.false))
    (omega (arith, c.operations-before.ensures, left, count, c.requires.few)))
