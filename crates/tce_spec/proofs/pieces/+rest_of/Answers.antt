use Rattle.std.proofs.Common.{◌≡◌, ℕ, ◌+◌, ◌-◌, ◌<◌, inl, inr, sym, ap, ◌∙◌, arith}
use Rattle.tce_space.specs.IndexSet.{has}
use Rattle.tce_tree.specs.Expr.{tree_of}
use Rattle.tce_tree.specs.declared.expr.Expr.{Expr}
use Rattle.tce_tree.specs.ContractionTree.{ContractionTree, Arithmetic, leaf, sum, binary, multiply, add, subtract, operations}
use Rattle.tce_spec.specs.Pieces.{except, reference_to, rest_of}
use Rattle.std.proofs.lemmas.Result.{IfOk-weaker, IfOk-from_err}
use Rattle.tce_spec.specs.PieceCode.{IsJoined, IsRestOf}
use Rattle.tce_spec.proofs.PieceParts.{last_node, rest_cut, rest_operands, rest_sum}
use Rattle.tce_spec.proofs.pieces.+rest_of.Goals as goal

pub returns-then-has_last : goal.returns-then-has_last
returns-then-has_last t c =
    let part : ContractionTree = tree_of c.args.part.now in
    let v : ℕ = c.args.first + c.operations-nodes.result - 1 in
    let positive : 0 < c.operations-nodes.result = c.has_last.ensures.some c.if-has_last.true in
    let some : 0 < operations part = omega (arith, c.operations-nodes.ensures, positive) in
    let number : v + 1 ≡ c.args.first + operations part = omega (arith, c.operations-nodes.ensures, c.requires.inside, c.count-count.ensures.limit, c.count-count.ensures.value, some) in
    c.reference_to.ensures ∙ ap (reference_to v) (last_node c.args.tree.now c.args.first part v c.requires.stands some number)
    ∙ sym (rest_cut (except (has c.args.cut.cuts) c.args.cut.root) c.args.first part v number some (sym (c.has_last.ensures.last positive) ∙ c.if-has_last.true))

pub returns-in-Ok : goal.returns-in-Ok
returns-in-Ok t c =
    let which : (op : Arithmetic) × (tree_of c.args.part.now ≡ binary op (tree_of c.in-Product.left.value) (tree_of c.in-Product.right.value)) =
    elim c.in-Product.is [ inl p ↦ (multiply, ap tree_of p) | inr q ↦ elim q [ inl p ↦ (add, ap tree_of p) | inr p ↦ (subtract, ap tree_of p) ] ] in
    let count = ap (λ (e : ContractionTree). operations e) which.1 in
    let v : ℕ = c.args.first + c.operations-nodes.result - 1 in
    let left = ap (λ (e : ContractionTree). operations e) (ap tree_of c.deref-in-Product.ensures) in
    let behind : ℕ = c.args.first + c.operations.result in
    IfOk-weaker c.joined.result (IsJoined c.args.part.now c.in_ok-left-in-Product.left c.in-Ok.right) (IsRestOf c.args.cut.cuts c.args.cut.root c.args.first c.args.part.now)
    (λ own is. rest_operands (except (has c.args.cut.cuts) c.args.cut.root) c.args.first behind which.0 _ _ _ _ _ _ v is which.1
    (c.in_ok-left-in-Product.ensures ∙ ap (λ (e : Expr). rest_of (except (has c.args.cut.cuts) c.args.cut.root) c.args.first (tree_of e)) c.deref-in-Product-2.ensures)
    (c.in-Ok.ensures ∙ ap (λ (e : Expr). rest_of (except (has c.args.cut.cuts) c.args.cut.root) behind (tree_of e)) c.deref-in-Product-3.ensures)
    (omega (arith, c.operations-nodes.ensures, count))
    (omega (arith, c.operations.ensures, left))
    (sym (c.has_last.ensures.last (omega (arith, c.operations-nodes.ensures, count))) ∙ c.if-has_last.false))
    c.joined.ensures

pub returns-in_err-left-in-Product : goal.returns-in_err-left-in-Product
returns-in_err-left-in-Product t c = IfOk-from_err c.from_residual-in_err-left-in-Product.result _ c.from_residual-in_err-left-in-Product.ensures.0

pub returns-in_err-rest-in-Sum : goal.returns-in_err-rest-in-Sum
returns-in_err-rest-in-Sum t c = IfOk-from_err c.from_residual.result _ c.from_residual.ensures.0

pub returns-in_ok-rest-in-Sum : goal.returns-in_ok-rest-in-Sum
returns-in_ok-rest-in-Sum t c =
    let whole : tree_of c.args.part.now ≡ sum c.in-Sum.indexes.items (tree_of c.in-Sum.operand.value) = ap tree_of c.in-Sum.is in
    let count = ap (λ (e : ContractionTree). operations e) whole in
    let v : ℕ = c.args.first + c.operations-nodes.result - 1 in
    IfOk-weaker c.summed.result (λ (own : Expr). tree_of own ≡ sum c.in-Sum.indexes.items (tree_of c.in_ok-rest-in-Sum.rest))
    (IsRestOf c.args.cut.cuts c.args.cut.root c.args.first c.args.part.now)
    (λ own is. is
    ∙ ap (sum c.in-Sum.indexes.items) (c.in_ok-rest-in-Sum.ensures ∙ ap (λ (e : Expr). rest_of (except (has c.args.cut.cuts) c.args.cut.root) c.args.first (tree_of e)) c.deref.ensures)
    ∙ sym (ap (rest_of (except (has c.args.cut.cuts) c.args.cut.root) c.args.first) whole
    ∙ rest_sum (except (has c.args.cut.cuts) c.args.cut.root) c.args.first c.in-Sum.indexes.items (tree_of c.in-Sum.operand.value) v
    (omega (arith, c.operations-nodes.ensures, count))
    (sym (c.has_last.ensures.last (omega (arith, c.operations-nodes.ensures, count))) ∙ c.if-has_last.false)))
    c.summed.ensures

pub returns-in-Leaf : goal.returns-in-Leaf
returns-in-Leaf t c =
    IfOk-weaker c.leaf_at.result (λ (own : Expr). tree_of own ≡ leaf c.in-Leaf.leaf.tensor c.in-Leaf.leaf.indexes.items) (IsRestOf c.args.cut.cuts c.args.cut.root c.args.first c.args.part.now)
    (λ own is. is ∙ sym (ap (rest_of (except (has c.args.cut.cuts) c.args.cut.root) c.args.first) (ap tree_of c.in-Leaf.is))) c.leaf_at.ensures
