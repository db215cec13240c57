use Rattle.std.proofs.Common.{◌≡◌, ℕ, sym, ap, ◌∙◌, inl, inr}
use Rattle.tce_tree.specs.Expr.{tree_of}
use Rattle.tce_tree.specs.declared.expr.Expr.{Expr}
use Rattle.tce_tree.specs.ContractionTree.{Arithmetic, leaf, sum, binary, multiply, add, subtract}
use Rattle.tce_spec.specs.PieceSpecification.{renumbered, place_in}
use Rattle.std.proofs.lemmas.Result.{IfOk-weaker, IfOk-from_err}
use Rattle.tce_spec.specs.PieceCode.{IsJoined, IsRenumbered}
use Rattle.tce_spec.proofs.PieceParts.{renumbered_operands}
use Rattle.tce_spec.proofs.pieces.+renumbered.Goals as goal

pub returns-in-Ok : goal.returns-in-Ok
returns-in-Ok t c =
    let which : (op : Arithmetic) × (tree_of c.args.expr.now ≡ binary op (tree_of c.in-Product.left.value) (tree_of c.in-Product.right.value)) =
    elim c.in-Product.is [ inl p ↦ (multiply, ap tree_of p) | inr q ↦ elim q [ inl p ↦ (add, ap tree_of p) | inr p ↦ (subtract, ap tree_of p) ] ] in
    IfOk-weaker c.joined.result (IsJoined c.args.expr.now c.in_ok-left-in-Product.left c.in-Ok.right) (IsRenumbered c.args.numbers.now c.args.expr.now)
    (λ own is. renumbered_operands (place_in c.args.numbers.now) which.0 _ _ _ _ _ _ is which.1
    (c.in_ok-left-in-Product.ensures ∙ ap (λ (e : Expr). renumbered (place_in c.args.numbers.now) (tree_of e)) c.deref-in-Product.ensures)
    (c.in-Ok.ensures ∙ ap (λ (e : Expr). renumbered (place_in c.args.numbers.now) (tree_of e)) c.deref-in-Product-2.ensures))
    c.joined.ensures

pub returns-in_err-left-in-Product : goal.returns-in_err-left-in-Product
returns-in_err-left-in-Product t c = IfOk-from_err c.from_residual-in_err-left-in-Product.result _ c.from_residual-in_err-left-in-Product.ensures.0

pub returns-in_err-own-in-Sum : goal.returns-in_err-own-in-Sum
returns-in_err-own-in-Sum t c = IfOk-from_err c.from_residual.result _ c.from_residual.ensures.0

pub returns-in_ok-own-in-Sum : goal.returns-in_ok-own-in-Sum
returns-in_ok-own-in-Sum t c =
    IfOk-weaker c.summed.result (λ (own : Expr). tree_of own ≡ sum c.in-Sum.indexes.items (tree_of c.in_ok-own-in-Sum.own)) (IsRenumbered c.args.numbers.now c.args.expr.now)
    (λ own is. is
    ∙ ap (sum c.in-Sum.indexes.items) (c.in_ok-own-in-Sum.ensures ∙ ap (λ (e : Expr). renumbered (place_in c.args.numbers.now) (tree_of e)) c.deref.ensures)
    ∙ sym (ap (renumbered (place_in c.args.numbers.now)) (ap tree_of c.in-Sum.is)))
    c.summed.ensures

pub returns-in-Leaf : goal.returns-in-Leaf
returns-in-Leaf t c =
    IfOk-weaker c.leaf_at.result (λ (own : Expr). tree_of own ≡ leaf c.place_of.result c.in-Leaf.leaf.indexes.items) (IsRenumbered c.args.numbers.now c.args.expr.now)
    (λ own is. is ∙ ap (λ (n : ℕ). leaf n c.in-Leaf.leaf.indexes.items) c.place_of.ensures.value ∙ sym (ap (renumbered (place_in c.args.numbers.now)) (ap tree_of c.in-Leaf.is)))
    c.leaf_at.ensures
