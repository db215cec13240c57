use Rattle.std.proofs.Common.{sym, ap, inl, inr}
use Rattle.tce_tree.specs.Expr.{tree_of}
use Rattle.tce_tree.specs.declared.expr.Expr.{Expr}
use Rattle.tce_spec.specs.PieceCode.{with_operands}
use Rattle.tce_spec.proofs.pieces.with_operands.Goals as goal

pub returns-in-Product : goal.returns-in-Product
returns-in-Product c = sym (ap (λ (e : Expr). with_operands (tree_of e) (tree_of c.args.left.value) (tree_of c.args.right.value)) c.in-Product.is)

pub returns-in-Add : goal.returns-in-Add
returns-in-Add c = sym (ap (λ (e : Expr). with_operands (tree_of e) (tree_of c.args.left.value) (tree_of c.args.right.value)) c.in-Add.is)

pub returns-in-Sub : goal.returns-in-Sub
returns-in-Sub c =
    let same = λ (e : Expr). with_operands (tree_of e) (tree_of c.args.left.value) (tree_of c.args.right.value) in
    elim c.in-Sub.is [ inl p ↦ sym (ap same p.2) | inr q ↦ elim q [ inl p ↦ sym (ap same p.2) | inr r ↦ elim r [ inl p ↦ sym (ap same p.1) | inr p ↦ sym (ap same p.1) ] ] ]
