use Rattle.std.proofs.Common.{◌≡◌, Bool, nat_lt, nat_le, [], ◌∷◌, ◌++◌, sym, ap, ap₂, ◌∙◌}
use Rattle.std.proofs.lemmas.Result.{err_from_is_err_and, on_ok_weaker}
use Rattle.tce_tree.specs.Expr.{tree_of}
use Rattle.tce_grammar.specs.Tokens.{Token, symbol}
use Rattle.tce_grammar.specs.Grammar.{Written, group, spelling}
use Rattle.tce_grammar.specs.Canonical.{written_of, grouped_if}
use Rattle.tce_grammar.specs.Printed.{Printing, with_token, with_tokens}
use Rattle.tce_spec.specs.Statements.{formula_of}
use Rattle.tce_spec.proofs.Printing.{then_token, then_tokens}
use Rattle.tce_spec.proofs.expression_text.+expression.Goals as goal

-- two expressions with an operator between them
joined_printed : (p p1 p2 p3 : Printing) (left right : Written) (gl gr hl hr : Bool) (told sign : Token) → gl ≡ hl → gr ≡ hr → told ≡ sign
    → p1 ≡ with_tokens p (spelling (grouped_if gl left)) → p2 ≡ with_token p1 told → p3 ≡ with_tokens p2 (spelling (grouped_if gr right))
    → p3 ≡ with_tokens p (spelling (grouped_if hl left) ++ sign ∷ spelling (grouped_if hr right))
joined_printed p p1 p2 p3 left right gl gr hl hr told sign l r is e1 e2 e3 =
    then_tokens p p1 p3 (spelling (grouped_if hl left)) (sign ∷ spelling (grouped_if hr right))
    (e1 ∙ ap (λ g. with_tokens p (spelling (grouped_if g left))) l)
    (e3
    ∙ ap (λ g. with_tokens p2 (spelling (grouped_if g right))) r
    ∙ ap (λ q. with_tokens q (spelling (grouped_if hr right))) (e2 ∙ ap (λ t. with_token p1 t) is))

-- an expression in parentheses
group_printed : (p p1 p2 p3 : Printing) (w : Written) → p1 ≡ with_token p (symbol 40) → p2 ≡ with_tokens p1 (spelling w) → p3 ≡ with_token p2 (symbol 41) → p3 ≡ with_tokens p (spelling (group w))
group_printed p p1 p2 p3 w e1 e2 e3 = then_token p1 p2 p3 (spelling w) (symbol 41) e2 e3 ∙ ap (λ q. with_tokens q (spelling w ++ symbol 41 ∷ [])) e1

pub push_binary-returns-in_err-push_operand : goal.push_binary-returns-in_err-push_operand
push_binary-returns-in_err-push_operand t c =
    let p = err_from_is_err_and c.from_residual.result c.from_residual.ensures.1 in
    rw p.1 tt

pub push_binary-returns-in_err-push_symbol : goal.push_binary-returns-in_err-push_symbol
push_binary-returns-in_err-push_symbol t c =
    let p = err_from_is_err_and c.from_residual-in_err-push_symbol.result c.from_residual-in_err-push_symbol.ensures.1 in
    rw p.1 tt

pub push_binary-returns : goal.push_binary-returns
push_binary-returns t c =
    let d = c.args.declarations.now in
    on_ok_weaker c.push_operand-2.result (λ is.
    joined_printed c.args.printer.now c.push_operand.new.printer c.push_symbol.new.printer c.push_operand-2.new.printer (written_of (formula_of d (tree_of c.args.left.now))) (written_of (formula_of d (tree_of c.args.right.now)))
    _ _ _ _ _ _ (ap₂ nat_lt (c.level.ensures d) c.precedence-precedence.ensures) (ap₂ nat_le (c.level-2.ensures d) c.precedence-precedence.ensures) c.sign.ensures
    c.in_ok-push_operand.ensures c.in_ok-push_symbol.ensures is) c.push_operand-2.ensures

pub push_expr-returns-in_err-push_summed-in-Sum : goal.push_expr-returns-in_err-push_summed-in-Sum
push_expr-returns-in_err-push_summed-in-Sum t c =
    let p = err_from_is_err_and c.from_residual.result c.from_residual.ensures.1 in
    rw p.1 tt

pub push_operand-returns-in_err-push_symbol : goal.push_operand-returns-in_err-push_symbol
push_operand-returns-in_err-push_symbol t c =
    let p = err_from_is_err_and c.from_residual.result c.from_residual.ensures.1 in
    rw p.1 tt

pub push_operand-returns-in_err-push_expr : goal.push_operand-returns-in_err-push_expr
push_operand-returns-in_err-push_expr t c =
    let p = err_from_is_err_and c.from_residual-in_err-push_expr.result c.from_residual-in_err-push_expr.ensures.1 in
    rw p.1 tt

pub push_operand-returns-in_ok-push_expr : goal.push_operand-returns-in_ok-push_expr
push_operand-returns-in_ok-push_expr t c =
    let w = written_of (formula_of c.args.declarations.now (tree_of c.args.expr.now)) in
    on_ok_weaker c.push_symbol-then-grouped.result (λ is.
    group_printed c.args.printer.now c.push_symbol.new.printer c.push_expr.new.printer c.push_symbol-then-grouped.new.printer w c.in_ok-push_symbol.ensures c.in_ok-push_expr.ensures is
    ∙ ap (λ g. with_tokens c.args.printer.now (spelling (grouped_if g w))) (sym c.if-grouped.true)) c.push_symbol-then-grouped.ensures
