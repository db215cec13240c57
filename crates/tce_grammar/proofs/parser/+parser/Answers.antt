use Rattle.std.proofs.Common.{map, ap, ◌∙◌, arith}
use Rattle.std.proofs.lemmas.List.{length-map}
use Rattle.std.proofs.lemmas.Result.{IfOk-from_err}
use Rattle.tce_grammar.specs.Code.{token, names, formula}
use Rattle.tce_grammar.specs.Formula.{binary}
use Rattle.tce_grammar.specs.Reading.{times_of, plus_of, chain_at, factor_within, product_within, enclosed_within}
use Rattle.tce_grammar.proofs.Chains.{IsChained, chained_start, chained_more, chained_all, chained_none, chained_lost, enclosed_none, enclosed_lost, enclosed_behind, enclosed_end, sum_lost, sum_unenclosed, sum_whole}
use Rattle.tce_grammar.proofs.Failures.{formula_failed, formula_memory, names_failed, formula_none, symbol_missing, symbol_found}
use Rattle.tce_grammar.proofs.parser.+parser.Goals as goal

pub product-loop-operator-init : goal.product-loop-operator-init
product-loop-operator-init t c =
    chained_start times_of (factor_within c.args.open_left) (map token c.args.tokens.now) (formula c.in_ok-left.left) (map token c.in_ok-left.rest.now)
    c.in_ok-left.ensures.read
    (omega (arith, length-map c.args.tokens.now token, length-map c.in_ok-left.rest.now token, c.in_ok-left.ensures.shorter))

pub product-loop-operator-preserved : goal.product-loop-operator-preserved
product-loop-operator-preserved t c =
    let kept : IsChained times_of (factor_within c.args.open_left) (map token c.args.tokens.now)
    (binary c.in-Some.operator (formula c.loop-operator.left) (formula c.in_ok-right.right)) (map token c.in_ok-right.after.now) =
    chained_more times_of (factor_within c.args.open_left) (map token c.args.tokens.now) (formula c.loop-operator.left) (formula c.in_ok-right.right)
    c.in-Some.operator (map token c.loop-operator.rest.now) (map token c.in-Some.behind.now) (map token c.in_ok-right.after.now)
    c.loop-operator.invariant c.in-Some.ensures.read c.in_ok-right.ensures.read
    (omega (arith, length-map c.in-Some.behind.now token, length-map c.in_ok-right.after.now token, c.in_ok-right.ensures.shorter)) in
    rw c.in_ok-left-2.ensures kept

pub product-returns-clause-read : goal.product-returns-clause-read
product-returns-clause-read t c =
    chained_all times_of (factor_within c.args.open_left) (map token c.args.tokens.now) (formula c.loop-operator.left) (map token c.loop-operator.rest.now)
    c.loop-operator.invariant c.in_default.ensures.read

pub expression-loop-operator-init : goal.expression-loop-operator-init
expression-loop-operator-init t c =
    chained_start plus_of (chain_at times_of (factor_within c.args.open_left)) (map token c.args.tokens.now) (formula c.in_ok-left.left) (map token c.in_ok-left.rest.now)
    c.in_ok-left.ensures.read
    (omega (arith, length-map c.args.tokens.now token, length-map c.in_ok-left.rest.now token, c.in_ok-left.ensures.shorter))

pub expression-loop-operator-preserved : goal.expression-loop-operator-preserved
expression-loop-operator-preserved t c =
    let kept : IsChained plus_of (chain_at times_of (factor_within c.args.open_left)) (map token c.args.tokens.now)
    (binary c.in-Some.operator (formula c.loop-operator.left) (formula c.in_ok-right.right)) (map token c.in_ok-right.after.now) =
    chained_more plus_of (chain_at times_of (factor_within c.args.open_left)) (map token c.args.tokens.now) (formula c.loop-operator.left) (formula c.in_ok-right.right)
    c.in-Some.operator (map token c.loop-operator.rest.now) (map token c.in-Some.behind.now) (map token c.in_ok-right.after.now)
    c.loop-operator.invariant c.in-Some.ensures.read c.in_ok-right.ensures.read
    (omega (arith, length-map c.in-Some.behind.now token, length-map c.in_ok-right.after.now token, c.in_ok-right.ensures.shorter)) in
    rw c.in_ok-left-2.ensures kept

pub expression-returns-clause-read : goal.expression-returns-clause-read
expression-returns-clause-read t c =
    chained_all plus_of (chain_at times_of (factor_within c.args.open_left)) (map token c.args.tokens.now) (formula c.loop-operator.left) (map token c.loop-operator.rest.now)
    c.loop-operator.invariant c.in_default.ensures.read

pub product-returns-in_err-left-clause-read : goal.product-returns-in_err-left-clause-read
product-returns-in_err-left-clause-read t c =
    formula_failed c.from_residual.result c.in_err-left.field-0.0 _ _ c.from_residual.ensures.1 c.in_err-left.ensures.read
    (chained_none times_of (factor_within c.args.open_left) (map token c.args.tokens.now))

pub product-returns-in_err-left-clause-shorter : goal.product-returns-in_err-left-clause-shorter
product-returns-in_err-left-clause-shorter t c = IfOk-from_err c.from_residual.result _ c.from_residual.ensures.0

pub product-returns-in_err-right-clause-read : goal.product-returns-in_err-right-clause-read
product-returns-in_err-right-clause-read t c =
    formula_failed c.from_residual-in_err-right.result c.in_err-right.field-0.0 _ _ c.from_residual-in_err-right.ensures.1 c.in_err-right.ensures.read
    (chained_lost times_of (factor_within c.args.open_left) (map token c.args.tokens.now) (formula c.loop-operator.left)
    c.in-Some.operator (map token c.loop-operator.rest.now) (map token c.in-Some.behind.now)
    c.loop-operator.invariant c.in-Some.ensures.read)

pub product-returns-in_err-right-clause-shorter : goal.product-returns-in_err-right-clause-shorter
product-returns-in_err-right-clause-shorter t c = IfOk-from_err c.from_residual-in_err-right.result _ c.from_residual-in_err-right.ensures.0

pub product-returns-in_err-left-2-clause-read : goal.product-returns-in_err-left-2-clause-read
product-returns-in_err-left-2-clause-read t c = formula_memory c.from_residual-in_err-left-2.result _ c.from_residual-in_err-left-2.ensures.1

pub product-returns-in_err-left-2-clause-shorter : goal.product-returns-in_err-left-2-clause-shorter
product-returns-in_err-left-2-clause-shorter t c = IfOk-from_err c.from_residual-in_err-left-2.result _ c.from_residual-in_err-left-2.ensures.0

pub expression-returns-in_err-left-clause-read : goal.expression-returns-in_err-left-clause-read
expression-returns-in_err-left-clause-read t c =
    formula_failed c.from_residual.result c.in_err-left.field-0.0 _ _ c.from_residual.ensures.1 c.in_err-left.ensures.read
    (chained_none plus_of (product_within c.args.open_left) (map token c.args.tokens.now))

pub expression-returns-in_err-left-clause-shorter : goal.expression-returns-in_err-left-clause-shorter
expression-returns-in_err-left-clause-shorter t c = IfOk-from_err c.from_residual.result _ c.from_residual.ensures.0

pub expression-returns-in_err-right-clause-read : goal.expression-returns-in_err-right-clause-read
expression-returns-in_err-right-clause-read t c =
    formula_failed c.from_residual-in_err-right.result c.in_err-right.field-0.0 _ _ c.from_residual-in_err-right.ensures.1 c.in_err-right.ensures.read
    (chained_lost plus_of (product_within c.args.open_left) (map token c.args.tokens.now) (formula c.loop-operator.left)
    c.in-Some.operator (map token c.loop-operator.rest.now) (map token c.in-Some.behind.now)
    c.loop-operator.invariant c.in-Some.ensures.read)

pub expression-returns-in_err-right-clause-shorter : goal.expression-returns-in_err-right-clause-shorter
expression-returns-in_err-right-clause-shorter t c = IfOk-from_err c.from_residual-in_err-right.result _ c.from_residual-in_err-right.ensures.0

pub expression-returns-in_err-left-2-clause-read : goal.expression-returns-in_err-left-2-clause-read
expression-returns-in_err-left-2-clause-read t c = formula_memory c.from_residual-in_err-left-2.result _ c.from_residual-in_err-left-2.ensures.1

pub expression-returns-in_err-left-2-clause-shorter : goal.expression-returns-in_err-left-2-clause-shorter
expression-returns-in_err-left-2-clause-shorter t c = IfOk-from_err c.from_residual-in_err-left-2.result _ c.from_residual-in_err-left-2.ensures.0

pub enclosed-returns-then-open_left-eq0-clause-read : goal.enclosed-returns-then-open_left-eq0-clause-read
enclosed-returns-then-open_left-eq0-clause-read t c = enclosed_none c.args.open_left (map token c.args.tokens.now) c.if-open_left-eq0.true

pub enclosed-returns-in_err-inner-clause-read : goal.enclosed-returns-in_err-inner-clause-read
enclosed-returns-in_err-inner-clause-read t c =
    formula_failed c.from_residual.result c.in_err-inner.field-0.0 _ _ c.from_residual.ensures.1 c.in_err-inner.ensures.read
    (enclosed_lost c.args.open_left (map token c.args.tokens.now) c.if-open_left-eq0.false)

pub enclosed-returns-in_err-inner-clause-shorter : goal.enclosed-returns-in_err-inner-clause-shorter
enclosed-returns-in_err-inner-clause-shorter t c = IfOk-from_err c.from_residual.result _ c.from_residual.ensures.0

pub enclosed-returns-in_err-rest-clause-read : goal.enclosed-returns-in_err-rest-clause-read
enclosed-returns-in_err-rest-clause-read t c =
    formula_none c.from_residual-in_err-rest.result c.in_err-rest.field-0.0 _ c.from_residual-in_err-rest.ensures.1
    (enclosed_behind c.args.open_left (map token c.args.tokens.now) (map token c.in_ok-inner.rest.now) (formula c.in_ok-inner.inner) c.if-open_left-eq0.false
    c.in_ok-inner.ensures.read
    ∙ ap (enclosed_end (formula c.in_ok-inner.inner))
    (symbol_missing c.behind.result c.ok_or.result c.in_err-rest.field-0.0 _ c.ok_or.ensures.value c.in_err-rest.was c.behind.ensures.read))

pub enclosed-returns-in_err-rest-clause-shorter : goal.enclosed-returns-in_err-rest-clause-shorter
enclosed-returns-in_err-rest-clause-shorter t c = IfOk-from_err c.from_residual-in_err-rest.result _ c.from_residual-in_err-rest.ensures.0

pub enclosed-returns-clause-read : goal.enclosed-returns-clause-read
enclosed-returns-clause-read t c =
    enclosed_behind c.args.open_left (map token c.args.tokens.now) (map token c.in_ok-inner.rest.now) (formula c.in_ok-inner.inner) c.if-open_left-eq0.false
    c.in_ok-inner.ensures.read
    ∙ ap (enclosed_end (formula c.in_ok-inner.inner))
    (symbol_found c.behind.result c.ok_or.result c.in_ok-rest.rest _ c.ok_or.ensures.value c.in_ok-rest.was c.behind.ensures.read)

pub sum-returns-in_err-indexes-clause-read : goal.sum-returns-in_err-indexes-clause-read
sum-returns-in_err-indexes-clause-read t c =
    names_failed c.from_residual.result c.in_err-indexes.field-0.0 _ _ c.from_residual.ensures.1 c.in_err-indexes.ensures.read
    (sum_lost (enclosed_within c.args.open_left) (map token c.args.tokens.now))

pub sum-returns-in_err-indexes-clause-shorter : goal.sum-returns-in_err-indexes-clause-shorter
sum-returns-in_err-indexes-clause-shorter t c = IfOk-from_err c.from_residual.result _ c.from_residual.ensures.0

pub sum-returns-in_err-operand-clause-read : goal.sum-returns-in_err-operand-clause-read
sum-returns-in_err-operand-clause-read t c =
    formula_failed c.from_residual-in_err-operand.result c.in_err-operand.field-0.0 _ _ c.from_residual-in_err-operand.ensures.1 c.in_err-operand.ensures.read
    (sum_unenclosed (enclosed_within c.args.open_left) (map token c.args.tokens.now) (map token c.in_ok-indexes.rest.now) (names c.in_ok-indexes.indexes.items)
    c.in_ok-indexes.ensures.read)

pub sum-returns-in_err-operand-clause-shorter : goal.sum-returns-in_err-operand-clause-shorter
sum-returns-in_err-operand-clause-shorter t c = IfOk-from_err c.from_residual-in_err-operand.result _ c.from_residual-in_err-operand.ensures.0

pub sum-returns-in_err-operand-2-clause-read : goal.sum-returns-in_err-operand-2-clause-read
sum-returns-in_err-operand-2-clause-read t c = formula_memory c.from_residual-in_err-operand-2.result _ c.from_residual-in_err-operand-2.ensures.1

pub sum-returns-in_err-operand-2-clause-shorter : goal.sum-returns-in_err-operand-2-clause-shorter
sum-returns-in_err-operand-2-clause-shorter t c = IfOk-from_err c.from_residual-in_err-operand-2.result _ c.from_residual-in_err-operand-2.ensures.0

pub sum-returns-clause-read : goal.sum-returns-clause-read
sum-returns-clause-read t c =
    rw c.in_ok-operand-2.ensures.ok
    (sum_whole (enclosed_within c.args.open_left) (map token c.args.tokens.now) (map token c.in_ok-indexes.rest.now) (map token c.in_ok-operand.rest.now)
    (names c.in_ok-indexes.indexes.items) (formula c.in_ok-operand.operand)
    c.in_ok-indexes.ensures.read c.in_ok-operand.ensures.read)
