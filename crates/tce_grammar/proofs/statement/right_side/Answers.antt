use Rattle.std.proofs.Common.{map, sym, ap, ◌∙◌}
use Rattle.tce_grammar.specs.Code.{token, formula}
use Rattle.tce_grammar.specs.Reading.{whole, formula_within}
use Rattle.tce_grammar.proofs.Sides.{side_missing, side_behind, side_failed, whole_ended, whole_further}
use Rattle.tce_grammar.proofs.statement.right_side.Goals as goal

pub returns-in_default : goal.returns-in_default
returns-in_default c = side_missing (map token c.args.tokens.now) (sym c.in_default.ensures.read)

pub returns-in_err-formula : goal.returns-in_err-formula
returns-in_err-formula c =
    side_failed c.from_residual.result c.in_err-formula.field-0.0 _ _ c.from_residual.ensures.1 c.in_err-formula.ensures.read
    (λ none. side_behind (map token c.args.tokens.now) (map token c.in-Some.tokens.now) (sym c.in-Some.ensures.read)
    ∙ ap whole none)

pub returns-then-is_empty : goal.returns-then-is_empty
returns-then-is_empty c =
    side_behind (map token c.args.tokens.now) (map token c.in-Some.tokens.now) (sym c.in-Some.ensures.read)
    ∙ whole_ended (formula_within 64 (map token c.in-Some.tokens.now)) (formula c.in_ok-formula.formula) c.in_ok-formula.rest.now c.in_ok-formula.ensures.read
    (sym c.is_empty.ensures ∙ c.if-is_empty.true)

pub returns : goal.returns
returns c =
    side_behind (map token c.args.tokens.now) (map token c.in-Some.tokens.now) (sym c.in-Some.ensures.read)
    ∙ whole_further (formula_within 64 (map token c.in-Some.tokens.now)) (formula c.in_ok-formula.formula) c.in_ok-formula.rest.now c.in_ok-formula.ensures.read
    (sym c.is_empty.ensures ∙ c.if-is_empty.false)
