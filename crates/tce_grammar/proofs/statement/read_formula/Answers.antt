use Rattle.std.proofs.Common.{map, sym, ap, ◌∙◌}
use Rattle.std.specs.Prelude.{option_map}
use Rattle.tce_grammar.specs.Code.{token, names}
use Rattle.tce_grammar.specs.Grammar.{formula}
use Rattle.tce_grammar.proofs.Sides.{formula_lost, formula_sides, left_failed, right_failed}
use Rattle.tce_grammar.proofs.statement.read_formula.Goals as goal

pub returns-in_err-indexes : goal.returns-in_err-indexes
returns-in_err-indexes c =
    left_failed c.from_residual.result c.in_err-indexes.field-0.0 _ _ c.from_residual.ensures.1 c.in_err-indexes.ensures.read
    (formula_lost c.args.result_name.now (map token c.args.tokens.now) (sym c.is_name.ensures ∙ c.if-not-is_name.false))

pub returns-in_err-right_side : goal.returns-in_err-right_side
returns-in_err-right_side c =
    right_failed c.from_residual-in_err-right_side.result c.in_err-right_side.field-0.0 _ _ c.from_residual-in_err-right_side.ensures.1 c.in_err-right_side.ensures
    (λ none. formula_sides c.args.result_name.now (map token c.args.tokens.now) (map token c.in_ok-indexes.rest.now) (names c.in_ok-indexes.indexes.items)
    (sym c.is_name.ensures ∙ c.if-not-is_name.false) c.in_ok-indexes.ensures.read
    ∙ ap (option_map (formula c.args.result_name.now (names c.in_ok-indexes.indexes.items))) none)

pub returns : goal.returns
returns c =
    formula_sides c.args.result_name.now (map token c.args.tokens.now) (map token c.in_ok-indexes.rest.now) (names c.in_ok-indexes.indexes.items)
    (sym c.is_name.ensures ∙ c.if-not-is_name.false) c.in_ok-indexes.ensures.read
    ∙ ap (option_map (formula c.args.result_name.now (names c.in_ok-indexes.indexes.items))) c.in_ok-right_side.ensures
