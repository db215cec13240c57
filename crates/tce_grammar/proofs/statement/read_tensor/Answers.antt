use Rattle.std.proofs.Common.{map, sym, ap, ◌∙◌}
use Rattle.std.specs.Prelude.{option_map}
use Rattle.tce_grammar.specs.Code.{token, names}
use Rattle.tce_grammar.specs.Grammar.{declaration}
use Rattle.tce_grammar.specs.Reading.{brackets_at}
use Rattle.tce_grammar.proofs.Declared.{declared_unnamed, declared_named, declared_lost}
use Rattle.tce_grammar.proofs.Sides.{left_failed, whole_ended, whole_further}
use Rattle.tce_grammar.proofs.statement.read_tensor.Goals as goal

pub returns-in_default : goal.returns-in_default
returns-in_default c = declared_unnamed (map token c.args.tokens.now) c.in_default.ensures

pub returns-in_err-ranges : goal.returns-in_err-ranges
returns-in_err-ranges c =
    left_failed c.from_residual.result c.in_err-ranges.field-0.0 _ _ c.from_residual.ensures.1 c.in_err-ranges.ensures.read
    (declared_lost (map token c.args.tokens.now) c.in-Some.name.now (map token c.in-Some.rest.now) c.in-Some.ensures)

pub returns-then-is_empty : goal.returns-then-is_empty
returns-then-is_empty c =
    declared_named (map token c.args.tokens.now) c.in-Some.name.now (map token c.in-Some.rest.now) c.in-Some.ensures
    ∙ ap (option_map (declaration c.in-Some.name.now))
    (whole_ended (brackets_at (map token c.in-Some.rest.now)) (names c.in_ok-ranges.ranges.items) c.in_ok-ranges.rest.now c.in_ok-ranges.ensures.read (sym c.is_empty.ensures ∙ c.if-is_empty.true))

pub returns : goal.returns
returns c =
    declared_named (map token c.args.tokens.now) c.in-Some.name.now (map token c.in-Some.rest.now) c.in-Some.ensures
    ∙ ap (option_map (declaration c.in-Some.name.now))
    (whole_further (brackets_at (map token c.in-Some.rest.now)) (names c.in_ok-ranges.ranges.items) c.in_ok-ranges.rest.now c.in_ok-ranges.ensures.read (sym c.is_empty.ensures ∙ c.if-is_empty.false))
