use Rattle.std.proofs.Common.{map, sym, ap, ◌∙◌}
use Rattle.std.specs.Prelude.{option_map}
use Rattle.tce_grammar.specs.Code.{token}
use Rattle.tce_grammar.specs.Grammar.{index}
use Rattle.tce_grammar.proofs.Declared.{index_named, index_alone, index_unnamed}
use Rattle.tce_grammar.proofs.Sides.{names_failed}
use Rattle.tce_grammar.proofs.statement.read_index.Goals as goal
use Rattle.tce_grammar.proofs.statement.read_index.Goals.{in_default-via-in-Some+else-not-is_empty, in_default-via-in_default}

pub returns-in_err-all_names-in-Some : goal.returns-in_err-all_names-in-Some
returns-in_err-all_names-in-Some c =
    names_failed c.from_residual.result c.in_err-all_names-in-Some.field-0.0 _ _ c.from_residual.ensures.1 c.in_err-all_names-in-Some.ensures
    (λ none. index_named (map token c.args.tokens.now) c.in-Some.range.now c.in-Some.rest.now c.in-Some.ensures (sym c.is_empty.ensures ∙ c.if-not-is_empty.true)
    ∙ ap (option_map (index c.in-Some.range.now)) none)

pub returns-in_ok-all_names-in-Some : goal.returns-in_ok-all_names-in-Some
returns-in_ok-all_names-in-Some c =
    index_named (map token c.args.tokens.now) c.in-Some.range.now c.in-Some.rest.now c.in-Some.ensures (sym c.is_empty.ensures ∙ c.if-not-is_empty.true)
    ∙ ap (option_map (index c.in-Some.range.now)) c.in_ok-all_names-in-Some.ensures

pub returns-in_default : goal.returns-in_default
returns-in_default c = elim c.in_default.branch [
  | in_default-via-in-Some+else-not-is_empty w ↦
      index_alone (map token c.args.tokens.now) w.in-Some.range.now w.in-Some.rest.now w.in-Some.ensures (sym w.is_empty.ensures ∙ w.if-not-is_empty.false)
  | in_default-via-in_default w ↦ index_unnamed (map token c.args.tokens.now) w.in_default.ensures
]
