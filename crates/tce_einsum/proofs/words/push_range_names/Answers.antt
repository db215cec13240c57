use Rattle.std.proofs.Common.{List, ℕ, map, sym, ap, ◌∙◌, refl}
use Rattle.tce_grammar.specs.Grammar.{listed}
use Rattle.tce_grammar.specs.Printed.{with_tokens}
use Rattle.tce_einsum.specs.Produced.{range_name}
use Rattle.tce_einsum.proofs.Loops.{first_and_rest}
use Rattle.std.proofs.lemmas.Result.{IfOk-from_err}
use Rattle.tce_einsum.proofs.words.push_range_names.Goals as goal

pub loop-rest-init : goal.loop-rest-init
loop-rest-init c = refl

pub loop-rest-preserved : goal.loop-rest-preserved
loop-rest-preserved c =
    c.in_ok-push_listed_range.ensures
    ∙ ap (λ (ranges : List ℕ). with_tokens c.loop-rest.printer (listed (map range_name ranges))) (sym (first_and_rest c.loop-rest.rest.now _ c.in-len1-up.len_at_least))
    ∙ c.loop-rest.invariant

pub returns-in_err-push_listed_range : goal.returns-in_err-push_listed_range
returns-in_err-push_listed_range c = IfOk-from_err c.from_residual.result _ c.from_residual.ensures.0
