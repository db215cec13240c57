use Rattle.std.proofs.Common.{List, ℕ, sym, ap, ◌∙◌, refl}
use Rattle.tce_grammar.specs.Grammar.{listed}
use Rattle.tce_grammar.specs.Printed.{with_tokens}
use Rattle.tce_einsum.specs.Produced.{letter_names}
use Rattle.tce_einsum.proofs.Loops.{first_and_rest}
use Rattle.std.proofs.lemmas.Result.{IfOk-from_err}
use Rattle.tce_einsum.proofs.words.push_letters.Goals as goal

pub loop-rest-init : goal.loop-rest-init
loop-rest-init c = refl

pub loop-rest-preserved : goal.loop-rest-preserved
loop-rest-preserved c =
    c.in_ok-push_listed_letter.ensures
    ∙ ap (λ (letters : List ℕ). with_tokens c.loop-rest.printer (listed (letter_names letters))) (sym (first_and_rest c.loop-rest.rest.now _ c.in-len1-up.len_at_least))
    ∙ c.loop-rest.invariant

pub returns-in_err-push_listed_letter : goal.returns-in_err-push_listed_letter
returns-in_err-push_listed_letter c = IfOk-from_err c.from_residual.result _ c.from_residual.ensures.0
