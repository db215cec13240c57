use Rattle.std.proofs.Common.{sym, ap, ◌∙◌, ◌∷◌, []}
use Rattle.std.proofs.lemmas.List.Sums.{fold-append}
use Rattle.std.proofs.lemmas.Result.{on_ok_weaker, IfOk-from_err}
use Rattle.tce_grammar.specs.Tokens.{symbol}
use Rattle.tce_grammar.specs.Grammar.{listed}
use Rattle.tce_grammar.specs.Printed.{with_token, with_tokens}
use Rattle.tce_einsum.specs.Produced.{letter_names}
use Rattle.tce_einsum.proofs.words.push_bracketed_letters.Goals as goal

pub returns : goal.returns
returns c =
    on_ok_weaker c.push_symbol-2.result
    (λ e.
    e ∙ ap (λ p. with_token p (symbol 93)) (c.in_ok-push_letters.ensures ∙ ap (λ p. with_tokens p (listed (letter_names c.args.letters.now))) c.in_ok-push_symbol.ensures)
    ∙ sym (fold-append with_token (with_token c.args.printer.now (symbol 91)) (listed (letter_names c.args.letters.now)) (symbol 93 ∷ [])))
    c.push_symbol-2.ensures

pub returns-in_err-push_symbol : goal.returns-in_err-push_symbol
returns-in_err-push_symbol c = IfOk-from_err c.from_residual.result _ c.from_residual.ensures.0

pub returns-in_err-push_letters : goal.returns-in_err-push_letters
returns-in_err-push_letters c = IfOk-from_err c.from_residual-in_err-push_letters.result _ c.from_residual-in_err-push_letters.ensures.0
