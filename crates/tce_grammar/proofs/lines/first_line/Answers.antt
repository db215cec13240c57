use Rattle.std.proofs.Common.{◌≡◌, ◌+◌, ◌-◌, ◌∷◌, List, ℕ, length, take, drop, arith, sym, ◌∙◌, ap}
use Rattle.std.specs.List.{before_first, after_first}
use Rattle.std.proofs.lemmas.List.{take_all, length-drop}
use Rattle.tce_grammar.specs.Lines.{lines, without_return}
use Rattle.tce_grammar.proofs.FirstLines.{feed, lines_none, lines_single, lines_more, is_empty_yes, is_empty_no}
use Rattle.tce_grammar.proofs.lines.first_line.Goals as goal

pub returns-then-is_empty-clause-first : goal.returns-then-is_empty-clause-first
returns-then-is_empty-clause-first c = ap lines (is_empty_yes c.args.text.now c.is_empty.result c.is_empty.ensures c.if-is_empty.true) ∙ lines_none

pub returns-then-len-text-clause-first : goal.returns-then-len-text-clause-first
returns-then-len-text-clause-first c =
    lines_single c.args.text.now (is_empty_no c.args.text.now c.is_empty.result c.is_empty.ensures c.if-is_empty.false)
    (sym c.len_before-len.ensures.value ∙ c.if-len-text.true)
    ∙ ap (λ (ls : List (List ℕ)). c.args.text.now ∷ ls) (sym lines_none)

pub returns-clause-first : goal.returns-clause-first
returns-clause-first c =
    let text : List ℕ = c.args.text.now in
    let n : ℕ = c.len_before-len.result in
    let rest : take (length text - (n + 1)) (drop (n + 1) text) ≡ after_first feed text =
    take_all (length text - (n + 1)) (drop (n + 1) text) (omega (arith, length-drop (n + 1) text)) ∙ ap (λ k. drop (k + 1) text) c.len_before-len.ensures.value in
    let first : without_return (before_first feed text) ≡ c.without_return.result.now =
    ap (λ k. without_return (take k text)) (sym c.len_before-len.ensures.value) ∙ sym c.without_return.ensures in
    lines_more text (omega (arith, c.len_before-len.ensures.value, c.len_before-len.ensures.within, c.if-len-text.false))
    ∙ (λ i. first i ∷ lines (sym rest i))
