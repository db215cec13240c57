-- Tokens and lines that are printed one behind the other.
use Rattle.std.proofs.Common.{◌≡◌, ℕ, List, [], ◌∷◌, ◌++◌, ap, sym, ◌∙◌, append_assoc, append-nil}
use Rattle.std.proofs.lemmas.List.Sums.{fold-append}
use Rattle.tce_grammar.specs.Tokens.{Token}
use Rattle.tce_grammar.specs.Grammar.{Statement}
use Rattle.tce_grammar.specs.Canonical.{canonical_tokens, canonical_line, canonical_text}
use Rattle.tce_grammar.specs.Printed.{Printing, with_token, with_tokens, line_start}
use Rattle.tce_grammar.proofs.Printed.{printed_by_tokens}
use Rattle.tce_spec.specs.Lines.{with_line, with_lines}

-- tokens, and tokens behind them
pub then_tokens : (p p1 p2 : Printing) (ts us : List Token) → p1 ≡ with_tokens p ts → p2 ≡ with_tokens p1 us → p2 ≡ with_tokens p (ts ++ us)
then_tokens p p1 p2 ts us e1 e2 = e2 ∙ ap (λ q. with_tokens q us) e1 ∙ sym (fold-append with_token p ts us)

-- tokens, and a token behind them
pub then_token : (p p1 p2 : Printing) (ts : List Token) (t : Token) → p1 ≡ with_tokens p ts → p2 ≡ with_token p1 t → p2 ≡ with_tokens p (ts ++ t ∷ [])
then_token p p1 p2 ts t e1 e2 = then_tokens p p1 p2 ts (t ∷ []) e1 e2

-- lines at the start of a line
pub lines_text : (text : List ℕ) (ss : List Statement) → with_lines (line_start text) ss ≡ line_start (text ++ canonical_text ss)
lines_text text [] = ap line_start (sym (append-nil text))
lines_text text (s ∷ ss) =
    let line : List ℕ = canonical_line s ++ 10 ∷ [] in
    let first : with_line (line_start text) s ≡ line_start (text ++ line) =
    ap (λ t. line_start (t ++ 10 ∷ [])) (printed_by_tokens (line_start text) (canonical_tokens s)) ∙ ap line_start (append_assoc text (canonical_line s) (10 ∷ [])) in
    ap (λ q. with_lines q ss) first ∙ lines_text (text ++ line) ss ∙ ap line_start (append_assoc text line (canonical_text ss))

-- three runs of lines and a last one
pub all_lines : (p0 p1 p2 p3 p4 : Printing) (rs is ts : List Statement) (f : Statement) → p0 ≡ line_start []
    → p1 ≡ with_lines p0 rs → p2 ≡ with_lines p1 is → p3 ≡ with_lines p2 ts → p4 ≡ with_line p3 f
    → p4.text ≡ canonical_text (rs ++ (is ++ (ts ++ f ∷ [])))
all_lines p0 p1 p2 p3 p4 rs is ts f e0 e1 e2 e3 e4 =
    ap (λ (q : Printing). q.text)
    (e4
    ∙ ap (λ q. with_line q f) e3
    ∙ sym (fold-append with_line p2 ts (f ∷ []))
    ∙ ap (λ q. with_lines q (ts ++ f ∷ [])) e2
    ∙ sym (fold-append with_line p1 is (ts ++ f ∷ []))
    ∙ ap (λ q. with_lines q (is ++ (ts ++ f ∷ []))) e1
    ∙ sym (fold-append with_line p0 rs (is ++ (ts ++ f ∷ [])))
    ∙ ap (λ q. with_lines q (rs ++ (is ++ (ts ++ f ∷ [])))) e0
    ∙ lines_text [] (rs ++ (is ++ (ts ++ f ∷ []))))
