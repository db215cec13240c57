-- The lines of a produced text one behind the other.
use Rattle.std.proofs.Common.{◌≡◌, List, [], ◌∷◌, ◌++◌, ap, sym, ◌∙◌, append_assoc}
use Rattle.std.proofs.lemmas.List.Sums.{fold-append}
use Rattle.tce_grammar.specs.Grammar.{Statement}
use Rattle.tce_grammar.specs.Canonical.{canonical_text}
use Rattle.tce_grammar.specs.Printed.{Printing, line_start}
use Rattle.tce_spec.specs.Lines.{with_line, with_lines}
use Rattle.tce_spec.proofs.Printing.{lines_text}

-- three runs of lines, and a line
pub declared_lines : (p0 p1 p2 p3 p4 : Printing) (rs is ts : List Statement) (f : Statement)
    → p1 ≡ with_lines p0 rs → p2 ≡ with_lines p1 is → p3 ≡ with_lines p2 ts → p4 ≡ with_line p3 f
    → p4 ≡ with_lines p0 (rs ++ (is ++ (ts ++ f ∷ [])))
declared_lines p0 p1 p2 p3 p4 rs is ts f e1 e2 e3 e4 =
    e4
    ∙ ap (λ q. with_line q f) e3
    ∙ sym (fold-append with_line p2 ts (f ∷ []))
    ∙ ap (λ q. with_lines q (ts ++ f ∷ [])) e2
    ∙ sym (fold-append with_line p1 is (ts ++ f ∷ []))
    ∙ ap (λ q. with_lines q (is ++ (ts ++ f ∷ []))) e1
    ∙ sym (fold-append with_line p0 rs (is ++ (ts ++ f ∷ [])))

-- lines and a last one, in an empty text
pub all_printed : (p0 p1 p2 : Printing) (rs is ts : List Statement) (f : Statement) → p0 ≡ line_start []
    → p1 ≡ with_lines p0 (rs ++ (is ++ ts)) → p2 ≡ with_line p1 f → p2.text ≡ canonical_text (rs ++ (is ++ (ts ++ f ∷ [])))
all_printed p0 p1 p2 rs is ts f e0 e1 e2 =
    ap (λ (q : Printing). q.text)
    (e2
    ∙ ap (λ q. with_line q f) e1
    ∙ sym (fold-append with_line p0 (rs ++ (is ++ ts)) (f ∷ []))
    ∙ ap (λ q. with_lines q ((rs ++ (is ++ ts)) ++ f ∷ [])) e0
    ∙ lines_text [] ((rs ++ (is ++ ts)) ++ f ∷ []))
    ∙ ap canonical_text (append_assoc rs (is ++ ts) (f ∷ []) ∙ ap (λ (ss : List Statement). rs ++ ss) (append_assoc is ts (f ∷ [])))
