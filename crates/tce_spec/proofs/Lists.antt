-- Lists of names as they are printed.
use Rattle.std.proofs.Common.{◌≡◌, ℕ, ◌+◌, ◌<◌, List, [], ◌∷◌, ◌++◌, length, get_or, take, map, refl, ap, sym, ◌∙◌}
use Rattle.std.proofs.lemmas.List.{map_more}
use Rattle.tce_grammar.specs.Tokens.{word, symbol}
use Rattle.tce_grammar.specs.Grammar.{listed}
use Rattle.tce_grammar.specs.Printed.{Printing, with_token, with_tokens}
use Rattle.tce_spec.proofs.Printing.{then_tokens}

listed_push : (n : List ℕ) (ns : List (List ℕ)) (m : List ℕ) → listed (n ∷ (ns ++ m ∷ [])) ≡ listed (n ∷ ns) ++ symbol 44 ∷ word m ∷ []
listed_push n [] m = refl
listed_push n (k ∷ ks) m = ap (λ ts. word n ∷ symbol 44 ∷ ts) (listed_push k ks m)

-- a comma and one more name
pub list_more : (f : ℕ → List ℕ) (x : ℕ) (rest : List ℕ) (i d : ℕ) (p p1 p2 p3 : Printing) → i < length rest
    → p1 ≡ with_tokens p (listed (map f (x ∷ take i rest))) → p2 ≡ with_token p1 (symbol 44) → p3 ≡ with_token p2 (word (f (get_or rest i d)))
    → p3 ≡ with_tokens p (listed (map f (x ∷ take (i + 1) rest)))
list_more f x rest i d p p1 p2 p3 l e1 e2 e3 =
    then_tokens p p1 p3 (listed (map f (x ∷ take i rest))) (symbol 44 ∷ word (f (get_or rest i d)) ∷ []) e1 (e3 ∙ ap (λ q. with_token q (word (f (get_or rest i d)))) e2)
    ∙ ap (λ ts. with_tokens p ts) (sym (listed_push (f x) (map f (take i rest)) (f (get_or rest i d))))
    ∙ ap (λ ns. with_tokens p (listed (f x ∷ ns))) (sym (map_more f rest i d l))
