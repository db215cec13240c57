-- Lists of sets, one after the other.
use Rattle.std.proofs.Common.{◌≡◌, ℕ, ◌+◌, ◌<◌, ◌≤◌, List, [], ◌∷◌, ◌++◌, length, get_or, take, sym, ap, ◌∙◌, append_assoc}
use Rattle.std.proofs.lemmas.List.{take_all, take_more}

pub taken_further : (front xs old new : List ℕ) (k x : ℕ) → k < length xs → x ≡ get_or xs k x → old ≡ front ++ take k xs → new ≡ old ++ x ∷ [] → new ≡ front ++ take (k + 1) xs
taken_further front xs old new k x low is before pushed =
    pushed ∙ ap (λ t. t ++ x ∷ []) before ∙ append_assoc front (take k xs) (x ∷ [])
    ∙ ap (λ t. front ++ t) (sym (take_more xs k x low ∙ ap (λ y. take k xs ++ y ∷ []) (sym is)))

pub all_taken : (front xs new : List ℕ) (k : ℕ) → length xs ≤ k → new ≡ front ++ take k xs → new ≡ front ++ xs
all_taken front xs new k end before = before ∙ ap (λ t. front ++ t) (take_all k xs end)
