-- Lists that are made one element after the other.
use Rattle.std.proofs.Common.{◌≡◌, ℕ, ◌+◌, ◌<◌, ◌≤◌, List, [], ◌∷◌, ◌++◌, length, get_or, map, take, refl, sym, ap, subst, ◌∙◌, arith}
use Rattle.std.proofs.lemmas.List.{take_more, take_all, map-append}

pub taken_more : (xs ms : List ℕ) (i : ℕ) (ys pushed : List ℕ) → xs ≡ ms → i < length xs → ys ≡ take i ms → pushed ≡ ys ++ get_or xs i 0 ∷ [] → pushed ≡ take (i + 1) ms
taken_more xs ms i ys pushed same low before more =
    more
    ∙ ap (λ (zs : List ℕ). zs ++ get_or xs i 0 ∷ []) before
    ∙ ap (λ (ns : List ℕ). take i ms ++ get_or ns i 0 ∷ []) same
    ∙ sym (take_more ms i 0 (subst (λ (ns : List ℕ). i < length ns) same low))

pub taken_all : (xs ms ys : List ℕ) (i : ℕ) → xs ≡ ms → length xs ≤ i → ys ≡ take i ms → ys ≡ ms
taken_all xs ms ys i same past before = before ∙ take_all i ms (omega (arith, ap length same, past))

-- the same of what a function gives for each element
pub mapped_more : (f : ℕ → ℕ) (xs ms : List ℕ) (i : ℕ) (ys pushed : List ℕ) (y : ℕ) → xs ≡ ms → i < length xs → ys ≡ map f (take i ms) → y ≡ f (get_or xs i 0) → pushed ≡ ys ++ y ∷ []
    → pushed ≡ map f (take (i + 1) ms)
mapped_more f xs ms i ys pushed y same low before here more =
    more
    ∙ ap (λ (zs : List ℕ). zs ++ y ∷ []) before
    ∙ ap (λ (z : ℕ). map f (take i ms) ++ z ∷ []) here
    ∙ sym (map-append f (take i ms) (get_or xs i 0 ∷ []))
    ∙ ap (map f) (taken_more xs ms i (take i ms) (take i ms ++ get_or xs i 0 ∷ []) same low refl refl)

pub mapped_all : (f : ℕ → ℕ) (xs ms ys : List ℕ) (i : ℕ) → xs ≡ ms → length xs ≤ i → ys ≡ map f (take i ms) → ys ≡ map f ms
mapped_all f xs ms ys i same past before = before ∙ ap (map f) (taken_all xs ms (take i ms) i same past refl)
