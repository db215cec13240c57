-- What holds of some element, or of each two.
use Rattle.std.proofs.Common.{◌≡◌, ℕ, suc, zero, ◌-◌, ◌<◌, ◌⊎◌, inl, inr, refl, arith, sym, subst, ◌∙◌, List, [], ◌∷◌, ◌++◌, length, get_or, reverse}
use Rattle.std.specs.List.{All, AllPairs, Any}
use Rattle.std.proofs.lemmas.List.{length_push, length-reverse, get_or_append_left, get_or_push, get_or-reverse}
use Rattle.std.proofs.lemmas.List.Elements.{All-cons}

pub Any-here : {X : Type 0} (P : X → Type 0) (x : X) (xs : List X) → P x → Any P (x ∷ xs)
Any-here P x xs p = (0, x, omega arith, refl, p)

pub Any-later : {X : Type 0} (P : X → Type 0) (y : X) (xs : List X) → Any P xs → Any P (y ∷ xs)
Any-later P y xs found = (suc found.0, found.1, omega (arith, found.2), found.3, found.4)

pub Any-cases : {X : Type 0} (P : X → Type 0) (y : X) (xs : List X) → Any P (y ∷ xs) → P y ⊎ Any P xs
Any-cases P y xs found = go found.0 found.1 found.2 found.3 found.4
  where
    go : (k : ℕ) (x : _) → k < length (y ∷ xs) → get_or (y ∷ xs) k x ≡ x → P x → P y ⊎ Any P xs
    go zero x low is p = inl (subst P (sym is) p)
    go (suc k) x low is p = inr (k, x, omega arith, is, p)

pub Any-nil : {X : Type 0} (P : X → Type 0) → Any P [] → ⊥
Any-nil P found = absurd (omega (arith, found.2))

pub Any-weaker : {X : Type 0} (P Q : X → Type 0) → ((x : X) → P x → Q x) → (xs : List X) → Any P xs → Any Q xs
Any-weaker P Q h xs found = (found.0, found.1, found.2, found.3, h found.1 found.4)

pub Any-append_left : {X : Type 0} (P : X → Type 0) (xs ys : List X) → Any P xs → Any P (xs ++ ys)
Any-append_left P [] ys found = absurd (Any-nil P found)
Any-append_left P (x ∷ xs) ys found = elim (Any-cases P x xs found) [
  | inl p ↦ Any-here P x (xs ++ ys) p
  | inr later ↦ Any-later P x (xs ++ ys) (Any-append_left P xs ys later)
]

pub Any-last : {X : Type 0} (P : X → Type 0) (xs : List X) (y : X) → P y → Any P (xs ++ y ∷ [])
Any-last P xs y p = (length xs, y, omega (arith, length_push xs y), get_or_push xs y y (length xs) refl, p)

pub Any-push_cases : {X : Type 0} (P : X → Type 0) (xs : List X) (y : X) → Any P (xs ++ y ∷ []) → Any P xs ⊎ P y
Any-push_cases P [] y found = elim (Any-cases P y [] found) [ inl p ↦ inr p | inr later ↦ absurd (Any-nil P later) ]
Any-push_cases P (x ∷ xs) y found = elim (Any-cases P x (xs ++ y ∷ []) found) [
  | inl p ↦ inl (Any-here P x xs p)
  | inr later ↦ elim (Any-push_cases P xs y later) [ inl p ↦ inl (Any-later P x xs p) | inr p ↦ inr p ]
]

-- no element has P where none is said to
pub none_has : {X : Type 0} (P : X → Type 0) (xs : List X) → (Any P xs → ⊥) → All (λ x. P x → ⊥) xs
none_has P [] none = λ k d low p. absurd (omega arith)
none_has P (x ∷ xs) none = All-cons (λ y. P y → ⊥) x xs (λ p. none (Any-here P x xs p)) (none_has P xs (λ later. none (Any-later P x xs later)))

-- all but the last element, and the last one
pub All-front : {X : Type 0} (P : X → Type 0) (xs : List X) (y : X) → All P (xs ++ y ∷ []) → All P xs
All-front P xs y all k d low = subst P (get_or_append_left xs (y ∷ []) d k low) (all k d (omega (arith, length_push xs y)))

pub All-last : {X : Type 0} (P : X → Type 0) (xs : List X) (y : X) → All P (xs ++ y ∷ []) → P y
All-last P xs y all = subst P (get_or_push xs y y (length xs) refl) (all (length xs) y (omega (arith, length_push xs y)))

pub AllPairs-front : {X : Type 0} (R : X → X → Type 0) (xs : List X) (y : X) → AllPairs R (xs ++ y ∷ []) → AllPairs R xs
AllPairs-front R xs y all i j d order low =
    let there = all i j d order (omega (arith, low, length_push xs y)) in
    subst (λ a. R a (get_or xs j d)) (get_or_append_left xs (y ∷ []) d i (omega (arith, order, low)))
    (subst (λ b. R (get_or (xs ++ y ∷ []) i d) b) (get_or_append_left xs (y ∷ []) d j low) there)

pub AllPairs-last : {X : Type 0} (R : X → X → Type 0) (xs : List X) (y : X) → AllPairs R (xs ++ y ∷ []) → All (λ x. R x y) xs
AllPairs-last R xs y all k d low =
    let there = all k (length xs) d low (omega (arith, length_push xs y)) in
    subst (λ a. R a y) (get_or_append_left xs (y ∷ []) d k low)
    (subst (λ b. R (get_or (xs ++ y ∷ []) k d) b) (get_or_push xs y d (length xs) refl) there)

-- nothing has pairs
pub no_pairs : {X : Type 0} (R : X → X → Type 0) → AllPairs R []
no_pairs R i j d order low = absurd (omega (arith, low))

-- ---- the other order

pub All-of_reversed : {X : Type 0} (P : X → Type 0) (xs : List X) → All P xs → All P (reverse xs)
All-of_reversed P xs all k d low =
    let inside : k < length xs = omega (arith, low, length-reverse xs) in
    subst P (sym (get_or-reverse xs k d inside)) (all (length xs - 1 - k) d (omega arith))

pub All-reversed : {X : Type 0} (P : X → Type 0) (xs ys : List X) → ys ≡ reverse xs → All P xs → All P ys
All-reversed P xs ys is all = subst (All P) (sym is) (All-of_reversed P xs all)

pub Any-reversed : {X : Type 0} (P : X → Type 0) (xs ys : List X) → ys ≡ reverse xs → Any P xs → Any P ys
Any-reversed P xs ys is found = subst (Any P) (sym is) (length xs - 1 - found.0, found.1, omega (arith, found.2, length-reverse xs), there, found.4)
  where
    back : (n k : ℕ) → k < n → k ≡ n - 1 - (n - 1 - k)
    back n k low = omega arith

    there : get_or (reverse xs) (length xs - 1 - found.0) found.1 ≡ found.1
    there = get_or-reverse xs (length xs - 1 - found.0) found.1 (omega (arith, found.2)) ∙ subst (λ k. get_or xs k found.1 ≡ found.1) (back (length xs) found.0 found.2) found.3
