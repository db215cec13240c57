-- A piece reads at most 31 tensors: where it reads two arrays or more, so many of the 32 nodes are not its own.
use Rattle.std.proofs.Common.{◌≡◌, ℕ, ◌+◌, ◌<◌, ◌≤◌, Bool, true, false, not, cond, List, [], ◌∷◌, ◌++◌, length, filter, eqb, eqb-true, ne_eqb, nat_lt, lt-ltb, ltb-true, refl, sym, subst, inl, inr, arith, length-append}
use Rattle.std.specs.List.{fold, list_any, IsDistinct, AllByRecursion}
use Rattle.std.proofs.lemmas.Bool.{cases_Bool, or_cases, false≢true}
use Rattle.std.proofs.lemmas.Map.Keys.{IsDistinct-push}
use Rattle.std.proofs.lemmas.Map.Steps.{length-le_from_distinct_below}
use Rattle.tce_tree.specs.ContractionTree.{ContractionTree, leaf, constant, binary, sum, operations}
use Rattle.tce_spec.specs.Pieces.{Cuts, stored, unless_cut, rest_of}
use Rattle.tce_spec.specs.Operands.{references, with_new, each_once}
use Rattle.tce_spec.proofs.Seen.{eqb_laws}

-- how many numbers pass a test
many : (ℕ → Bool) → List ℕ → ℕ
many p [] = 0
many p (x ∷ xs) = cond (p x) 1 0 + many p xs

many_append : (p : ℕ → Bool) (xs ys : List ℕ) → many p (xs ++ ys) ≡ many p xs + many p ys
unfolding many
many_append p [] ys = omega arith
many_append p (x ∷ xs) ys = omega (arith, many_append p xs ys)

many_new : (p : ℕ → Bool) (seen : List ℕ) (t : ℕ) → many p (with_new seen t) ≤ many p seen + cond (p t) 1 0
unfolding many
many_new p seen t = by_test (list_any (eqb t) seen)
  where
    by_test : (b : Bool) → many p (cond b seen (seen ++ t ∷ [])) ≤ many p seen + cond (p t) 1 0
    by_test true = omega arith
    by_test false = omega (arith, many_append p seen (t ∷ []))

many_folded : (p : ℕ → Bool) (xs seen : List ℕ) → many p (fold with_new seen xs) ≤ many p seen + many p xs
unfolding many
many_folded p [] seen = omega arith
many_folded p (x ∷ xs) seen = omega (arith, many_folded p xs (with_new seen x), many_new p seen x)

many_once : (p : ℕ → Bool) (xs : List ℕ) → many p (each_once xs) ≤ many p xs
unfolding many
many_once p xs = omega (arith, many_folded p xs [])

many_all : (xs : List ℕ) → many (λ t. true) xs ≡ length xs
unfolding many
many_all [] = refl
many_all (x ∷ xs) = omega (arith, many_all xs)

abbrev low : ℕ → Bool
low t = nat_lt t 32

abbrev high : ℕ → Bool
high t = not (nat_lt t 32)

many_split : (xs : List ℕ) → length xs ≡ many low xs + many high xs
unfolding many
many_split [] = refl
many_split (x ∷ xs) = elim (cases_Bool (nat_lt x 32)) [ inl t ↦ rw t (omega (arith, many_split xs)) | inr f ↦ rw f (omega (arith, many_split xs)) ]

-- ---- different numbers

distinct_new : (seen : List ℕ) (t : ℕ) → IsDistinct eqb seen → IsDistinct eqb (with_new seen t)
distinct_new seen t h = by_test (list_any (eqb t) seen) refl
  where
    by_test : (b : Bool) → list_any (eqb t) seen ≡ b → IsDistinct eqb (cond b seen (seen ++ t ∷ []))
    by_test true e = h
    by_test false e = IsDistinct-push eqb_laws seen t h e

distinct_folded : (xs seen : List ℕ) → IsDistinct eqb seen → IsDistinct eqb (fold with_new seen xs)
distinct_folded [] seen h = h
distinct_folded (x ∷ xs) seen h = distinct_folded xs (with_new seen x) (distinct_new seen x h)

pub distinct_once : (xs : List ℕ) → IsDistinct eqb (each_once xs)
unfolding IsDistinct
distinct_once xs = distinct_folded xs [] tt

pub each_has : (p : ℕ → Type 0) (xs : List ℕ) (t : ℕ) → AllByRecursion p xs → list_any (eqb t) xs ≡ true → p t
each_has p [] t a h = absurd (false≢true h)
each_has p (x ∷ xs) t a h = elim (or_cases (eqb t x) (list_any (eqb t) xs) h) [ inl e ↦ subst p (sym (eqb-true t x e)) a.0 | inr e ↦ each_has p xs t a.1 e ]

pub none_has : (xs : List ℕ) (t : ℕ) → AllByRecursion (λ u. t ≡ u → ⊥) xs → list_any (eqb t) xs ≡ false
none_has xs t a = elim (cases_Bool (list_any (eqb t) xs)) [ inl h ↦ absurd (each_has (λ u. t ≡ u → ⊥) xs t a h refl) | inr h ↦ h ]

each_kept : (p : ℕ → Type 0) (q : ℕ → Bool) (xs : List ℕ) → AllByRecursion p xs → AllByRecursion p (filter q xs)
each_kept p q [] a = tt
each_kept p q (x ∷ xs) a = elim (cases_Bool (q x)) [ inl t ↦ rw t (a.0, each_kept p q xs a.1) | inr f ↦ rw f (each_kept p q xs a.1) ]

distinct_kept : (q : ℕ → Bool) (xs : List ℕ) → IsDistinct eqb xs → IsDistinct eqb (filter q xs)
unfolding IsDistinct
distinct_kept q [] h = tt
distinct_kept q (x ∷ xs) h =
    elim (cases_Bool (q x)) [ inl t ↦ rw t (each_kept (λ y. eqb x y ≡ false) q xs h.0, distinct_kept q xs h.1) | inr f ↦ rw f (distinct_kept q xs h.1) ]

many_kept : (q : ℕ → Bool) (xs : List ℕ) → length (filter q xs) ≡ many q xs
unfolding many
many_kept q [] = refl
many_kept q (x ∷ xs) = elim (cases_Bool (q x)) [ inl t ↦ rw t (omega (arith, many_kept q xs)) | inr f ↦ rw f (omega (arith, many_kept q xs)) ]

-- below `n`, and not `r`, or from 32 on
abbrev pub IsOther : ℕ → ℕ → ℕ → Type 0
IsOther n r t = t < 32 → (t < n) × (t ≡ r → ⊥)

low_kept : (n r : ℕ) (xs : List ℕ) → AllByRecursion (IsOther n r) xs → AllByRecursion (λ t. (t < n) × (r ≡ t → ⊥)) (filter low xs)
low_kept n r [] a = tt
low_kept n r (x ∷ xs) a =
    elim (cases_Bool (nat_lt x 32)) [
      | inl t ↦ let own = a.0 (ltb-true x 32 t) in rw t ((own.0, λ q. own.1 (sym q)), low_kept n r xs a.1)
      | inr f ↦ rw f (low_kept n r xs a.1)
    ]

pub weaker : (p q : ℕ → Type 0) → ((t : ℕ) → p t → q t) → (xs : List ℕ) → AllByRecursion p xs → AllByRecursion q xs
weaker p q h [] a = tt
weaker p q h (x ∷ xs) a = (h x a.0, weaker p q h xs a.1)

-- with `r` there are at most `n` of them
few_low : (n r : ℕ) (xs : List ℕ) → r < n → IsDistinct eqb xs → AllByRecursion (IsOther n r) xs → many low xs + 1 ≤ n
unfolding IsDistinct
few_low n r xs r_low once others =
    let kept = low_kept n r xs others in
    let apart : AllByRecursion (λ y. eqb r y ≡ false) (filter low xs) = weaker _ _ (λ t h. ne_eqb r t h.1) (filter low xs) kept in
    let below : AllByRecursion (λ t. t < n) (r ∷ filter low xs) = (r_low, weaker _ _ (λ t h. h.0) (filter low xs) kept) in
    let all : length (r ∷ filter low xs) ≤ n = length-le_from_distinct_below (r ∷ filter low xs) n (apart, distinct_kept low xs once) (λ q h. each_has (λ t. t < n) (r ∷ filter low xs) q below h) in
    omega (arith, all, many_kept low xs)

-- ---- the references of a piece

few_references : (c : ContractionTree) → length (references c) ≤ operations c + 1
few_references (leaf t is) = omega arith
few_references (constant k) = omega arith
few_references (binary op l r) = omega (arith, length-append (references l) (references r), few_references l, few_references r)
few_references (sum is x) = omega (arith, few_references x)

low_leaf : (t : ℕ) → t < 32 → many high (t ∷ []) ≡ 0
unfolding many
low_leaf t h = rw (lt-ltb t 32 h) refl

high_leaf : (v : ℕ) → many high (stored v ∷ []) ≤ 1
unfolding many
high_leaf v = elim (cases_Bool (nat_lt (stored v) 32)) [ inl t ↦ rw t (omega arith) | inr f ↦ rw f (omega arith) ]

abbrev Counts : ContractionTree → ContractionTree → Type 0
Counts rest c = operations rest + many high (references rest) ≤ operations c

unless_counts : (cut : Cuts) (v : ℕ) (c rest : ContractionTree) → 0 < operations c → Counts rest c → Counts (unless_cut cut v c rest) c
unless_counts cut v c rest some h = elim (cases_Bool (cut v)) [ inl t ↦ rw t (omega (arith, high_leaf v)) | inr f ↦ rw f h ]

few_arrays : (cut : Cuts) (first : ℕ) (c : ContractionTree) → AllByRecursion (λ t. t < 32) (references c) → Counts (rest_of cut first c) c
unfolding many
few_arrays cut first (leaf t is) a = omega (arith, low_leaf t a.0)
few_arrays cut first (constant k) a = omega arith
few_arrays cut first (binary op l r) a =
    let x = few_arrays cut first l (part_left (references l) (references r) a) in
    let y = few_arrays cut (first + operations l) r (part_right (references l) (references r) a) in
    unless_counts cut (first + operations l + operations r) (binary op l r) (binary op (rest_of cut first l) (rest_of cut (first + operations l) r)) (omega arith)
    (omega (arith, x, y, many_append high (references (rest_of cut first l)) (references (rest_of cut (first + operations l) r))))
  where
    part_left : (xs ys : List ℕ) → AllByRecursion (λ t. t < 32) (xs ++ ys) → AllByRecursion (λ t. t < 32) xs
    part_left [] ys b = tt
    part_left (x ∷ xs) ys b = (b.0, part_left xs ys b.1)

    part_right : (xs ys : List ℕ) → AllByRecursion (λ t. t < 32) (xs ++ ys) → AllByRecursion (λ t. t < 32) ys
    part_right [] ys b = b
    part_right (x ∷ xs) ys b = part_right xs ys b.1
few_arrays cut first (sum is x) a =
    let y = few_arrays cut first x a in
    unless_counts cut (first + operations x) (sum is x) (sum is (rest_of cut first x)) (omega arith) (omega (arith, y))

-- at most 31 of them
pub few_sources : (cut : Cuts) (first n r : ℕ) (c : ContractionTree) → n ≤ 31 → r < n → operations c ≤ 32 → AllByRecursion (λ t. t < 32) (references c)
    → AllByRecursion (IsOther n r) (each_once (references (rest_of cut first c))) → length (each_once (references (rest_of cut first c))) ≤ 31
few_sources cut first n r c few r_low nodes low_ones others =
    let refs : List ℕ = references (rest_of cut first c) in
    let parts = many_split (each_once refs) in
    let declared = few_low n r (each_once refs) r_low (distinct_once refs) others in
    let arrays = many_once high refs in
    let all = many_once (λ t. true) refs in
    let counted = few_arrays cut first c low_ones in
    let leaves = few_references (rest_of cut first c) in
    omega (arith, parts, declared, arrays, all, many_all refs, many_all (each_once refs), counted, leaves)
