-- The last results that loops leave.
use Rattle.std.proofs.Common.{◌≡◌, ◌∙◌, refl, sym, ap, ℕ, ◌-◌, ◌<◌, Bool, true, false, not, ◌&&◌, ◌||◌, eqb, if◌then◌else◌, List, [], ◌∷◌, map, length, slice_index, inl, inr, Option, Some, None}
use Rattle.std.specs.Prelude.{IsTrue, ◌↔◌}
use mathlib.Core.Path.{fun_ext}
use Rattle.std.proofs.lemmas.Bool.{cases_Bool, eq-eqb, eqb-true, and_parts, and_from, true≢false, false≢true}
use Rattle.tce_space.specs.Box.{places, IsInside}
use Rattle.tce_space.specs.Tiling.{ArePositive}
use Rattle.tce_tree.specs.WellFormed.{among, is_distinct}
use Rattle.tce_tree.specs.Value.{Assignment, with_number}
use Rattle.tce_tree.proofs.Lists.{among_first, among_later, among_cases, distinct_first, distinct_later, same_truth}
use Rattle.tce_tree.proofs.Assignments.{with-same, with-other}
use Rattle.tce_block.specs.Last.{last_of_box}
use Rattle.tce_block.proofs.LastBlocks.{agrees, last_place, AreGiven, last_agreeing}
use Rattle.tce_block.specs.Results.{assigned, HasNumbers}
use Rattle.tce_block.specs.Turns.{IsMade}
use Rattle.tce_block.proofs.Folds.{each_inside, fold_same}

-- the numbers that are given
abbrev numbers : (ℕ → Bool) → Assignment → List ℕ → List (Option ℕ)
numbers fixed b indexes = map (λ i. if fixed i then Some (b i) else None) indexes

abbrev ends : (ℕ → ℕ) → (ℕ → Bool) → Assignment → ℕ → ℕ
ends extent fixed b i = if fixed i then b i else extent i - 1

first_given : (t : Bool) (x c : ℕ) (cs : List ℕ) (os : List (Option ℕ)) → (t ≡ true → x < c) → 0 < c → AreGiven cs os → AreGiven (c ∷ cs) ((if t then Some x else None) ∷ os)
first_given true x c cs os h some rest = (h refl, rest)
first_given false x c cs os h some rest = (some, rest)

first_last : (t : Bool) (x c : ℕ) (cs : List ℕ) (os : List (Option ℕ)) → last_place (c ∷ cs) ((if t then Some x else None) ∷ os) ≡ (if t then x else c - 1) ∷ last_place cs os
first_last true x c cs os = refl
first_last false x c cs os = refl

first_agrees : (t : Bool) (y x : ℕ) (xs : List ℕ) (os : List (Option ℕ)) → agrees ((if t then Some y else None) ∷ os) (x ∷ xs) ≡ ((not t || eqb x y) && agrees os xs)
first_agrees true y x xs os = refl
first_agrees false y x xs os = refl

all_given : (extent : ℕ → ℕ) (fixed : ℕ → Bool) (b : Assignment) (indexes : List ℕ) → ArePositive (map extent indexes) → ((i : ℕ) → among indexes i ≡ true → fixed i ≡ true → b i < extent i)
    → AreGiven (map extent indexes) (numbers fixed b indexes)
all_given extent fixed b [] some h = tt
all_given extent fixed b (i ∷ rest) some h =
    first_given (fixed i) (b i) (extent i) (map extent rest) (numbers fixed b rest) (h i (among_first i rest)) some.0
    (all_given extent fixed b rest some.1 (λ j m. h j (among_later i rest j m)))

-- an index that no loop has stays
pub assigned_out : (a : Assignment) (indexes xs : List ℕ) (j : ℕ) → among indexes j ≡ false → assigned a indexes xs j ≡ a j
assigned_out a [] xs j out = refl
assigned_out a (i ∷ rest) [] j out = refl
assigned_out a (i ∷ rest) (x ∷ xs) j out =
    let other : j ≡ i → ⊥ = λ e. true≢false (sym (ap (among (i ∷ rest)) e ∙ among_first i rest) ∙ out) in
    let later : among rest j ≡ false = elim (cases_Bool (among rest j)) [ inl t ↦ absurd (true≢false (sym (among_later i rest j t) ∙ out)) | inr t ↦ t ] in
    assigned_out (with_number a i x) rest xs j later ∙ with-other a i x j other

assigned_first : (a : Assignment) (i : ℕ) (rest : List ℕ) (x : ℕ) (xs : List ℕ) → among rest i ≡ false → assigned a (i ∷ rest) (x ∷ xs) i ≡ x
assigned_first a i rest x xs out = assigned_out (with_number a i x) rest xs i out ∙ with-same a i x

agrees_numbers : (extent : ℕ → ℕ) (fixed : ℕ → Bool) (b a : Assignment) (indexes xs : List ℕ) → is_distinct indexes ≡ true → IsInside (map extent indexes) xs
    → agrees (numbers fixed b indexes) xs ≡ true → HasNumbers fixed b indexes (assigned a indexes xs)
agrees_numbers extent fixed b a [] xs d inside h = λ j m t. absurd (false≢true m)
agrees_numbers extent fixed b a (i ∷ rest) [] d inside h = absurd inside
agrees_numbers extent fixed b a (i ∷ rest) (x ∷ xs) d inside h =
    let parts = and_parts (not (fixed i) || eqb x (b i)) (agrees (numbers fixed b rest) xs) (sym (first_agrees (fixed i) (b i) x xs (numbers fixed b rest)) ∙ h) in
    λ j m t. elim (among_cases i rest j m) [
      | inl e ↦
          let here : eqb x (b i) ≡ true = ap (λ q. not q || eqb x (b i)) (sym (ap fixed e ∙ t)) ∙ parts.0 in
          ap (assigned a (i ∷ rest) (x ∷ xs)) (sym e) ∙ assigned_first a i rest x xs (distinct_first i rest d) ∙ eqb-true x (b i) here ∙ ap b e
      | inr later ↦ agrees_numbers extent fixed b (with_number a i x) rest xs (distinct_later i rest d) inside.1 parts.1 j later t
    ]

numbers_agree : (extent : ℕ → ℕ) (fixed : ℕ → Bool) (b a : Assignment) (indexes xs : List ℕ) → is_distinct indexes ≡ true → IsInside (map extent indexes) xs
    → HasNumbers fixed b indexes (assigned a indexes xs) → agrees (numbers fixed b indexes) xs ≡ true
numbers_agree extent fixed b a [] xs d inside h = refl
numbers_agree extent fixed b a (i ∷ rest) [] d inside h = absurd inside
numbers_agree extent fixed b a (i ∷ rest) (x ∷ xs) d inside h =
    let first : (not (fixed i) || eqb x (b i)) ≡ true = elim (cases_Bool (fixed i)) [
      | inl t ↦ ap (λ q. not q || eqb x (b i)) t ∙ eq-eqb x (b i) (sym (assigned_first a i rest x xs (distinct_first i rest d)) ∙ h i (among_first i rest) t)
      | inr t ↦ ap (λ q. not q || eqb x (b i)) t
    ] in
    first_agrees (fixed i) (b i) x xs (numbers fixed b rest)
    ∙ and_from (not (fixed i) || eqb x (b i)) (agrees (numbers fixed b rest) xs) first
    (numbers_agree extent fixed b (with_number a i x) rest xs (distinct_later i rest d) inside.1 (λ j m t. h j (among_later i rest j m) t))

last_at : (extent : ℕ → ℕ) (fixed : ℕ → Bool) (b a : Assignment) (indexes : List ℕ) (j : ℕ) → is_distinct indexes ≡ true → among indexes j ≡ true
    → assigned a indexes (last_place (map extent indexes) (numbers fixed b indexes)) j ≡ ends extent fixed b j
last_at extent fixed b a [] j d m = absurd (false≢true m)
last_at extent fixed b a (i ∷ rest) j d m =
    let xs = last_place (map extent rest) (numbers fixed b rest) in
    ap (λ ys. assigned a (i ∷ rest) ys j) (first_last (fixed i) (b i) (extent i) (map extent rest) (numbers fixed b rest))
    ∙ elim (among_cases i rest j m) [
      | inl e ↦ ap (assigned a (i ∷ rest) (ends extent fixed b i ∷ xs)) (sym e) ∙ assigned_first a i rest (ends extent fixed b i) xs (distinct_first i rest d) ∙ ap (ends extent fixed b) e
      | inr later ↦ last_at extent fixed b (with_number a i (ends extent fixed b i)) rest j (distinct_later i rest d) later
    ]

last_is : (extent : ℕ → ℕ) (fixed : ℕ → Bool) (b a : Assignment) (indexes : List ℕ) → is_distinct indexes ≡ true
    → assigned a indexes (last_place (map extent indexes) (numbers fixed b indexes)) ≡ last_of_box extent fixed b indexes a
last_is extent fixed b a indexes d = fun_ext (λ j.
    elim (cases_Bool (among indexes j)) [
      | inl m ↦ last_at extent fixed b a indexes j d m ∙ sym (ap (λ t. if t then ends extent fixed b j else a j) m)
      | inr m ↦ assigned_out a indexes (last_place (map extent indexes) (numbers fixed b indexes)) j m ∙ sym (ap (λ t. if t then ends extent fixed b j else a j) m)
    ])

pub results_end_at_last : (extent : ℕ → ℕ) (indexes : List ℕ) (fixed : ℕ → Bool) (b a : Assignment) (f : Assignment → ℕ) (place word : List ℕ → ℕ) (old new : List ℕ) (k : ℕ)
    → IsMade (λ w xs. word xs) place (places (map extent indexes)) old new
    → IsTrue (is_distinct indexes) → ArePositive (map extent indexes) → ((i : ℕ) → IsTrue (among indexes i) → fixed i ≡ true → b i < extent i)
    → ((xs : List ℕ) → IsInside (map extent indexes) xs → word xs ≡ f (assigned a indexes xs))
    → ((xs : List ℕ) → IsInside (map extent indexes) xs → place xs ≡ k ↔ HasNumbers fixed b indexes (assigned a indexes xs))
    → k < length old → slice_index new k ≡ f (last_of_box extent fixed b indexes a)
results_end_at_last extent indexes fixed b a f place word old new k made d some inside same falls lt =
    let ns : List ℕ = map extent indexes in
    let os : List (Option ℕ) = numbers fixed b indexes in
    made.made k lt
    ∙ fold_same (IsInside ns) (λ w xs. if eqb (place xs) k then word xs else w) (λ w xs. if agrees os xs then f (assigned a indexes xs) else w) (slice_index old k) (places ns) (each_inside ns)
    (λ w xs here.
    ap (λ q. if q then word xs else w) (same_truth (eqb (place xs) k) (agrees os xs)
    (λ t. numbers_agree extent fixed b a indexes xs d here ((falls xs here).0 (eqb-true (place xs) k t)))
    (λ t. eq-eqb (place xs) k ((falls xs here).1 (agrees_numbers extent fixed b a indexes xs d here t))))
    ∙ ap (λ v. if agrees os xs then v else w) (same xs here))
    ∙ last_agreeing ns os (λ xs. f (assigned a indexes xs)) (slice_index old k) (all_given extent fixed b indexes some inside)
    ∙ ap f (last_is extent fixed b a indexes d)
