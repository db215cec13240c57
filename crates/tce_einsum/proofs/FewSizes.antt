-- There are no more sizes than letters.
use Rattle.std.proofs.Common.{◌≡◌, ℕ, zero, suc, ◌+◌, ◌≤◌, ◌==◌, Bool, true, false, not, ◌&&◌, nat_lt, cond, List, [], ◌∷◌, length, count_by, refl, sym, ap, ◌∙◌, arith, inl, inr}
use Rattle.std.specs.List.{list_all}
use Rattle.std.proofs.lemmas.Bool.{cases_Bool, and_parts, eqb-true, true≢false}
use Rattle.std.proofs.lemmas.Bool.Decides.{nat_tests}
use Rattle.tce_einsum.specs.Text.{Size, Einsum, is_size, is_label, is_number, is_number_if_some, IsText}
use Rattle.tce_einsum.specs.Sizes.{stands, size_count, is_missized, AreSized}
use Rattle.tce_einsum.specs.Path.{item_texts}
use Rattle.tce_einsum.specs.ContractionLaws.{SizesAreFew, PathsLeaveOneEntry}
use Rattle.tce_einsum.proofs.Numbers.{counted, items_leave}

-- how many labels stand in front of a letter
abbrev count_below : ℕ → List Size → ℕ
count_below n sizes = count_by (λ (s : Size). nat_lt s.label n) sizes

one_letter : (l n : ℕ) → cond (nat_lt l (n + 1)) 1 0 ≤ cond (nat_lt l n) 1 0 + cond (l == n) 1 0
one_letter l n = grind (arith, nat_tests)

one_more : (n : ℕ) (ss : List Size) → count_below (n + 1) ss ≤ count_below n ss + count_by (λ (s : Size). s.label == n) ss
one_more n [] = omega arith
one_more n (s ∷ ss) =
    omega (
      arith,
      one_more n ss,
      one_letter s.label n,
      counted (λ (x : Size). nat_lt x.label (n + 1)) s ss,
      counted (λ (x : Size). nat_lt x.label n) s ss,
      counted (λ (x : Size). x.label == n) s ss,
    )

one_size : (x : Einsum) (label : ℕ) → is_missized x label ≡ false → size_count x label ≤ 1
one_size x label fine = by_standing (stands x label) refl
  where
    same : (n m : ℕ) → not (n == m) ≡ false → n ≡ m
    same n m e = elim (cases_Bool (n == m)) [ inl is ↦ eqb-true n m is | inr other ↦ absurd (true≢false (sym (ap not other) ∙ e)) ]

    by_standing : (d : Bool) → stands x label ≡ d → size_count x label ≤ 1
    by_standing true e = let one = same (size_count x label) 1 (rw e at fine) in omega (arith, one)
    by_standing false e = let none = same (size_count x label) 0 (rw e at fine) in omega (arith, none)

none_below : (ss : List Size) → list_all is_size ss ≡ true → count_below 97 ss ≡ 0
none_below [] all = refl
none_below (s ∷ ss) all =
    let parts = and_parts (is_size s) (list_all is_size ss) all in
    let label = and_parts (is_label s.label) (is_number s.extent && is_number_if_some s.edge) parts.0 in
    let first : ◌≡◌ {A = ℕ} (cond (nat_lt s.label 97) 1 0) 0 = low s.label label.0 in
    omega (arith, none_below ss parts.1, counted (λ (x : Size). nat_lt x.label 97) s ss, first)
  where
    low : (l : ℕ) → is_label l ≡ true → ◌≡◌ {A = ℕ} (cond (nat_lt l 97) 1 0) 0
    low l is = grind (arith, nat_tests)

all_below : (ss : List Size) → list_all is_size ss ≡ true → count_below 123 ss ≡ length ss
all_below [] all = refl
all_below (s ∷ ss) all =
    let parts = and_parts (is_size s) (list_all is_size ss) all in
    let label = and_parts (is_label s.label) (is_number s.extent && is_number_if_some s.edge) parts.0 in
    let first : ◌≡◌ {A = ℕ} (cond (nat_lt s.label 123) 1 0) 1 = high s.label label.0 in
    omega (arith, all_below ss parts.1, counted (λ (x : Size). nat_lt x.label 123) s ss, first)
  where
    high : (l : ℕ) → is_label l ≡ true → ◌≡◌ {A = ℕ} (cond (nat_lt l 123) 1 0) 1
    high l is = grind (arith, nat_tests)

few_below : (x : Einsum) → list_all is_size x.sizes ≡ true → AreSized x → (n : ℕ) → n ≤ 26 → count_below (97 + n) x.sizes ≤ n
few_below x all sized zero inside = omega (arith, none_below x.sizes all)
few_below x all sized (suc n) inside =
    let next : 97 + suc n ≡ (97 + n) + 1 = omega arith in
    let more = ap (λ k. count_below k x.sizes) next in
    omega (arith, more, one_more (97 + n) x.sizes, few_below x all sized n (omega arith), one_size x (97 + n) (sized (97 + n) (letter n inside)))
  where
    letter : (n : ℕ) → suc n ≤ 26 → is_label (97 + n) ≡ true
    letter n inside = grind (arith, nat_tests)

-- an einsum whose labels have one size each has no more than there are letters
few_sizes : (text : List ℕ) (x : Einsum) → IsText text x → AreSized x → length x.sizes ≤ 26
few_sizes text x is sized = omega (arith, all_below x.sizes is.sizes, few_below x is.sizes sized 26 (omega arith))

pub sizes_are_few : SizesAreFew
sizes_are_few text path x items input = few_sizes text x input.of_text input.sized

pub paths_leave_one_entry : PathsLeaveOneEntry
paths_leave_one_entry text path x items input = items_leave (length x.operands) (item_texts path) items 1 input.of_path
