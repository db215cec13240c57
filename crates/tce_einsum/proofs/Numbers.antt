-- Each number of a label stands in the output or in an operand.
use Rattle.std.proofs.Common.{◌≡◌, ℕ, zero, suc, ◌+◌, ◌<◌, ◌≤◌, ◌==◌, subst, Bool, true, false, not, ◌&&◌, ◌||◌, cond, List, [], ◌∷◌, map, length, get_or, count_by, refl, sym, ap, ◌∙◌, arith, inl, inr, None}
use Rattle.std.specs.List.{list_any, list_all, range_with_len, position_or_len}
use Rattle.std.proofs.lemmas.Bool.{cases_Bool, or_cases, or_left, or_right, and_parts, eq-eqb, eqb-true, true≢false}
use Rattle.std.proofs.lemmas.List.{length-map}
use Rattle.std.proofs.lemmas.List.Sums.{sum_by-cons}
use Rattle.std.proofs.lemmas.List.Splits.{length-slice_split}
use Rattle.tce_tree.specs.WellFormed.{among}
use Rattle.tce_tree.specs.Value.{value}
use Rattle.tce_tree.proofs.Lists.{among_later, among_cases}
use Rattle.tce_tree.proofs.Permutations.{distinct-range}
use Rattle.tce_einsum.specs.Text.{Size, Einsum, is_size, is_label, is_number, is_number_if_some, IsText}
use Rattle.tce_einsum.specs.Sizes.{stands, size_count, is_missized, AreSized}
use Rattle.tce_einsum.specs.Path.{Item, AreItems, item_texts, left_by, Leave}
use Rattle.tce_einsum.specs.Entries.{AreUsed}
use Rattle.tce_einsum.specs.Numbered.{number_of, numbers_of, numbered_labels, numbered_operands, contraction_of, value_of_einsum}
use Rattle.tce_einsum.specs.ContractionLaws.{EveryTextHasItsValue}
use Rattle.tce_einsum.proofs.Contractions.{every_path_has_the_value}

pub counted : {X : Type 0} (p : X → Bool) (x : X) (xs : List X) → count_by p (x ∷ xs) ≡ cond (p x) 1 0 + count_by p xs
counted p x xs = sum_by-cons (λ y. cond (p y) 1 0) x xs

counts_some : {X : Type 0} (p : X → Bool) (xs : List X) (i : ℕ) (d : X) → i < length xs → p (get_or xs i d) ≡ true → 1 ≤ count_by p xs
counts_some p [] i d inside passes = absurd (omega arith)
counts_some p (x ∷ xs) zero d inside passes = omega (arith, counted p x xs, ap {B = ℕ} (λ b. cond b 1 0) passes)
counts_some p (x ∷ xs) (suc i) d inside passes = omega (arith, counted p x xs, counts_some p xs i d (omega arith) passes)

-- the one element that passes is the first
place_of_one : {X : Type 0} (p : X → Bool) (xs : List X) (i : ℕ) (d : X) → count_by p xs ≤ 1 → i < length xs → p (get_or xs i d) ≡ true → position_or_len p xs ≡ i
place_of_one p [] i d one inside passes = absurd (omega arith)
place_of_one p (x ∷ xs) zero d one inside passes = rw passes refl
place_of_one p (x ∷ xs) (suc i) d one inside passes =
    elim (cases_Bool (p x)) [
      | inl here ↦ absurd (let some = counts_some p xs i d (omega arith) passes in omega (arith, one, counted p x xs, ap {B = ℕ} (λ b. cond b 1 0) here))
      | inr later ↦ rw later (let next = place_of_one p xs i d (omega (arith, one, counted p x xs)) (omega arith) passes in omega arith)
    ]

among_numbers : (sizes : List Size) (labels : List ℕ) (label k : ℕ) → number_of sizes label ≡ k → among labels label ≡ true → among (numbers_of sizes labels) k ≡ true
among_numbers sizes [] label k e m = absurd (true≢false (sym m))
among_numbers sizes (l ∷ ls) label k e m =
    elim (among_cases l ls label m) [
      | inl here ↦ or_left (number_of sizes l == k) (among (numbers_of sizes ls) k) (eq-eqb (number_of sizes l) k (ap (number_of sizes) here ∙ e))
      | inr later ↦ among_later (number_of sizes l) (numbers_of sizes ls) k (among_numbers sizes ls label k e later)
    ]

any_among : (labels : List ℕ) (label : ℕ) → list_any (λ b. b == label) labels ≡ among labels label
any_among [] label = refl
any_among (l ∷ ls) label = ap (λ d. l == label || d) (any_among ls label)

among_operands : (sizes : List Size) (os : List (List ℕ)) (label k : ℕ) → number_of sizes label ≡ k → list_any (list_any (λ b. b == label)) os ≡ true
    → list_any (λ labels. among labels k) (map (numbers_of sizes) os) ≡ true
among_operands sizes [] label k e m = absurd (true≢false (sym m))
among_operands sizes (o ∷ os) label k e m =
    elim (or_cases (list_any (λ b. b == label) o) (list_any (list_any (λ b. b == label)) os) m) [
      | inl here ↦ or_left (among (numbers_of sizes o) k) (list_any (λ labels. among labels k) (map (numbers_of sizes) os))
          (among_numbers sizes o label k e (sym (any_among o label) ∙ here))
      | inr later ↦ or_right (among (numbers_of sizes o) k) (list_any (λ labels. among labels k) (map (numbers_of sizes) os)) (among_operands sizes os label k e later)
    ]

-- ascending numbers
range_bounds : (a n i : ℕ) → among (range_with_len a n) i ≡ true → (a ≤ i) × (i < a + n)
range_bounds a zero i m = absurd (true≢false (sym m))
range_bounds a (suc n) i m =
    elim (among_cases a (range_with_len (a + 1) n) i m) [
      | inl here ↦ (omega arith, omega arith)
      | inr later ↦ let bounds = range_bounds (a + 1) n i later in (omega (arith, bounds.0), omega (arith, bounds.1))
    ]

pub sized_label : (ss : List Size) (k : ℕ) (d : Size) → list_all is_size ss ≡ true → k < length ss → is_label (get_or ss k d).label ≡ true
sized_label [] k d all inside = absurd (omega arith)
sized_label (s ∷ ss) zero d all inside = (and_parts (is_label s.label) (is_number s.extent && is_number_if_some s.edge) (and_parts (is_size s) (list_all is_size ss) all).0).0
sized_label (s ∷ ss) (suc k) d all inside = sized_label ss k d (and_parts (is_size s) (list_all is_size ss) all).1 (omega arith)

-- a label that has a size has one, and stands somewhere
sized_once : (x : Einsum) (label : ℕ) → is_missized x label ≡ false → 1 ≤ size_count x label → (size_count x label ≤ 1) × (stands x label ≡ true)
sized_once x label fine some = by_standing (stands x label) refl
  where
    same : (n m : ℕ) → not (n == m) ≡ false → n ≡ m
    same n m e = elim (cases_Bool (n == m)) [ inl is ↦ eqb-true n m is | inr other ↦ absurd (true≢false (sym (ap not other) ∙ e)) ]

    by_standing : (d : Bool) → stands x label ≡ d → (size_count x label ≤ 1) × (stands x label ≡ true)
    by_standing true e = let one = same (size_count x label) 1 (rw e at fine) in (omega (arith, one), e)
    by_standing false e = absurd (let none = same (size_count x label) 0 (rw e at fine) in omega (arith, none, some))

pub no_size : Size
no_size = record { label = 0; extent = []; edge = None }

pub labels_used : (text : List ℕ) (x : Einsum) → IsText text x → AreSized x → AreUsed (numbered_labels x) (numbered_operands x)
labels_used text x is sized = record { once = distinct-range 0 (length x.sizes); stand = standing }
  where
    standing : (k : ℕ) → among (range_with_len 0 (length x.sizes)) k ≡ true
        → (among (numbers_of x.sizes x.output) k || list_any (λ labels. among labels k) (numbered_operands x)) ≡ true
    standing k m =
        let bounds = range_bounds 0 (length x.sizes) k m in
        let inside : k < length x.sizes = omega (arith, bounds.1) in
        let label : ℕ = (get_or x.sizes k no_size).label in
        let test : Size → Bool = λ (s : Size). s.label == label in
        let passes : test (get_or x.sizes k no_size) ≡ true = eq-eqb label label refl in
        let once = sized_once x label (sized label (sized_label x.sizes k no_size is.sizes inside)) (counts_some test x.sizes k no_size inside passes) in
        let number : number_of x.sizes label ≡ k = place_of_one test x.sizes k no_size once.0 inside passes in
        elim (or_cases (list_any (list_any (λ b. b == label)) x.operands) (list_any (λ b. b == label) x.output) once.1) [
          | inl operand ↦ or_right (among (numbers_of x.sizes x.output) k) (list_any (λ labels. among labels k) (numbered_operands x))
              (among_operands x.sizes x.operands label k number operand)
          | inr out ↦ or_left (among (numbers_of x.sizes x.output) k) (list_any (λ labels. among labels k) (numbered_operands x))
              (among_numbers x.sizes x.output label k number (sym (any_among x.output label) ∙ out))
        ]

-- the items of texts leave what their numbers say
pub items_leave : (n : ℕ) (texts : List (List ℕ)) (is : List Item) (m : ℕ) → AreItems n texts is m → Leave n is m
items_leave n [] [] m are = are
items_leave n [] (i ∷ is) m are = absurd are
items_leave n (t ∷ ts) [] m are = absurd are
items_leave n (t ∷ ts) (i ∷ is) m are = (are.1, items_leave (left_by n i) ts is m are.2)

pub every_text_has_its_value : EveryTextHasItsValue
every_text_has_its_value text path x items e a input = by_items items (item_texts path) (length-slice_split (λ b. b == 59) path) input.of_path
  where
    numbered : length (numbered_operands x) ≡ length x.operands
    numbered = length-map x.operands (numbers_of x.sizes)

    by_items : (items : List Item) (texts : List (List ℕ)) → length texts ≡ count_by (λ b. b == 59) path + 1 → AreItems (length x.operands) texts items 1
        → value e (contraction_of x items) a ≡ value_of_einsum e x a
    by_items [] [] long are = absurd (omega (arith, long))
    by_items [] (t ∷ ts) long are = absurd are
    by_items (i ∷ items) texts long are =
        every_path_has_the_value e (numbered_labels x) (numbered_operands x) i items a (labels_used text x input.of_text input.sized)
        (subst (λ n. Leave n (i ∷ items) 1) (sym numbered) (items_leave (length x.operands) texts (i ∷ items) 1 are))
