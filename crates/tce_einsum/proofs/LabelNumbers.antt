-- Labels that stand have a number, which stands for them.
use Rattle.std.proofs.Common.{◌≡◌, ℕ, ◌<◌, ◌≤◌, ◌==◌, Bool, true, false, not, ◌||◌, cond, List, [], ◌∷◌, map, length, get_or, count_by, refl, sym, ap, ◌∙◌, arith, inl, inr}
use Rattle.std.specs.List.{AllByRecursion, list_any, list_all}
use Rattle.std.proofs.lemmas.Bool.{cases_Bool, and_parts, or_left, or_right, eq-eqb, eqb-true, true≢false}
use Rattle.std.proofs.lemmas.List.{get_or-map}
use Rattle.tce_einsum.specs.Text.{Size, Einsum, is_label, are_labels, IsText}
use Rattle.tce_einsum.specs.Sizes.{stands, size_count, is_missized, AreSized}
use Rattle.tce_einsum.specs.Numbered.{number_of, numbers_of, numbered_operands}
use Rattle.tce_einsum.specs.Produced.{label_at, letter_names, label_names}
use Rattle.tce_einsum.proofs.Numbers.{counted, no_size}
use Rattle.tce_einsum.proofs.SizeRanges.{place_below, place_passes}

pub record HasNumber (ss : List Size) (label : ℕ) : Type 0 where
  pub below : number_of ss label < length ss
  pub back : label_at ss (number_of ss label) ≡ label

pub label_is : (ss : List Size) (k : ℕ) (d : Size) → k < length ss → label_at ss k ≡ (get_or ss k d).label
label_is ss k d inside = get_or-map (λ (s : Size). s.label) ss k d 0 inside

any_counted : {X : Type 0} (p : X → Bool) (xs : List X) → 1 ≤ count_by p xs → list_any p xs ≡ true
any_counted p [] some = absurd (omega (arith, some))
any_counted p (x ∷ xs) some = by_test (p x) refl (any_counted p xs)
  where
    by_test : (d : Bool) → p x ≡ d → (1 ≤ count_by p xs → list_any p xs ≡ true) → (d || list_any p xs) ≡ true
    by_test true e later = refl
    by_test false e later = later (omega (arith, some, counted p x xs, ap {B = ℕ} (λ b. cond b 1 0) e))

number_found : (ss : List Size) (label : ℕ) → list_any (λ (s : Size). s.label == label) ss ≡ true → HasNumber ss label
number_found ss label some =
    let p : Size → Bool = λ (s : Size). s.label == label in
    let below : number_of ss label < length ss = place_below p ss some in
    record {
      below = below;
      back = label_is ss (number_of ss label) no_size below ∙ eqb-true (get_or ss (number_of ss label) no_size).label label (place_passes p ss no_size some);
    }

one_size : (x : Einsum) (label : ℕ) → is_missized x label ≡ false → stands x label ≡ true → size_count x label ≡ 1
one_size x label fine e = same (size_count x label) 1 (rw e at fine)
  where
    same : (n m : ℕ) → not (n == m) ≡ false → n ≡ m
    same n m e = elim (cases_Bool (n == m)) [ inl is ↦ eqb-true n m is | inr other ↦ absurd (true≢false (sym (ap not other) ∙ e)) ]

stands_numbered : (x : Einsum) → AreSized x → (label : ℕ) → is_label label ≡ true → stands x label ≡ true → HasNumber x.sizes label
stands_numbered x sized label is e =
    let one = one_size x label (sized label is) e in
    number_found x.sizes label (any_counted (λ (s : Size). s.label == label) x.sizes (omega (arith, one)))

-- the labels of a list, and of lists

each_in : (P : ℕ → Type 0) (ls : List ℕ) → are_labels ls ≡ true → ((l : ℕ) → is_label l ≡ true → list_any (λ b. b == l) ls ≡ true → P l) → AllByRecursion P ls
each_in P [] are holds = tt
each_in P (l ∷ ls) are holds =
    let parts = and_parts (is_label l) (are_labels ls) are in (
      holds l parts.0 (or_left (l == l) (list_any (λ b. b == l) ls) (eq-eqb l l refl)),
      each_in P ls parts.1 (λ m is here. holds m is (or_right (l == m) (list_any (λ b. b == m) ls) here)),
    )

each_of : (P : ℕ → Type 0) (os : List (List ℕ)) → list_all are_labels os ≡ true
    → ((l : ℕ) → is_label l ≡ true → list_any (list_any (λ b. b == l)) os ≡ true → P l) → AllByRecursion (AllByRecursion P) os
each_of P [] are holds = tt
each_of P (o ∷ os) are holds =
    let parts = and_parts (are_labels o) (list_all are_labels os) are in (
      each_in P o parts.0 (λ l is here. holds l is (or_left (list_any (λ b. b == l) o) (list_any (list_any (λ b. b == l)) os) here)),
      each_of P os parts.1 (λ l is here. holds l is (or_right (list_any (λ b. b == l) o) (list_any (list_any (λ b. b == l)) os) here)),
    )

output_numbered : (text : List ℕ) (x : Einsum) → IsText text x → AreSized x → AllByRecursion (HasNumber x.sizes) x.output
output_numbered text x is sized =
    each_in (HasNumber x.sizes) x.output is.output (λ l label here.
    stands_numbered x sized l label (or_right (list_any (list_any (λ b. b == l)) x.operands) (list_any (λ b. b == l) x.output) here))

operands_numbered : (text : List ℕ) (x : Einsum) → IsText text x → AreSized x → AllByRecursion (AllByRecursion (HasNumber x.sizes)) x.operands
operands_numbered text x is sized =
    each_of (HasNumber x.sizes) x.operands is.operands (λ l label here.
    stands_numbered x sized l label (or_left (list_any (list_any (λ b. b == l)) x.operands) (list_any (λ b. b == l) x.output) here))

numbers_below : (ss : List Size) (ls : List ℕ) → AllByRecursion (HasNumber ss) ls → AllByRecursion (λ i. i < length ss) (numbers_of ss ls)
numbers_below ss [] has = tt
numbers_below ss (l ∷ ls) has = (has.0.below, numbers_below ss ls has.1)

all_below : (ss : List Size) (os : List (List ℕ)) → AllByRecursion (AllByRecursion (HasNumber ss)) os → AllByRecursion (AllByRecursion (λ i. i < length ss)) (map (numbers_of ss) os)
all_below ss [] has = tt
all_below ss (o ∷ os) has = (numbers_below ss o has.0, all_below ss os has.1)

pub operands_below : (text : List ℕ) (x : Einsum) → IsText text x → AreSized x → AllByRecursion (AllByRecursion (λ i. i < length x.sizes)) (numbered_operands x)
operands_below text x is sized = all_below x.sizes x.operands (operands_numbered text x is sized)

pub output_below : (text : List ℕ) (x : Einsum) → IsText text x → AreSized x → AllByRecursion (λ i. i < length x.sizes) (numbers_of x.sizes x.output)
output_below text x is sized = numbers_below x.sizes x.output (output_numbered text x is sized)

names_back : (ss : List Size) (ls : List ℕ) → AllByRecursion (HasNumber ss) ls → label_names ss (numbers_of ss ls) ≡ letter_names ls
names_back ss [] has = refl
names_back ss (l ∷ ls) has = λ i. (has.0.back i ∷ []) ∷ names_back ss ls has.1 i

pub output_back : (text : List ℕ) (x : Einsum) → IsText text x → AreSized x → label_names x.sizes (numbers_of x.sizes x.output) ≡ letter_names x.output
output_back text x is sized = names_back x.sizes x.output (output_numbered text x is sized)
