-- The list of the subsets of a set has each of them, in the order of their numbers.
use Rattle.std.proofs.Common.{◌≡◌, ℕ, suc, zero, ◌+◌, ◌-◌, ◌*◌, ◌<◌, ◌≤◌, ◌^◌, Bool, true, false, cond, not, ◌&&◌, inl, inr, refl, arith, ◌∙◌, sym, ap, subst, List, [], ◌∷◌, ◌++◌, length, get_or, map, count_by}
use Rattle.std.proofs.Common.{length-append}
use Rattle.std.specs.Prelude.{IsTrue}
use Rattle.std.specs.Int.{bit_at}
use Rattle.std.specs.List.{All, Contains, range_with_len}
use Rattle.std.specs.List.Sorted.{IsStrictlyIncreasing}
use Rattle.std.proofs.lemmas.Bool.{cases_Bool, cases_eq, both_ways}
use Rattle.std.proofs.lemmas.List.{length-map, get_or-map}
use Rattle.std.proofs.lemmas.List.Elements.{All-head, All-tail, All-cons, All-nil, All-weaker, All-append, All-map, All-contains, Contains-append_left, Contains-append_right}
use Rattle.std.proofs.lemmas.Nat.{pow-add, pow_below, or_disjoint}
use Rattle.std.proofs.lemmas.Nat.Bits.{bit_at_above, and_pow}
use Rattle.tce_space.specs.IndexSet.{IsIndexSet, IsWithin, has, minus, with_index, count}
use Rattle.tce_space.proofs.IndexSetLaws.{has-empty, has-minus, has-beyond, has-with_same, has-with_other, with_lt, minus_lt, same_set, pow_in_limit, count-members, count-range_yes, count-range_no}
use Rattle.tce_tree.specs.ContractionTree.{ContractionTree, operations, node, node_dims, node_loops}
use Rattle.tce_tree.proofs.Nodes.{size_bounds}
use Rattle.tce_tree.proofs.Parents.{dims_within_loops}
use Rattle.tce_fusion.proofs.StateChoices.{parts_are_index_sets}
use Rattle.tce_nesting.specs.Subsets.{AreSubsets, widened}

-- the subsets of the members below `i`, least first
abbrev pub subsets_below : ℕ → ℕ → List ℕ
subsets_below set zero = 0 ∷ []
subsets_below set (suc i) = cond (has set i) (widened (subsets_below set i) i) (subsets_below set i)

-- ---- how many they are

below_count : ℕ → ℕ → ℕ
below_count set i = count_by (has set) (range_with_len 0 i)

count_yes : (set i : ℕ) → has set i ≡ true → below_count set (suc i) ≡ below_count set i + 1
unfolding below_count
count_yes set i h = let e : suc i ≡ i + 1 = omega arith in ap (λ n. count_by (has set) (range_with_len 0 n)) e ∙ count-range_yes (has set) i h

count_no : (set i : ℕ) → has set i ≡ false → below_count set (suc i) ≡ below_count set i
unfolding below_count
count_no set i h = let e : suc i ≡ i + 1 = omega arith in ap (λ n. count_by (has set) (range_with_len 0 n)) e ∙ count-range_no (has set) i h

count_start : (set : ℕ) → below_count set 0 ≡ 0
unfolding below_count
count_start set = refl

count_whole : (set : ℕ) → count set ≡ below_count set 24
unfolding below_count
count_whole set = count-members set

count_grows : (set i k : ℕ) → below_count set i ≤ below_count set (i + k)
count_grows set i zero =
    let here : i + 0 ≡ i = omega arith in
    let same = ap (below_count set) here in
    omega (arith, same)
count_grows set i (suc k) =
    let next : i + suc k ≡ suc (i + k) = omega arith in
    let same = ap (below_count set) next in
    let rest = count_grows set i k in
    elim (cases_Bool (has set (i + k))) [
      | inl x ↦ omega (arith, rest, same, count_yes set (i + k) x)
      | inr x ↦ omega (arith, rest, same, count_no set (i + k) x)
    ]

length-subsets_below : (set i : ℕ) → length (subsets_below set i) ≡ 2 ^ below_count set i
length-subsets_below set zero = rw (count_start set)
length-subsets_below set (suc i) = elim (cases_Bool (has set i)) [
  | inl x ↦
      rw (x, count_yes set i x, length-append (subsets_below set i), length-map, length-subsets_below set i) (omega (arith, pow-add 2 (below_count set i) 1))
  | inr x ↦ rw (x, count_no set i x) (length-subsets_below set i)
]

-- there is room for twice as many where one more member comes
pub room_to_widen : (set i : ℕ) → i < 24 → has set i ≡ true → count set ≤ 10 → length (subsets_below set i) * 2 ≤ 1024
room_to_widen set i low inn few =
    let count_is = length-subsets_below set i in
    let more = count_yes set i inn in
    let rest = count_grows set (suc i) (24 - suc i) in
    let whole : suc i + (24 - suc i) ≡ 24 = omega arith in
    let all = ap (below_count set) whole in
    let small : below_count set i ≤ 9 = omega (arith, more, all, few, rest, count_whole set) in
    let power : 2 ^ below_count set i ≤ 512 = elim (cases_eq (below_count set i) 9) [
      | inl same ↦ rw same (omega arith)
      | inr other ↦ let p : 2 ^ below_count set i < 2 ^ 9 = pow_below (below_count set i) 9 (omega arith) in omega (arith, p)
    ] in
    omega (arith, count_is, power)

count_within_below : (a b i : ℕ) → IsWithin a b → below_count a i ≤ below_count b i
count_within_below a b zero within = omega (arith, count_start a, count_start b)
count_within_below a b (suc i) within =
    let rest = count_within_below a b i within in
    elim (cases_Bool (has a i)) [
      | inl x ↦ omega (arith, rest, count_yes a i x, count_yes b i (within i x))
      | inr x ↦ elim (cases_Bool (has b i)) [
        | inl y ↦ omega (arith, rest, count_no a i x, count_yes b i y)
        | inr y ↦ omega (arith, rest, count_no a i x, count_no b i y)
      ]
    ]

-- a part has no more members
pub count_within : (a b : ℕ) → IsWithin a b → count a ≤ count b
count_within a b within = omega (arith, count_whole a, count_whole b, count_within_below a b 24 within)

pub dims_within : (tree : ContractionTree) (v : ℕ) → v < operations tree → IsWithin (node_dims tree v) (node_loops tree v)
unfolding node_dims node_loops
dims_within tree v inside i h = dims_within_loops (node tree v) i (size_bounds tree v inside).0 h

-- ---- each subset is there

-- the members of a set are below `i`
abbrev IsBelow : ℕ → ℕ → Type 0
IsBelow s i = (j : ℕ) → i ≤ j → has s j ≡ false

Contains-map : (f : ℕ → ℕ) (xs : List ℕ) (x : ℕ) → Contains xs x → Contains (map f xs) (f x)
Contains-map f xs x inn = (inn.0, rw length-map inn.1, get_or-map f xs inn.0 x (f x) inn.1 ∙ ap f inn.2)

lower : (s i : ℕ) → IsBelow s (suc i) → has s i ≡ false → IsBelow s i
lower s i below out j high = elim (cases_eq j i) [
  | inl same ↦ subst (λ k. has s k ≡ false) (sym same) out
  | inr other ↦ below j (omega arith)
]

-- a set without one of its members
less : ℕ → ℕ → ℕ
less s i = minus s (with_index 0 i)

has-less_same : (s i : ℕ) → i < 24 → has (less s i) i ≡ false
unfolding less
has-less_same s i low = has-minus s (with_index 0 i) i ∙ ap (λ t. has s i && not t) (has-with_same 0 i low) ∙ none (has s i)
  where
    none : (x : Bool) → (x && not true) ≡ false
    none true = refl
    none false = refl

has-less_other : (s i j : ℕ) → i < 24 → (j ≡ i → ⊥) → has (less s i) j ≡ has s j
unfolding less
has-less_other s i j low other = has-minus s (with_index 0 i) j ∙ ap (λ t. has s j && not t) (has-with_other 0 i j low other ∙ has-empty j) ∙ all (has s j)
  where
    all : (x : Bool) → (x && not false) ≡ x
    all true = refl
    all false = refl

less_lt : (s i : ℕ) → IsIndexSet s → IsIndexSet (less s i)
unfolding less
less_lt s i small = minus_lt s (with_index 0 i) small

with-less : (s i : ℕ) → IsIndexSet s → i < 24 → has s i ≡ true → with_index (less s i) i ≡ s
with-less s i small low inn = same_set (with_index (less s i) i) s (with_lt (less s i) i (less_lt s i small)) small (λ j _. elim (cases_eq j i) [
  | inl same ↦ subst (λ k. has (with_index (less s i) i) k ≡ has s k) (sym same) (has-with_same (less s i) i low ∙ sym inn)
  | inr other ↦ has-with_other (less s i) i j low other ∙ has-less_other s i j low other
])

complete_below : (set i : ℕ) → i ≤ 24 → (s : ℕ) → IsIndexSet s → IsWithin s set → IsBelow s i → Contains (subsets_below set i) s
complete_below set zero low s small within below =
    let none : s ≡ 0 = same_set s 0 small (omega arith) (λ j _. below j (omega arith) ∙ sym (has-empty j)) in
    (0, omega arith, sym none)
complete_below set (suc i) low s small within below = elim (cases_Bool (has s i)) [
  | inr out ↦
      let rest = complete_below set i (omega arith) s small within (lower s i below out) in
      elim (cases_Bool (has set i)) [
        | inl x ↦ rw x (Contains-append_left (subsets_below set i) (map (λ t. with_index t i) (subsets_below set i)) s rest)
        | inr x ↦ rw x rest
      ]
  | inl inn ↦
      let x : has set i ≡ true = within i inn in
      let rest = complete_below set i (omega arith) (less s i) (less_lt s i small) (λ j h. within j (kept j h)) (λ j high. dropped j high) in
      rw x (subst (λ t. Contains (widened (subsets_below set i) i) t) (with-less s i small (omega arith) inn)
      (Contains-append_right (subsets_below set i) (map (λ t. with_index t i) (subsets_below set i)) (with_index (less s i) i)
      (Contains-map (λ t. with_index t i) (subsets_below set i) (less s i) rest)))
]
  where
    kept : (j : ℕ) → IsTrue (has (less s i) j) → IsTrue (has s j)
    kept j h = elim (cases_eq j i) [
      | inl same ↦ absurd (both_ways (has (less s i) j) (subst (λ k. has (less s i) k ≡ false) (sym same) (has-less_same s i (omega arith))) h)
      | inr other ↦ sym (has-less_other s i j (omega arith) other) ∙ h
    ]

    dropped : (j : ℕ) → i ≤ j → has (less s i) j ≡ false
    dropped j high = elim (cases_eq j i) [
      | inl same ↦ subst (λ k. has (less s i) k ≡ false) (sym same) (has-less_same s i (omega arith))
      | inr other ↦ has-less_other s i j (omega arith) other ∙ below j (omega arith)
    ]

-- ---- each of them is a subset

sound_below : (set i : ℕ) → i ≤ 24 → All (λ s. IsWithin s set) (subsets_below set i)
sound_below set zero low = All-cons (λ s. IsWithin s set) 0 [] (λ j h. absurd (both_ways (has 0 j) (has-empty j) h)) (All-nil (λ s. IsWithin s set))
sound_below set (suc i) low =
    let rest = sound_below set i (omega arith) in
    elim (cases_Bool (has set i)) [
      | inr x ↦ rw x rest
      | inl x ↦ rw x (All-append (λ s. IsWithin s set) (subsets_below set i) (map (λ s. with_index s i) (subsets_below set i)) rest
          (All-map (λ s. IsWithin s set) (λ s. with_index s i) (subsets_below set i)
          (All-weaker (λ s. IsWithin s set) (λ s. IsWithin (with_index s i) set) (λ s h. wider x s h) (subsets_below set i) rest)))
    ]
  where
    wider : has set i ≡ true → (s : ℕ) → IsWithin s set → IsWithin (with_index s i) set
    wider x s h j inn = elim (cases_eq j i) [
      | inl same ↦ subst (λ k. has set k ≡ true) (sym same) x
      | inr other ↦ h j (sym (has-with_other s i j (omega arith) other) ∙ inn)
    ]

-- ---- they are in order

abbrev IsRising : List ℕ → Type 0
IsRising [] = Unit {0}
IsRising (x ∷ xs) = All (λ y. x < y) xs × IsRising xs

IsRising-append : (xs ys : List ℕ) → IsRising xs → IsRising ys → All (λ x. All (λ y. x < y) ys) xs → IsRising (xs ++ ys)
IsRising-append [] ys left right across = right
IsRising-append (x ∷ xs) ys left right across = (
  All-append (λ y. x < y) xs ys left.0 (All-head (λ z. All (λ y. z < y) ys) x xs across),
  IsRising-append xs ys left.1 right (All-tail (λ z. All (λ y. z < y) ys) x xs across),
)

-- a set of the members below `i`, with `i`
number_with : (s i : ℕ) → i < 24 → s < 2 ^ i → with_index s i ≡ s + 2 ^ i
unfolding with_index
number_with s i low small =
    let none : bit_at s i ≡ 0 = bit_at_above s i i small (omega arith) in
    rw (pow_in_limit i low) (or_disjoint s (2 ^ i) (rw (and_pow s i, none) (omega arith)))

IsRising-widened : (xs : List ℕ) (i : ℕ) → i < 24 → All (λ s. s < 2 ^ i) xs → IsRising xs → IsRising (map (λ s. with_index s i) xs)
IsRising-widened [] i low small rising = tt
IsRising-widened (x ∷ xs) i low small rising =
    let rest = All-tail (λ s. s < 2 ^ i) x xs small in (
      All-map (λ y. with_index x i < y) (λ s. with_index s i) xs
          (above_each x (All-head (λ s. s < 2 ^ i) x xs small) xs rest rising.0),
      IsRising-widened xs i low rest rising.1,
    )
  where
    above_each : (x : ℕ) → x < 2 ^ i → (xs : List ℕ) → All (λ s. s < 2 ^ i) xs → All (λ y. x < y) xs → All (λ s. with_index x i < with_index s i) xs
    above_each x at_x xs small later k d inner =
        rw (number_with x i low at_x, number_with (get_or xs k d) i low (small k d inner)) (let p = later k d inner in omega (arith, p))

subsets_below-small : (set i : ℕ) → i ≤ 24 → All (λ s. s < 2 ^ i) (subsets_below set i)
subsets_below-small set zero low = All-cons (λ s. s < 2 ^ 0) 0 [] (omega arith) (All-nil (λ s. s < 2 ^ 0))
subsets_below-small set (suc i) low =
    let rest = subsets_below-small set i (omega arith) in
    let grow : 2 ^ suc i ≡ 2 ^ i + 2 ^ i = (let p = pow-add 2 i 1 in let e : suc i ≡ i + 1 = omega arith in rw e (omega (arith, p))) in
    let held = All-weaker (λ s. s < 2 ^ i) (λ s. s < 2 ^ suc i) (λ s h. rw grow (omega (arith, h))) (subsets_below set i) rest in
    elim (cases_Bool (has set i)) [
      | inr x ↦ rw x held
      | inl x ↦ rw x (All-append (λ s. s < 2 ^ suc i) (subsets_below set i) (map (λ s. with_index s i) (subsets_below set i)) held
          (All-map (λ s. s < 2 ^ suc i) (λ s. with_index s i) (subsets_below set i)
          (All-weaker (λ s. s < 2 ^ i) (λ s. with_index s i < 2 ^ suc i) (λ s h. rw (number_with s i (omega arith) h, grow) (omega (arith, h))) (subsets_below set i) rest)))
    ]

subsets_below-rising : (set i : ℕ) → i ≤ 24 → IsRising (subsets_below set i)
subsets_below-rising set zero low = (All-nil (λ y. 0 < y), tt)
subsets_below-rising set (suc i) low =
    let rest = subsets_below-rising set i (omega arith) in
    let small = subsets_below-small set i (omega arith) in
    elim (cases_Bool (has set i)) [
      | inr x ↦ rw x rest
      | inl x ↦ rw x (IsRising-append (subsets_below set i) (map (λ s. with_index s i) (subsets_below set i)) rest (IsRising-widened (subsets_below set i) i (omega arith) small rest)
          (All-weaker (λ s. s < 2 ^ i) (λ s. All (λ y. s < y) (map (λ t. with_index t i) (subsets_below set i))) (λ s h. across s h (subsets_below set i) small) (subsets_below set i) small))
    ]
  where
    across : (s : ℕ) → s < 2 ^ i → (ys : List ℕ) → All (λ t. t < 2 ^ i) ys → All (λ y. s < y) (map (λ t. with_index t i) ys)
    across s at_s ys small = All-map (λ y. s < y) (λ t. with_index t i) ys
        (All-weaker (λ t. t < 2 ^ i) (λ t. s < with_index t i) (λ t h. rw (number_with t i (omega arith) h) (omega (arith, at_s))) ys small)

rising_increases : (xs : List ℕ) → IsRising xs → IsStrictlyIncreasing xs
rising_increases [] rising k h = absurd (omega arith)
rising_increases (x ∷ xs) rising zero h = rising.0 0 0 (omega arith)
rising_increases (x ∷ xs) rising (suc k) h =
    let next : suc k + 1 ≡ suc (k + 1) = omega arith in
    subst (λ n. get_or xs k 0 < get_or (x ∷ xs) n 0) (sym next) (rising_increases xs rising.1 k (omega arith))

pub are_subsets : (set : ℕ) → IsIndexSet set → AreSubsets set (subsets_below set 24)
are_subsets set limit = record {
  each = λ s. (
    (λ inn. All-contains (λ t. IsWithin t set) (subsets_below set 24) s (sound_below set 24 (omega arith)) inn),
    (λ within.
        let small = parts_are_index_sets s set limit within in
        complete_below set 24 (omega arith) s small within (λ j high. has-beyond s j small high)),
  );
  ascend = rising_increases (subsets_below set 24) (subsets_below-rising set 24 (omega arith));
}
