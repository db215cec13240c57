-- Names of ranges, indexes and tensors, and their numbers.
use Rattle.std.proofs.Common.{◌≡◌, ℕ, zero, suc, ◌<◌, ◌≤◌, Bool, true, false, not, ◌&&◌, ◌==◌, List, [], ◌∷◌, length, map, get_or, Some, refl, ap, arith, nat_lt}
use Rattle.std.specs.List.{IsDistinct, AllByRecursion, list_all}
use Rattle.std.specs.Str.{bytes_eq}
use Rattle.std.proofs.lemmas.Bool.{ltb-false, or_parts, and_parts}
use Rattle.std.proofs.lemmas.Bool.Decides.{nat_tests}
use Rattle.tce_space.specs.Space.{Range, Index, IndexSpace, IsSpace, range_at, index_at, range_number, index_number, no_range, no_index}
use Rattle.tce_tree.specs.WellFormed.{among, is_distinct}
use Rattle.tce_spec.proofs.Lookups.{found_at, names_differ}

pub index_found : (space : IndexSpace) → IsSpace space → (i : ℕ) → i < length space.indexes → index_number space (index_at space i).name ≡ Some i
index_found space rules i below = found_at (λ (x : Index). x.name) space.indexes i no_index rules.index_names below

pub range_found : (space : IndexSpace) → IsSpace space → (r : ℕ) → r < length space.ranges → range_number space (range_at space r).name ≡ Some r
range_found space rules r below = found_at (λ (x : Range). x.name) space.ranges r no_range rules.range_names below

abbrev pub AreIndexes : IndexSpace → List ℕ → Type 0
AreIndexes space is = AllByRecursion (λ i. i < length space.indexes) is

pub of_not_and : (a b : Bool) → (not a && b) ≡ true → (a ≡ false) × (b ≡ true)
of_not_and true b h = cc
of_not_and false b h = (refl, h)

pub all_below : (n : ℕ) (is : List ℕ) → list_all (λ i. nat_lt i n) is ≡ true → AllByRecursion (λ i. i < n) is
all_below n [] h = tt
all_below n (i ∷ is) h =
    let parts = and_parts (nat_lt i n) (list_all (λ i. nat_lt i n) is) h in
    let here : i < n = grind (arith, nat_tests, parts.0) in
    (here, all_below n is parts.1)

-- what stands past the end has the number of no range, so an index of a range is declared
past_end : {A : Type 0} (xs : List A) (i : ℕ) (d : A) → length xs ≤ i → get_or xs i d ≡ d
past_end [] i d h = refl
past_end (x ∷ xs) zero d h = absurd (omega arith)
past_end (x ∷ xs) (suc i) d h = past_end xs i d (omega arith)

index_within : (space : IndexSpace) → IsSpace space → (i : ℕ) → (index_at space i).of_range < length space.ranges → i < length space.indexes
index_within space rules i h = by_test (nat_lt i (length space.indexes)) refl
  where
    by_test : (b : Bool) → nat_lt i (length space.indexes) ≡ b → i < length space.indexes
    by_test true e = grind (arith, nat_tests, e)
    by_test false e =
        let past : (index_at space i).of_range ≡ 16 = ap (λ (x : Index). x.of_range) (past_end space.indexes i no_index (ltb-false i (length space.indexes) e)) in
        absurd (omega (arith, past, h, rules.range_limit))

pub of_ranges : (space : IndexSpace) → IsSpace space → (is : List ℕ) → AllByRecursion (λ r. r < length space.ranges) (map (λ i. (index_at space i).of_range) is) → AreIndexes space is
of_ranges space rules [] are = tt
of_ranges space rules (i ∷ is) are = (index_within space rules i are.0, of_ranges space rules is are.1)

abbrev names : IndexSpace → List ℕ → List (List ℕ)
names space is = map (λ i. (index_at space i).name) is

-- different indexes have different names
apart : (space : IndexSpace) → IsSpace space → (i : ℕ) (is : List ℕ) → i < length space.indexes → AreIndexes space is → among is i ≡ false
    → AllByRecursion (λ y. bytes_eq (index_at space i).name y ≡ false) (names space is)
apart space rules i [] below are other = tt
apart space rules i (j ∷ js) below are other =
    let parts = or_parts (j == i) (among js i) other in
    let flipped : (i == j) ≡ false = grind (arith, nat_tests, parts.0) in
    (names_differ (λ (x : Index). x.name) space.indexes i j no_index rules.index_names below are.0 flipped, apart space rules i js below are.1 parts.1)

pub distinct_names : (space : IndexSpace) → IsSpace space → (is : List ℕ) → AreIndexes space is → is_distinct is ≡ true → IsDistinct bytes_eq (names space is)
unfolding IsDistinct
distinct_names space rules [] are distinct = tt
distinct_names space rules (i ∷ is) are distinct =
    let parts = of_not_and (among is i) (is_distinct is) distinct in
    (apart space rules i is are.0 are.1 parts.0, distinct_names space rules is are.1 parts.1)
