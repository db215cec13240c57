-- Names and digits that are read as the numbers for which they stand.
use Rattle.std.proofs.Common.{◌≡◌, ℕ, zero, suc, ◌<◌, ◌≤◌, ◌^◌, Bool, true, false, not, ◌&&◌, ◌==◌, List, [], ◌∷◌, length, get_or, cond, Some, None, refl, ap, ◌∙◌, arith, nat_lt, nat_le, lit<}
use Rattle.std.specs.Prelude.{find, is_none, unwrap_or}
use Rattle.std.specs.Fmt.{decimal}
use Rattle.std.proofs.lemmas.Fmt.{first_decimal, decimal_digit}
use Rattle.std.proofs.lemmas.Bool.{lt-ltb, and_from}
use Rattle.std.proofs.lemmas.Bool.Decides.{nat_tests}
use Rattle.std.specs.List.{AllByRecursion}
use Rattle.tce_space.specs.Space.{IndexSpace, IsSpace, index_at, index_number, range_at, range_number}
use Rattle.tce_grammar.specs.Tokens.{IsNumber}
use Rattle.tce_grammar.specs.Canonical.{IsNumberIfSome}
use Rattle.tce_spec.specs.Declarations.{Declarations, IsDeclarations, Tensor, tensor_at, tensor_number, no_tensor}
use Rattle.tce_spec.specs.DeclarationLines.{number_of_range, numbers_of_ranges}
use Rattle.tce_spec.specs.Numbers.{value_of, leads_with_zero, is_range_number, is_range_size, edge_of}
use Rattle.tce_spec.specs.Meaning.{indexes_of, tensor_of}
use Rattle.tce_spec.specs.PlaceFaults.{undeclared_index}
use Rattle.tce_spec.specs.FormulaFaults.{is_constant}
use Rattle.tce_spec.specs.Statements.{edge_digits, range_names, index_names}
use Rattle.tce_spec.proofs.Lookups.{found_at}
use Rattle.tce_spec.proofs.SpaceNames.{AreIndexes, index_found, range_found}
use Rattle.tce_spec.proofs.PrintedNumbers.{SaysNumber, decimal_says}

pub indexes_back : (space : IndexSpace) → IsSpace space → (is : List ℕ) → AreIndexes space is → indexes_of space (index_names space is) ≡ is
indexes_back space rules [] are = refl
indexes_back space rules (i ∷ is) are =
    let here : unwrap_or (index_number space (index_at space i).name) 0 ≡ i = ap (λ o. unwrap_or o 0) (index_found space rules i are.0) in
    λ j. here j ∷ indexes_back space rules is are.1 j

pub indexes_known : (space : IndexSpace) → IsSpace space → (is : List ℕ) → AreIndexes space is → undeclared_index space (index_names space is) ≡ None
indexes_known space rules [] are = refl
indexes_known space rules (i ∷ is) are =
    ap (λ o. cond (is_none o) (Some (index_at space i).name) (undeclared_index space (index_names space is))) (index_found space rules i are.0)
    ∙ indexes_known space rules is are.1

abbrev pub AreRanges : IndexSpace → List ℕ → Type 0
AreRanges space rs = AllByRecursion (λ r. r < length space.ranges) rs

pub range_back : (space : IndexSpace) → IsSpace space → (r : ℕ) → r < length space.ranges → number_of_range space (range_at space r).name ≡ r
range_back space rules r below = ap (λ o. unwrap_or o 16) (range_found space rules r below)

pub ranges_back : (space : IndexSpace) → IsSpace space → (rs : List ℕ) → AreRanges space rs → numbers_of_ranges space (range_names space rs) ≡ rs
ranges_back space rules [] are = refl
ranges_back space rules (r ∷ rs) are =
    let here : number_of_range space (range_at space r).name ≡ r = range_back space rules r are.0 in
    λ j. here j ∷ ranges_back space rules rs are.1 j

pub ranges_known : (space : IndexSpace) → IsSpace space → (rs : List ℕ) → AreRanges space rs → find (λ range. is_none (range_number space range)) (range_names space rs) ≡ None
ranges_known space rules [] are = refl
ranges_known space rules (r ∷ rs) are =
    ap (λ o. cond (is_none o) (Some (range_at space r).name) (find (λ range. is_none (range_number space range)) (range_names space rs))) (range_found space rules r are.0)
    ∙ ranges_known space rules rs are.1

pub tensor_found : (d : Declarations) → IsDeclarations d → (t : ℕ) → t < length d.tensors → tensor_number d.tensors (tensor_at d t).name ≡ Some t
tensor_found d rules t below = found_at (λ (x : Tensor). x.name) d.tensors t no_tensor rules.tensor_names below

pub tensor_back : (d : Declarations) → IsDeclarations d → (t : ℕ) → t < length d.tensors → tensor_of d (tensor_at d t).name ≡ t
tensor_back d rules t below = ap (λ o. unwrap_or o 0) (tensor_found d rules t below)

-- digits

pub value_back : (n : ℕ) → n < 2 ^ 64 → value_of (decimal n) ≡ n
value_back n h = (decimal_says n h).value

pub number_is : (n : ℕ) → n < 2 ^ 64 → IsNumber (decimal n)
number_is n h = let is : SaysNumber n (decimal n) = decimal_says n h in (is.some, is.digits)

pub edge_is : (edge : ℕ) → edge < 2 ^ 64 → IsNumberIfSome (edge_digits edge)
edge_is edge h = by_test (edge == 1)
  where
    by_test : (b : Bool) → IsNumberIfSome (cond b None (Some (decimal edge)))
    by_test true = tt
    by_test false = number_is edge h

high_first : (ds : List ℕ) → 48 < get_or ds 0 0 → leads_with_zero ds ≡ false
high_first [] h = refl
high_first (d ∷ ds) h = let other : (d == 48) ≡ false = grind (arith, nat_tests) in ap (λ b. b && nat_lt 0 (length ds)) other

pub no_zero_leads : (n : ℕ) → n < 2 ^ 64 → leads_with_zero (decimal n) ≡ false
no_zero_leads zero h = ap leads_with_zero (decimal_digit 0 (lit< tt))
no_zero_leads (suc n) h = high_first (decimal (suc n)) (first_decimal (suc n) (omega arith) h)

pub constant_fine : (n : ℕ) → n < 2 ^ 64 → is_constant (decimal n) ≡ true
constant_fine n h =
    let lead : leads_with_zero (decimal n) ≡ false = no_zero_leads n h in
    let value : value_of (decimal n) ≡ n = value_back n h in
    let tests : is_constant (decimal n) ≡ (not false && nat_lt n (2 ^ 64)) = λ i. not (lead i) && nat_lt (value i) (2 ^ 64) in
    tests ∙ lt-ltb n (2 ^ 64) h

small : (n : ℕ) → n < 2 ^ 32 → n < 2 ^ 64
small n h = omega arith

range_number_fine : (n : ℕ) → 0 < n → n < 2 ^ 32 → is_range_number (decimal n) ≡ true
range_number_fine n some h =
    let lead : leads_with_zero (decimal n) ≡ false = no_zero_leads n (small n h) in
    let value : value_of (decimal n) ≡ n = value_back n (small n h) in
    let tests : is_range_number (decimal n) ≡ (not false && nat_lt 0 n && nat_lt n (2 ^ 32)) = λ i. not (lead i) && nat_lt 0 (value i) && nat_lt (value i) (2 ^ 32) in
    tests ∙ and_from (nat_lt 0 n) (nat_lt n (2 ^ 32)) (lt-ltb 0 n some) (lt-ltb n (2 ^ 32) h)

at_most : (a b : ℕ) → a ≤ b → nat_le a b ≡ true
at_most a b h = grind (arith, nat_tests)

pub size_fine : (extent edge : ℕ) → 0 < extent → extent < 2 ^ 32 → 0 < edge → edge ≤ extent → is_range_size (decimal extent) (edge_digits edge) ≡ true
size_fine extent edge some limit edge_some edge_limit = by_test (edge == 1)
  where
    by_test : (b : Bool) → is_range_size (decimal extent) (cond b None (Some (decimal edge))) ≡ true
    by_test true = range_number_fine extent some limit
    by_test false =
        let small_edge : edge < 2 ^ 32 = omega (arith, limit, edge_limit) in
        let values : nat_le (value_of (decimal edge)) (value_of (decimal extent)) ≡ nat_le edge extent =
        λ i. nat_le (value_back edge (small edge small_edge) i) (value_back extent (small extent limit) i) in
        and_from (is_range_number (decimal extent)) _ (range_number_fine extent some limit)
        (and_from (is_range_number (decimal edge)) _ (range_number_fine edge edge_some small_edge) (values ∙ at_most edge extent edge_limit))

pub edge_back : (edge : ℕ) → edge < 2 ^ 64 → edge_of (edge_digits edge) ≡ edge
edge_back edge h = by_test (edge == 1) refl
  where
    by_test : (b : Bool) → (edge == 1) ≡ b → edge_of (cond b None (Some (decimal edge))) ≡ edge
    by_test true e = grind (arith, nat_tests, e)
    by_test false e = value_back edge h
