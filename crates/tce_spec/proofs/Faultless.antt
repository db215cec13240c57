-- What a formula without a fault at its places keeps.
use Rattle.std.proofs.Common.{◌≡◌, ℕ, ◌+◌, ◌<◌, ◌≤◌, ◌^◌, List, [], ◌∷◌, length, map, Bool, true, false, ◌||◌, ◌&&◌, ◌==◌, not, Option, Some, None, get_or, refl, sym, ap, ◌∙◌, arith, cond, subst, nat_lt, eqb}
use Rattle.std.specs.Prelude.{find, is_none, unwrap_or, bytes_eq, option_map, zip}
use Rattle.std.specs.List.{list_any, list_all}
use Rattle.std.specs.Option.{option_map_or}
use Rattle.std.proofs.lemmas.List.Elements.{All-get_or}
use Rattle.std.proofs.lemmas.List.{length-map}
use Rattle.std.proofs.lemmas.Map.Steps.{length-le_from_distinct_below}
use Rattle.tce_space.specs.Space.{IndexSpace, index_number, index_at}
use Rattle.tce_space.proofs.Names.{bytes_same}
use Rattle.std.proofs.lemmas.Bool.{lt-ltb}
use Rattle.tce_grammar.specs.Grammar.{AreSome}
use Rattle.tce_grammar.specs.Formula as formula
use Rattle.tce_grammar.specs.Formula.{Formula, operations}
use Rattle.tce_grammar.proofs.Chains.{map_none}
use Rattle.tce_tree.specs.ContractionTree as tree
use Rattle.tce_tree.specs.WellFormed.{indexes_below, sums_distinct}
use Rattle.tce_spec.specs.Declarations.{Declarations, IsTensor, IsDeclarations, tensor_number, tensor_at, no_tensor}
use Rattle.tce_spec.specs.Numbers.{value_of, leads_with_zero}
use Rattle.tce_spec.specs.DeclarationLines.{twice_after}
use Rattle.tce_spec.specs.Places.{IsNamed, reference, places, first_at, constants}
use Rattle.tce_spec.specs.PlaceFaults.{undeclared_index, undeclared, ranges_of, other_rank, has_range, wrong_index, other_range, listed_twice, tensor_named}
use Rattle.tce_spec.specs.FormulaFaults.{is_constant}
use Rattle.tce_spec.specs.Meaning.{meaning, indexes_of, tensor_of}
use Rattle.tce_spec.specs.Lengths.{IsShort}
use Rattle.tce_spec.specs.Contraction.{FitsTensor, LeavesFit, sums_some, has_tensor}
use Rattle.tce_spec.proofs.Joined.{all_joined}
use Rattle.tce_spec.proofs.KnownNames.{known, tensor_below, one_tensor}
use Rattle.tce_spec.proofs.Nothing.{none_or, none_joined, none_found, from_not}
use Rattle.tce_spec.proofs.DistinctNames.{distinct_numbers, numbers_below, distinct_is}

pub same_operations : (d : Declarations) (f : Formula) → tree.operations (meaning d f) ≡ operations f
same_operations d (formula.tensor name indexes) = refl
same_operations d (formula.constant digits) = refl
same_operations d (formula.sum indexes operand) = ap (λ n. n + 1) (same_operations d operand)
same_operations d (formula.binary operator left right) = rw (same_operations d left, same_operations d right) refl

-- a tensor and its indexes that are declared
known_tensor : (d : Declarations) (name : List ℕ) (indexes : List (List ℕ)) → undeclared d (reference name indexes) ≡ None
    → (is_none (tensor_number d.tensors name) ≡ false) × (undeclared_index d.space indexes ≡ None)
known_tensor d name indexes none = none_found (is_none (tensor_number d.tensors name)) name (undeclared_index d.space indexes) none

pub indexes_declared : (d : Declarations) (f : Formula) → first_at (undeclared d) (places f) ≡ None
    → indexes_below (length d.space.indexes) (meaning d f) ≡ true
indexes_declared d (formula.tensor name indexes) none =
    numbers_below d indexes (known_tensor d name indexes (none_or (undeclared d (reference name indexes)) None none).0).1
indexes_declared d (formula.constant digits) none = refl
indexes_declared d (formula.sum indexes operand) none =
    let parts = none_or (undeclared_index d.space indexes) (first_at (undeclared d) (places operand)) none in
    rw (numbers_below d indexes parts.0) (indexes_declared d operand parts.1)
indexes_declared d (formula.binary operator left right) none =
    let parts = none_joined (undeclared d) (places left) (places right) none in
    rw (indexes_declared d left parts.0) (indexes_declared d right parts.1)

pub sums_once : (d : Declarations) (f : Formula) → first_at (undeclared d) (places f) ≡ None → first_at listed_twice (places f) ≡ None
    → sums_distinct (meaning d f) ≡ true
sums_once d (formula.tensor name indexes) none once = refl
sums_once d (formula.constant digits) none once = refl
sums_once d (formula.sum indexes operand) none once =
    let parts = none_or (undeclared_index d.space indexes) (first_at (undeclared d) (places operand)) none in
    let later = none_or (twice_after [] indexes) (first_at listed_twice (places operand)) once in
    rw (distinct_numbers d [] indexes parts.0 later.0) (sums_once d operand parts.1 later.1)
sums_once d (formula.binary operator left right) none once =
    let parts = none_joined (undeclared d) (places left) (places right) none in
    let later = none_joined listed_twice (places left) (places right) once in
    rw (sums_once d left parts.0 later.0) (sums_once d right parts.1 later.1)

-- different declared indexes are at most as many as are declared
pub member_below : (n : ℕ) (xs : List ℕ) (q : ℕ) → list_all (λ i. nat_lt i n) xs ≡ true → list_any (eqb q) xs ≡ true → q < n
member_below n [] q all h = cc
member_below n (x ∷ xs) q all h =
    let parts = of_and (nat_lt x n) (list_all (λ i. nat_lt i n) xs) all in
    by_first n x xs q parts.0 (eqb q x) refl h (λ later. member_below n xs q parts.1 later)
  where
    of_and : (a b : Bool) → a && b ≡ true → (a ≡ true) × (b ≡ true)
    of_and true b h = (refl, h)
    of_and false b h = cc

    by_first : (n x : ℕ) (xs : List ℕ) (q : ℕ) → nat_lt x n ≡ true → (b : Bool) → eqb q x ≡ b → eqb q x || list_any (eqb q) xs ≡ true → (list_any (eqb q) xs ≡ true → q < n) → q < n
    by_first n x xs q below true same h later = grind (arith, below, same)
    by_first n x xs q below false same h later = later (sym (ap (λ b. b || list_any (eqb q) xs) same) ∙ h)

few_names : (d : Declarations) (names : List (List ℕ)) → undeclared_index d.space names ≡ None → twice_after [] names ≡ None
    → length names ≤ length d.space.indexes
few_names d names none once =
    let few : length (indexes_of d.space names) ≤ length d.space.indexes =
    length-le_from_distinct_below (indexes_of d.space names) (length d.space.indexes) (distinct_is (indexes_of d.space names) (distinct_numbers d [] names none once))
    (λ q h. member_below (length d.space.indexes) (indexes_of d.space names) q (numbers_below d names none) h) in
    omega (arith, length-map names (λ n. unwrap_or (index_number d.space n) 0))

few_ranges : (d : Declarations) (name : List ℕ) → IsDeclarations d → length (ranges_of d name) ≤ 8
few_ranges d name rules = by_number d name rules (tensor_number d.tensors name) refl
  where
    by_number : (d : Declarations) (name : List ℕ) → IsDeclarations d → (o : Option ℕ) → tensor_number d.tensors name ≡ o → length (option_map_or (λ t. (tensor_at d t).ranges) o []) ≤ 8
    by_number d name rules None e = omega arith
    by_number d name rules (Some t) e =
        let one : IsTensor d.space (get_or d.tensors t no_tensor) = All-get_or (IsTensor d.space) d.tensors t no_tensor (tensor_below d.tensors name t e) rules.tensors in
        one.rank

same_rank : (d : Declarations) (name : List ℕ) (indexes : List (List ℕ)) → other_rank d (reference name indexes) ≡ None
    → length indexes ≡ length (ranges_of d name)
same_rank d name indexes none = by_test (length indexes) (length (ranges_of d name)) name (length indexes == length (ranges_of d name)) refl none
  where
    by_test : (a b : ℕ) (name : List ℕ) (t : Bool) → (a == b) ≡ t → cond t None (Some name) ≡ None → a ≡ b
    by_test a b name true e h = grind (arith, e)
    by_test a b name false e h = cc

pub short_leaf : (d : Declarations) (name : List ℕ) (indexes : List (List ℕ)) → IsDeclarations d
    → other_rank d (reference name indexes) ≡ None → length indexes ≤ 8
short_leaf d name indexes rules none = omega (arith, same_rank d name indexes none, few_ranges d name rules)

small_constant : (digits : List ℕ) → is_constant digits && true ≡ true → value_of digits < 2 ^ 64
small_constant digits h = by_zero (leads_with_zero digits) (value_of digits) h
  where
    by_zero : (z : Bool) (n : ℕ) → (not z && nat_lt n (2 ^ 64)) && true ≡ true → n < 2 ^ 64
    by_zero true n h = cc
    by_zero false n h = by_test n (nat_lt n (2 ^ 64)) refl h
      where
        by_test : (n : ℕ) (t : Bool) → nat_lt n (2 ^ 64) ≡ t → t && true ≡ true → n < 2 ^ 64
        by_test n true e h = grind (arith, e)
        by_test n false e h = cc

pub short_formula : (d : Declarations) (f : Formula) → IsDeclarations d → first_at (undeclared d) (places f) ≡ None
    → list_all is_constant (constants f) ≡ true
    → first_at (other_rank d) (places f) ≡ None → first_at listed_twice (places f) ≡ None → IsShort f
short_formula d (formula.tensor name indexes) rules none numbers rank once = short_leaf d name indexes rules (none_or (other_rank d (reference name indexes)) None rank).0
short_formula d (formula.constant digits) rules none numbers rank once = small_constant digits numbers
short_formula d (formula.sum indexes operand) rules none numbers rank once =
    let parts = none_or (undeclared_index d.space indexes) (first_at (undeclared d) (places operand)) none in
    let later = none_or (twice_after [] indexes) (first_at listed_twice (places operand)) once in
    let few : length indexes ≤ 24 = omega (arith, few_names d indexes parts.0 later.0, rules.space.index_limit) in
    (few, short_formula d operand rules parts.1 numbers rank later.1)
short_formula d (formula.binary operator left right) rules none numbers rank once =
    let a = none_joined (undeclared d) (places left) (places right) none in
    let b =
    of_and (list_all is_constant (constants left)) (list_all is_constant (constants right)) (sym (all_joined is_constant (constants left) (constants right)) ∙ numbers) in
    let c = none_joined (other_rank d) (places left) (places right) rank in
    let e = none_joined listed_twice (places left) (places right) once in
    (short_formula d left rules a.0 b.0 c.0 e.0, short_formula d right rules a.1 b.1 c.1 e.1)
  where
    of_and : (a b : Bool) → a && b ≡ true → (a ≡ true) × (b ≡ true)
    of_and true b h = (refl, h)
    of_and false b h = cc

-- indexes whose ranges are those of their places
ranges_are : (d : Declarations) (names : List (List ℕ)) (ranges : List ℕ) → undeclared_index d.space names ≡ None
    → length names ≡ length ranges → wrong_index d.space names ranges ≡ None
    → map (λ i. (index_at d.space i).of_range) (indexes_of d.space names) ≡ ranges
ranges_are d [] [] none rank fits = refl
ranges_are d [] (r ∷ rs) none rank fits = absurd (omega arith)
ranges_are d (n ∷ ns) [] none rank fits = absurd (omega arith)
ranges_are d (n ∷ ns) (r ∷ rs) none rank fits =
    let parts = none_found (is_none (index_number d.space n)) n (undeclared_index d.space ns) none in
    let found : cond (not (has_range d.space n r)) (Some (n, r)) (find (λ (at : List ℕ × ℕ). not (has_range d.space at.0 at.1)) (zip ns rs)) ≡ None = map_none (λ (at : List ℕ × ℕ). at.0) _ fits in
    let here = none_found (not (has_range d.space n r)) (n, r) _ found in
    let first : (index_at d.space (unwrap_or (index_number d.space n) 0)).of_range ≡ r = of_known d n r (index_number d.space n) parts.0 (from_not (has_range d.space n r) here.0) in
    let later : map (λ i. (index_at d.space i).of_range) (indexes_of d.space ns) ≡ rs = ranges_are d ns rs parts.1 (omega arith) (ap (option_map (λ (at : List ℕ × ℕ). at.0)) here.1) in
    cc
  where
    of_known : (d : Declarations) (n : List ℕ) (r : ℕ) (o : Option ℕ) → is_none o ≡ false → option_map_or (λ i. (index_at d.space i).of_range == r) o true ≡ true → (index_at d.space (unwrap_or o 0)).of_range ≡ r
    of_known d n r None k h = cc
    of_known d n r (Some i) k h = grind (arith, h)

pub fits_tensor : (d : Declarations) (name : List ℕ) (indexes : List (List ℕ)) → undeclared d (reference name indexes) ≡ None
    → other_rank d (reference name indexes) ≡ None
    → other_range d (reference name indexes) ≡ None → FitsTensor d (tensor_of d name) (indexes_of d.space indexes)
fits_tensor d name indexes none rank fits =
    let parts = known_tensor d name indexes none in
    let number : tensor_number d.tensors name ≡ Some (tensor_of d name) = known (tensor_number d.tensors name) parts.0 in
    let ranges : ranges_of d name ≡ (tensor_at d (tensor_of d name)).ranges = ap (λ o. option_map_or (λ t. (tensor_at d t).ranges) o []) number in
    record {
      declared = tensor_below d.tensors name (tensor_of d name) number;
      ranges = ranges_are d indexes (ranges_of d name) parts.1 (same_rank d name indexes rank) fits ∙ ranges;
    }

pub leaves_fit : (d : Declarations) (f : Formula) → first_at (undeclared d) (places f) ≡ None → first_at (other_rank d) (places f) ≡ None
    → first_at (other_range d) (places f) ≡ None
    → LeavesFit d (meaning d f)
leaves_fit d (formula.tensor name indexes) none rank fits =
    fits_tensor d name indexes (none_or (undeclared d (reference name indexes)) None none).0 (none_or (other_rank d (reference name indexes)) None rank).0
    (none_or (other_range d (reference name indexes)) None fits).0
leaves_fit d (formula.constant digits) none rank fits = tt
leaves_fit d (formula.sum indexes operand) none rank fits =
    leaves_fit d operand (none_or (undeclared_index d.space indexes) (first_at (undeclared d) (places operand)) none).1 rank fits
leaves_fit d (formula.binary operator left right) none rank fits =
    let a = none_joined (undeclared d) (places left) (places right) none in
    let b = none_joined (other_rank d) (places left) (places right) rank in
    let c = none_joined (other_range d) (places left) (places right) fits in
    (leaves_fit d left a.0 b.0 c.0, leaves_fit d right a.1 b.1 c.1)

-- a tensor that is not named in a formula stands not in its tree
pub not_operand : (d : Declarations) (result : List ℕ) (f : Formula) → is_none (tensor_number d.tensors result) ≡ false
    → first_at (undeclared d) (places f) ≡ None
    → first_at (tensor_named result) (places f) ≡ None → has_tensor (tensor_of d result) (meaning d f) ≡ false
not_operand d result (formula.tensor name indexes) there none other =
    let parts : (is_none (tensor_number d.tensors name) ≡ false) × (undeclared_index d.space indexes ≡ None) =
    known_tensor d name indexes (none_or (undeclared d (reference name indexes)) None none).0 in
    let apart = none_found (bytes_eq name result) name None
    (none_or (tensor_named result (reference name indexes)) None other).0 in
    by_test (tensor_of d name) (tensor_of d result) (tensor_of d name == tensor_of d result) refl (λ same.
    let number : tensor_number d.tensors name ≡ Some (tensor_of d result) = known (tensor_number d.tensors name) parts.0 ∙ ap (λ (t : ℕ). Some t) same in
    let equal : name ≡ result = one_tensor d.tensors name result (tensor_of d result) number (known (tensor_number d.tensors result) there) in
    let clash : bytes_eq name result ≡ true = subst (λ (x : List ℕ). bytes_eq name x ≡ true) equal (bytes_same name) in
    let no : true ≡ false = sym clash ∙ apart.0 in cc)
  where
    by_test : (a b : ℕ) (t : Bool) → (a == b) ≡ t → (a ≡ b → ⊥) → (a == b) ≡ false
    by_test a b true e h = absurd (h (grind (arith, e)))
    by_test a b false e h = e
not_operand d result (formula.constant digits) there none other = refl
not_operand d result (formula.sum indexes operand) there none other =
    not_operand d result operand there (none_or (undeclared_index d.space indexes) (first_at (undeclared d) (places operand)) none).1 other
not_operand d result (formula.binary operator left right) there none other =
    let a = none_joined (undeclared d) (places left) (places right) none in
    let b = none_joined (tensor_named result) (places left) (places right) other in
    rw (not_operand d result left there a.0 b.0) (not_operand d result right there a.1 b.1)

some_numbers : (space : IndexSpace) (names : List (List ℕ)) → AreSome names → nat_lt 0 (length (indexes_of space names)) ≡ true
some_numbers space [] some = absurd (some refl)
some_numbers space (n ∷ ns) some = lt-ltb 0 (length (indexes_of space (n ∷ ns))) (omega arith)

pub sums_listed : (d : Declarations) (f : Formula) → IsNamed f → sums_some (meaning d f) ≡ true
sums_listed d (formula.tensor name indexes) named = refl
sums_listed d (formula.constant digits) named = refl
sums_listed d (formula.sum indexes operand) named = rw (some_numbers d.space indexes named.0) (sums_listed d operand named.2)
sums_listed d (formula.binary operator left right) named = rw (sums_listed d left named.0) (sums_listed d right named.1)
