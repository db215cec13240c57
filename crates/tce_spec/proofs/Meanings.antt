-- The formula of a tree means the tree, and has no fault.
use Rattle.std.proofs.Common.{◌≡◌, ℕ, ◌<◌, ◌≤◌, ◌==◌, ◌&&◌, not, Bool, true, false, List, [], ◌∷◌, ◌++◌, length, map, cond, Option, Some, None, refl, sym, ap, subst, ◌∙◌, arith, nat_lt, append-nil}
use Rattle.std.specs.Prelude.{is_none, option_map, find, zip}
use Rattle.std.specs.Option.{option_or, option_map_or}
use Rattle.std.specs.List.{list_all, IsDistinct}
use Rattle.std.specs.Str.{bytes_eq}
use Rattle.std.proofs.lemmas.Bool.{eq-eqb, or_parts, and_parts}
use Rattle.std.proofs.lemmas.Bool.Decides.{nat_tests}
use Rattle.std.proofs.lemmas.List.{length-map}
use Rattle.tce_space.specs.IndexSet.{set_of}
use Rattle.tce_space.specs.Space.{IndexSpace, IsSpace, index_at}
use Rattle.tce_tree.specs.ContractionTree as trees
use Rattle.tce_tree.specs.ContractionTree.{ContractionTree, leaf, constant, binary, sum, dims}
use Rattle.tce_tree.specs.WellFormed.{IsDeclaredTree, sums_distinct, is_distinct}
use Rattle.tce_tree.specs.Faults.{fault_of}
use Rattle.tce_grammar.specs.Formula.{operations}
use Rattle.tce_spec.specs.Declarations.{Declarations, IsDeclarations, Tensor, tensor_at, no_tensor}
use Rattle.tce_spec.specs.DeclarationLines.{twice_after}
use Rattle.tce_spec.specs.Faults as faults
use Rattle.tce_spec.specs.Faults.{Fault, fault_if}
use Rattle.tce_spec.specs.Contraction.{FitsTensor, LeavesFit, IsContraction, has_tensor}
use Rattle.tce_spec.specs.FormulaFaults.{formula_fault, is_constant}
use Rattle.tce_spec.specs.Meaning.{meaning, indexes_of}
use Rattle.tce_spec.specs.Places.{Place, reference, places, first_at, constants}
use Rattle.tce_spec.specs.PlaceFaults.{undeclared, undeclared_index, ranges_of, other_rank, has_range, wrong_index, other_range, listed_twice, tensor_named}
use Rattle.tce_spec.proofs.Joined.{first_joined, all_joined}
use Rattle.tce_spec.specs.Statements.{formula_of, index_names}
use Rattle.tce_spec.specs.Specification.{ConstantsAreWords}
use Rattle.tce_spec.proofs.Lookups.{names_differ, once}
use Rattle.tce_spec.proofs.SpaceNames.{AreIndexes, index_found, distinct_names}
use Rattle.tce_spec.proofs.NumbersBack.{indexes_back, indexes_known, tensor_found, tensor_back, value_back, constant_fine}
use Rattle.tce_spec.proofs.WrittenStatements.{fit_indexes, sum_indexes, sum_operand, binary_operands, same_count}

pub meaning_back : (d : Declarations) → IsDeclarations d → (tree : ContractionTree) → LeavesFit d tree → IsDeclaredTree d.space tree → ConstantsAreWords tree
    → meaning d (formula_of d tree) ≡ tree
meaning_back d rules (leaf t is) fits declared words =
    let tensor = tensor_back d rules t fits.declared in
    let indexes = indexes_back d.space rules.space is (fit_indexes d rules t is fits) in
    λ i. leaf (tensor i) (indexes i)
meaning_back d rules (constant n) fits declared words = ap constant (value_back n words)
meaning_back d rules (binary op left right) fits declared words =
    let parts = binary_operands d op left right declared in
    let first_one = meaning_back d rules left fits.0 parts.0 words.0 in
    let second_one = meaning_back d rules right fits.1 parts.1 words.1 in
    λ i. binary op (first_one i) (second_one i)
meaning_back d rules (sum is operand) fits declared words =
    let indexes = indexes_back d.space rules.space is (sum_indexes d is operand declared) in
    let inner = meaning_back d rules operand fits (sum_operand d is operand declared) words in
    λ i. sum (indexes i) (inner i)

-- nothing is found

pub neither : {A : Type 0} (a b : Option A) → a ≡ None → b ≡ None → option_or a b ≡ None
neither None b e f = f
neither (Some x) b e f = cc

joined_none : (found : Place → Option (List ℕ)) (xs ys : List Place) → first_at found xs ≡ None → first_at found ys ≡ None → first_at found (xs ++ ys) ≡ None
joined_none found xs ys e f = first_joined found xs ys ∙ neither (first_at found xs) (first_at found ys) e f

-- names are declared
reference_known : (d : Declarations) → IsDeclarations d → (t : ℕ) (is : List ℕ) → FitsTensor d t is → undeclared d (reference (tensor_at d t).name (index_names d.space is)) ≡ None
reference_known d rules t is fits =
    ap (λ o. cond (is_none o) (Some (tensor_at d t).name) (undeclared_index d.space (index_names d.space is))) (tensor_found d rules t fits.declared)
    ∙ indexes_known d.space rules.space is (fit_indexes d rules t is fits)

all_known : (d : Declarations) → IsDeclarations d → (tree : ContractionTree) → LeavesFit d tree → IsDeclaredTree d.space tree → first_at (undeclared d) (places (formula_of d tree)) ≡ None
all_known d rules (leaf t is) fits declared = neither _ None (reference_known d rules t is fits) refl
all_known d rules (constant n) fits declared = refl
all_known d rules (binary op left right) fits declared =
    let parts = binary_operands d op left right declared in
    joined_none (undeclared d) (places (formula_of d left)) (places (formula_of d right)) (all_known d rules left fits.0 parts.0) (all_known d rules right fits.1 parts.1)
all_known d rules (sum is operand) fits declared =
    neither (undeclared_index d.space (index_names d.space is)) _ (indexes_known d.space rules.space is (sum_indexes d is operand declared))
    (all_known d rules operand fits (sum_operand d is operand declared))

-- constants are words
constants_fine : (d : Declarations) (tree : ContractionTree) → ConstantsAreWords tree → list_all is_constant (constants (formula_of d tree)) ≡ true
constants_fine d (leaf t is) words = refl
constants_fine d (constant n) words = ap (λ b. b && true) (constant_fine n words)
constants_fine d (binary op left right) words =
    all_joined is_constant (constants (formula_of d left)) (constants (formula_of d right))
    ∙ (λ i. constants_fine d left words.0 i && constants_fine d right words.1 i)
constants_fine d (sum is operand) words = constants_fine d operand words

-- references have as many indexes as their tensors have dimensions
ranges_are : (d : Declarations) → IsDeclarations d → (t : ℕ) → t < length d.tensors → ranges_of d (tensor_at d t).name ≡ (tensor_at d t).ranges
ranges_are d rules t below = ap (λ o. option_map_or (λ n. (tensor_at d n).ranges) o []) (tensor_found d rules t below)

reference_rank : (d : Declarations) → IsDeclarations d → (t : ℕ) (is : List ℕ) → FitsTensor d t is → other_rank d (reference (tensor_at d t).name (index_names d.space is)) ≡ None
reference_rank d rules t is fits =
    let same : length (index_names d.space is) ≡ length (ranges_of d (tensor_at d t).name) =
    length-map is (λ i. (index_at d.space i).name) ∙ sym (length-map is (λ i. (index_at d.space i).of_range)) ∙ ap length fits.ranges ∙ sym (ap length (ranges_are d rules t fits.declared)) in
    ap (λ b. cond b None (Some (tensor_at d t).name)) (eq-eqb (length (index_names d.space is)) (length (ranges_of d (tensor_at d t).name)) same)

all_ranks : (d : Declarations) → IsDeclarations d → (tree : ContractionTree) → LeavesFit d tree → first_at (other_rank d) (places (formula_of d tree)) ≡ None
all_ranks d rules (leaf t is) fits = neither _ None (reference_rank d rules t is fits) refl
all_ranks d rules (constant n) fits = refl
all_ranks d rules (binary op left right) fits =
    joined_none (other_rank d) (places (formula_of d left)) (places (formula_of d right)) (all_ranks d rules left fits.0) (all_ranks d rules right fits.1)
all_ranks d rules (sum is operand) fits = all_ranks d rules operand fits

-- and of the ranges of the dimensions
own_ranges : (space : IndexSpace) → IsSpace space → (is : List ℕ) → AreIndexes space is → wrong_index space (index_names space is) (map (λ i. (index_at space i).of_range) is) ≡ None
own_ranges space rules is are = ap (option_map (λ (at : List ℕ × ℕ). at.0)) (none_found is are)
  where
    wrong : List ℕ × ℕ → Bool
    wrong at = not (has_range space at.0 at.1)

    own : (i : ℕ) → i < length space.indexes → has_range space (index_at space i).name (index_at space i).of_range ≡ true
    own i below =
        ap (λ o. option_map_or (λ n. (index_at space n).of_range == (index_at space i).of_range) o true) (index_found space rules i below)
        ∙ eq-eqb (index_at space i).of_range (index_at space i).of_range refl

    none_found : (is : List ℕ) → AreIndexes space is → find (λ (at : List ℕ × ℕ). not (has_range space at.0 at.1)) (zip (index_names space is) (map (λ i. (index_at space i).of_range) is)) ≡ None
    none_found [] are = refl
    none_found (i ∷ is) are =
        ap (λ b. cond (not b) (Some ((index_at space i).name, (index_at space i).of_range)) (find (λ (at : List ℕ × ℕ). not (has_range space at.0 at.1)) (zip (index_names space is) (map (λ i. (index_at space i).of_range) is)))) (own i are.0)
        ∙ none_found is are.1

reference_ranges : (d : Declarations) → IsDeclarations d → (t : ℕ) (is : List ℕ) → FitsTensor d t is → other_range d (reference (tensor_at d t).name (index_names d.space is)) ≡ None
reference_ranges d rules t is fits =
    ap (λ rs. wrong_index d.space (index_names d.space is) rs) (ranges_are d rules t fits.declared ∙ sym fits.ranges)
    ∙ own_ranges d.space rules.space is (fit_indexes d rules t is fits)

all_ranges : (d : Declarations) → IsDeclarations d → (tree : ContractionTree) → LeavesFit d tree → first_at (other_range d) (places (formula_of d tree)) ≡ None
all_ranges d rules (leaf t is) fits = neither _ None (reference_ranges d rules t is fits) refl
all_ranges d rules (constant n) fits = refl
all_ranges d rules (binary op left right) fits =
    joined_none (other_range d) (places (formula_of d left)) (places (formula_of d right)) (all_ranges d rules left fits.0) (all_ranges d rules right fits.1)
all_ranges d rules (sum is operand) fits = all_ranges d rules operand fits

-- no index stands twice where none may
names_once : (space : IndexSpace) → IsSpace space → (is : List ℕ) → AreIndexes space is → is_distinct is ≡ true → twice_after [] (index_names space is) ≡ None
names_once space rules is are distinct =
    once [] (index_names space is) [] (subst (IsDistinct bytes_eq) (sym (append-nil (index_names space is))) (distinct_names space rules is are distinct))

all_once : (d : Declarations) → IsDeclarations d → (tree : ContractionTree) → IsDeclaredTree d.space tree → sums_distinct tree ≡ true → first_at listed_twice (places (formula_of d tree)) ≡ None
all_once d rules (leaf t is) declared distinct = refl
all_once d rules (constant n) declared distinct = refl
all_once d rules (binary op left right) declared distinct =
    let parts = binary_operands d op left right declared in
    let each = and_parts (sums_distinct left) (sums_distinct right) distinct in
    joined_none listed_twice (places (formula_of d left)) (places (formula_of d right)) (all_once d rules left parts.0 each.0) (all_once d rules right parts.1 each.1)
all_once d rules (sum is operand) declared distinct =
    let each = and_parts (is_distinct is) (sums_distinct operand) distinct in
    neither (twice_after [] (index_names d.space is)) _ (names_once d.space rules.space is (sum_indexes d is operand declared) each.0)
    (all_once d rules operand (sum_operand d is operand declared) each.1)

-- the result is no operand
all_other : (d : Declarations) → IsDeclarations d → (result : ℕ) → result < length d.tensors → (tree : ContractionTree) → LeavesFit d tree → has_tensor result tree ≡ false
    → first_at (tensor_named (tensor_at d result).name) (places (formula_of d tree)) ≡ None
all_other d rules result below (leaf t is) fits other =
    let apart : bytes_eq (tensor_at d t).name (tensor_at d result).name ≡ false =
    names_differ (λ (x : Tensor). x.name) d.tensors t result no_tensor rules.tensor_names fits.declared below other in
    neither _ None (ap (λ b. cond b (Some (tensor_at d t).name) None) apart) refl
all_other d rules result below (constant n) fits other = refl
all_other d rules result below (binary op left right) fits other =
    let parts = or_parts (has_tensor result left) (has_tensor result right) other in
    joined_none (tensor_named (tensor_at d result).name) (places (formula_of d left)) (places (formula_of d right))
    (all_other d rules result below left fits.0 parts.0) (all_other d rules result below right fits.1 parts.1)
all_other d rules result below (sum is operand) fits other = all_other d rules result below operand fits other

-- the line has no fault

pub not_if : (b : Bool) (f : Fault) → b ≡ false → fault_if b f ≡ None
not_if true f e = cc
not_if false f e = refl

pub mapped_none : (f : List ℕ → Fault) (o : Option (List ℕ)) → o ≡ None → option_map f o ≡ None
mapped_none f None e = refl
mapped_none f (Some x) e = cc

pub not_above : (limit n : ℕ) → n ≤ limit → nat_lt limit n ≡ false
not_above limit n h = grind (arith, nat_tests)

pub formula_fine : (line : ℕ) (d : Declarations) (result : ℕ) (indexes : List ℕ) (tree : ContractionTree) → IsDeclarations d → IsContraction d result indexes tree
    → ConstantsAreWords tree → trees.operations tree ≤ 32 → sums_distinct tree ≡ true → fault_of d.space tree ≡ None
    → formula_fault line d (tensor_at d result).name (index_names d.space indexes) (formula_of d tree) ≡ None
formula_fine line d result indexes tree rules contraction words few distinct faultless =
    let f = formula_of d tree in
    let below = fit_indexes d rules result indexes contraction.result_fits in
    let same : meaning d f ≡ tree = meaning_back d rules tree contraction.leaves_fit contraction.declared words in
    let count : nat_lt 32 (operations f) ≡ false = not_above 32 (operations f) (omega (arith, same_count d tree, few)) in
    let known = neither _ _ (reference_known d rules result indexes contraction.result_fits) (all_known d rules tree contraction.leaves_fit contraction.declared) in
    let numbers : not (list_all is_constant (constants f)) ≡ false = ap not (constants_fine d tree words) in
    let ranks = neither _ _ (reference_rank d rules result indexes contraction.result_fits) (all_ranks d rules tree contraction.leaves_fit) in
    let ranges = neither _ _ (reference_ranges d rules result indexes contraction.result_fits) (all_ranges d rules tree contraction.leaves_fit) in
    let listed = neither _ _ (names_once d.space rules.space indexes below contraction.once) (all_once d rules tree contraction.declared distinct) in
    let other = all_other d rules result contraction.result_fits.declared tree contraction.leaves_fit contraction.no_operand in
    let trees_fine : option_map (faults.tree line) (fault_of d.space (meaning d f)) ≡ None =
    ap (λ t. option_map (faults.tree line) (fault_of d.space t)) same ∙ ap (option_map (faults.tree line)) faultless in
    let result_indexes : indexes_of d.space (index_names d.space indexes) ≡ indexes = indexes_back d.space rules.space indexes below in
    let sets : set_of (indexes_of d.space (index_names d.space indexes)) ≡ dims (meaning d f) = ap set_of result_indexes ∙ contraction.same_indexes ∙ sym (ap dims same) in
    let listing_fine : not (set_of (indexes_of d.space (index_names d.space indexes)) == dims (meaning d f)) ≡ false = ap not (eq-eqb _ _ sets) in
    neither _ _ (not_if _ (faults.too_many_nodes line) count)
    (neither _ _ (mapped_none (faults.unknown_name line) _ known)
    (neither _ _ (not_if _ (faults.bad_number line) numbers)
    (neither _ _ (mapped_none (faults.rank_differs line) _ ranks)
    (neither _ _ (mapped_none (faults.range_differs line) _ ranges)
    (neither _ _ (mapped_none (faults.index_twice line) _ listed)
    (neither _ _ (mapped_none (faults.result_is_operand line) _ other)
    (neither _ _ trees_fine
    (neither _ None (not_if _ (faults.result_indices line) listing_fine) refl))))))))
