-- The statements of a canonical text are those that lines can say.
use Rattle.std.proofs.Common.{◌≡◌, ℕ, ◌<◌, ◌≤◌, ◌+◌, ◌==◌, Bool, true, false, List, [], ◌∷◌, length, map, cond, IsTrue, refl, sym, subst, arith, nat_lt}
use Rattle.std.specs.List.{AllByRecursion, list_all}
use Rattle.std.proofs.lemmas.List.Elements.{recursion_from_All}
use Rattle.std.proofs.lemmas.Bool.{and_parts}
use Rattle.tce_space.specs.Name.{is_name}
use Rattle.tce_space.specs.Space.{Range, Index, IndexSpace, IsRange, IsSpace, range_at, index_at, no_range, no_index}
use Rattle.tce_tree.specs.ContractionTree as trees
use Rattle.tce_tree.specs.ContractionTree.{ContractionTree, leaf, constant, binary, sum}
use Rattle.tce_tree.specs.WellFormed.{IsDeclaredTree, indexes_below}
use Rattle.tce_grammar.specs.Formula.{operations}
use Rattle.tce_grammar.specs.Grammar.{AreNames, AreSome}
use Rattle.tce_grammar.specs.Canonical.{IsFormula, IsStatement, AreStatements}
use Rattle.tce_grammar.proofs.CanonicalLines.{all_joined}
use Rattle.tce_spec.specs.Declarations.{Declarations, IsDeclarations, IsTensor, Tensor, HaveNames, tensor_at, no_tensor}
use Rattle.tce_spec.specs.Contraction.{FitsTensor, LeavesFit, sums_some, IsContraction}
use Rattle.tce_spec.specs.Statements.{Group, groups, in_group, range_statement, index_statement, tensor_statement, formula_statement, formula_of, range_names, index_names, statements}
use Rattle.tce_spec.specs.Specification.{ConstantsAreWords}
use Rattle.tce_spec.proofs.SpaceNames.{AreIndexes, all_below, of_ranges}
use Rattle.tce_spec.proofs.NumbersBack.{AreRanges, number_is, edge_is}

-- ranges

range_written : (r : Range) → IsRange r → IsStatement (range_statement r)
range_written r is = (is.named, number_is r.extent (omega (arith, is.limit)), edge_is r.edge (omega (arith, is.limit, is.edge_limit)))

ranges_written : (rs : List Range) → AllByRecursion IsRange rs → AreStatements (map range_statement rs)
ranges_written [] are = tt
ranges_written (r ∷ rs) are = (range_written r are.0, ranges_written rs are.1)

pub range_named : (space : IndexSpace) → IsSpace space → (r : ℕ) → r < length space.ranges → IsTrue (is_name (range_at space r).name)
range_named space rules r below = (rules.ranges r no_range below).named

pub ranges_named : (space : IndexSpace) → IsSpace space → (rs : List ℕ) → AreRanges space rs → AreNames (range_names space rs)
ranges_named space rules [] are = tt
ranges_named space rules (r ∷ rs) are = (range_named space rules r are.0, ranges_named space rules rs are.1)

index_named : (space : IndexSpace) → IsSpace space → (i : ℕ) → i < length space.indexes → IsTrue (is_name (index_at space i).name)
index_named space rules i below = (rules.indexes i no_index below).0

pub indexes_named : (space : IndexSpace) → IsSpace space → (is : List ℕ) → AreIndexes space is → AreNames (index_names space is)
indexes_named space rules [] are = tt
indexes_named space rules (i ∷ is) are = (index_named space rules i are.0, indexes_named space rules is are.1)

-- groups of indexes

pub record IsGroup (space : IndexSpace) (g : Group) : Type 0 where
  pub declared : g.of_range < length space.ranges
  pub some : AreSome g.names
  pub named : AreNames g.names

abbrev IsNamedIndex : IndexSpace → Index → Type 0
IsNamedIndex space i = IsTrue (is_name i.name) × (i.of_range < length space.ranges)

group_joins : (space : IndexSpace) (i : Index) (gs : List Group) → IsNamedIndex space i → AllByRecursion (IsGroup space) gs → AllByRecursion (IsGroup space) (in_group i gs)
group_joins space i [] is are = (record { declared = is.1; some = λ e. cc; named = (is.0, tt) }, tt)
group_joins space i (g ∷ gs) is are = by_test (i.of_range == g.of_range)
  where
    by_test : (b : Bool) → AllByRecursion (IsGroup space) (cond b (record { of_range = i.of_range; names = i.name ∷ g.names } ∷ gs) (record { of_range = i.of_range; names = i.name ∷ [] } ∷ g ∷ gs))
    by_test true = (record { declared = is.1; some = λ e. cc; named = (is.0, are.0.named) }, are.1)
    by_test false = (record { declared = is.1; some = λ e. cc; named = (is.0, tt) }, are)

pub groups_are : (space : IndexSpace) (is : List Index) → AllByRecursion (IsNamedIndex space) is → AllByRecursion (IsGroup space) (groups is)
groups_are space [] are = tt
groups_are space (i ∷ is) are = group_joins space i (groups is) are.0 (groups_are space is are.1)

indexes_written : (space : IndexSpace) → IsSpace space → (gs : List Group) → AllByRecursion (IsGroup space) gs → AreStatements (map (index_statement space) gs)
indexes_written space rules [] are = tt
indexes_written space rules (g ∷ gs) are =
    ((range_named space rules g.of_range are.0.declared, are.0.some, are.0.named), indexes_written space rules gs are.1)

-- tensors

pub tensor_ranges : (space : IndexSpace) (t : Tensor) → IsTensor space t → AreRanges space t.ranges
tensor_ranges space t is = recursion_from_All (λ r. r < length space.ranges) t.ranges is.declared

tensors_written : (space : IndexSpace) → IsSpace space → (ts : List Tensor) → AllByRecursion (λ (t : Tensor). IsTrue (is_name t.name)) ts → AllByRecursion (IsTensor space) ts
    → AreStatements (map (tensor_statement space) ts)
tensors_written space rules [] named are = tt
tensors_written space rules (t ∷ ts) named are =
    ((named.0, ranges_named space rules t.ranges (tensor_ranges space t are.0)), tensors_written space rules ts named.1 are.1)

-- the formula

pub fit_indexes : (d : Declarations) → IsDeclarations d → (t : ℕ) (is : List ℕ) → FitsTensor d t is → AreIndexes d.space is
fit_indexes d rules t is fits =
    of_ranges d.space rules.space is
    (subst (AreRanges d.space) (sym fits.ranges) (tensor_ranges d.space (tensor_at d t) (rules.tensors t no_tensor fits.declared)))

pub sum_indexes : (d : Declarations) (is : List ℕ) (operand : ContractionTree) → IsDeclaredTree d.space (sum is operand) → AreIndexes d.space is
sum_indexes d is operand declared =
    all_below (length d.space.indexes) is (and_parts (list_all (λ i. nat_lt i (length d.space.indexes)) is) (indexes_below (length d.space.indexes) operand) declared).0

pub sum_operand : (d : Declarations) (is : List ℕ) (operand : ContractionTree) → IsDeclaredTree d.space (sum is operand) → IsDeclaredTree d.space operand
sum_operand d is operand declared =
    (and_parts (list_all (λ i. nat_lt i (length d.space.indexes)) is) (indexes_below (length d.space.indexes) operand) declared).1

pub binary_operands : (d : Declarations) (op : trees.Arithmetic) (left right : ContractionTree) → IsDeclaredTree d.space (binary op left right)
    → IsDeclaredTree d.space left × IsDeclaredTree d.space right
binary_operands d op left right declared = and_parts (indexes_below (length d.space.indexes) left) (indexes_below (length d.space.indexes) right) declared

names_some : (space : IndexSpace) (is : List ℕ) → nat_lt 0 (length is) ≡ true → AreSome (index_names space is)
names_some space [] some = λ e. absurd (none some)
  where
    none : nat_lt 0 0 ≡ true → ⊥
    none h = cc
names_some space (i ∷ is) some = λ e. cc

tree_written : (d : Declarations) → IsDeclarations d → HaveNames d.tensors → (tree : ContractionTree) → LeavesFit d tree → IsDeclaredTree d.space tree
    → sums_some tree ≡ true → ConstantsAreWords tree → IsFormula (formula_of d tree)
tree_written d rules named (leaf t is) fits declared some words =
    (named t no_tensor fits.declared, indexes_named d.space rules.space is (fit_indexes d rules t is fits))
tree_written d rules named (constant n) fits declared some words = number_is n words
tree_written d rules named (binary op left right) fits declared some words =
    let parts = binary_operands d op left right declared in
    let somes = and_parts (sums_some left) (sums_some right) some in
    (tree_written d rules named left fits.0 parts.0 somes.0 words.0, tree_written d rules named right fits.1 parts.1 somes.1 words.1)
tree_written d rules named (sum is operand) fits declared some words =
    let somes = and_parts (nat_lt 0 (length is)) (sums_some operand) some in (
      names_some d.space is somes.0,
      indexes_named d.space rules.space is (sum_indexes d is operand declared),
      tree_written d rules named operand fits (sum_operand d is operand declared) somes.1 words,
    )

pub same_count : (d : Declarations) (tree : ContractionTree) → operations (formula_of d tree) ≡ trees.operations tree
same_count d (leaf t is) = refl
same_count d (constant n) = refl
same_count d (binary op left right) = λ i. same_count d left i + same_count d right i + 1
same_count d (sum is operand) = λ i. same_count d operand i + 1

pub statements_written : (d : Declarations) (result : ℕ) (indexes : List ℕ) (tree : ContractionTree) → IsDeclarations d → HaveNames d.tensors → IsContraction d result indexes tree
    → ConstantsAreWords tree → trees.operations tree ≤ 32 → AreStatements (statements d result indexes tree)
statements_written d result indexes tree rules named contraction words few =
    let ranges = ranges_written d.space.ranges (recursion_from_All IsRange d.space.ranges rules.space.ranges) in
    let grouped = indexes_written d.space rules.space (groups d.space.indexes)
    (groups_are d.space d.space.indexes (recursion_from_All (IsNamedIndex d.space) d.space.indexes rules.space.indexes)) in
    let tensors = tensors_written d.space rules.space d.tensors (recursion_from_All (λ (t : Tensor). IsTrue (is_name t.name)) d.tensors named)
    (recursion_from_All (IsTensor d.space) d.tensors rules.tensors) in
    let formula : IsStatement (formula_statement d result indexes tree) = (
      named result no_tensor contraction.result_fits.declared,
      indexes_named d.space rules.space indexes (fit_indexes d rules result indexes contraction.result_fits),
      tree_written d rules named tree contraction.leaves_fit contraction.declared contraction.sums_some words,
      omega (arith, same_count d tree, few),
    ) in
    all_joined IsStatement (map range_statement d.space.ranges) _ ranges
    (all_joined IsStatement (map (index_statement d.space) (groups d.space.indexes)) _ grouped
    (all_joined IsStatement (map (tensor_statement d.space) d.tensors) _ tensors (formula, tt)))
