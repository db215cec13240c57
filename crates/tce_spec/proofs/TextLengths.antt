-- The canonical text of a specification is no longer than a text may be.
use Rattle.std.proofs.Common.{◌≡◌, ℕ, ◌+◌, ◌*◌, ◌<◌, ◌≤◌, ◌^◌, ◌==◌, Bool, true, false, IsTrue, List, [], ◌∷◌, ◌++◌, length, map, cond, Some, None, refl, ap, arith, nat_lt, nat_le, length-append, lit<}
use Rattle.std.specs.Prelude.{codes}
use Rattle.std.specs.List.{AllByRecursion, list_all}
use Rattle.std.specs.Fmt.{decimal}
use Rattle.std.proofs.lemmas.Fmt.{length-decimal-le}
use Rattle.std.proofs.lemmas.List.{length-map}
use Rattle.std.proofs.lemmas.List.Elements.{recursion_from_All}
use Rattle.std.proofs.lemmas.Map.Steps.{length-le_from_distinct_below}
use Rattle.std.proofs.lemmas.Bool.{and_parts}
use Rattle.tce_space.specs.Name.{is_name}
use Rattle.tce_space.specs.Space.{Range, Index, IndexSpace, IsRange, IsSpace, range_at, index_at}
use Rattle.tce_space.proofs.Spaces.{name_len}
use Rattle.tce_tree.specs.ContractionTree as trees
use Rattle.tce_tree.specs.ContractionTree.{ContractionTree, leaf, constant, binary, sum}
use Rattle.tce_tree.specs.WellFormed.{IsDeclaredTree, sums_distinct, is_distinct, indexes_below}
use Rattle.tce_grammar.specs.Tokens.{Token, symbol}
use Rattle.tce_grammar.specs.Formula.{Arithmetic, multiply, add, subtract}
use Rattle.tce_grammar.specs.Grammar.{Written, Statement, AreSome, listed, bracketed, spelling, sign, level, precedence}
use Rattle.tce_grammar.specs.Printed.{token_text}
use Rattle.tce_grammar.specs.Canonical.{written_of, grouped_if, canonical_tokens, edge_tokens}
use Rattle.tce_spec.specs.Declarations.{Declarations, IsDeclarations, IsTensor, Tensor, HaveNames, tensor_at, no_tensor}
use Rattle.tce_spec.specs.Contraction.{FitsTensor, LeavesFit}
use Rattle.tce_spec.proofs.DistinctNames.{distinct_is}
use Rattle.tce_spec.proofs.Faultless.{member_below}
use Rattle.tce_spec.specs.Statements.{Group, groups, range_statement, index_statement, tensor_statement, formula_statement, formula_of, range_names, index_names, statements}
use Rattle.tce_spec.specs.Specification.{Specification}
use Rattle.tce_spec.specs.Canonical.{canonical_of}
use Rattle.tce_spec.specs.Specification.{ConstantsAreWords}
use Rattle.tce_spec.specs.RoundTrip.{IsWritable}
use Rattle.tce_spec.proofs.Lengths.{width, width_joined, widths, widths_joined, text_short, listed_short, bracketed_short, words_short}
use Rattle.tce_spec.proofs.WrittenStatements.{IsGroup, range_named, ranges_named, indexes_named, groups_are, tensor_ranges, fit_indexes, sum_indexes, sum_operand, binary_operands}
use Rattle.tce_spec.proofs.Heads.{all_of, groups_of, of_group}

-- lines of ranges

edge_short : (b : Bool) (edge : ℕ) → length (decimal edge) ≤ 10 → width (edge_tokens (cond b None (Some (decimal edge)))) ≤ 16
edge_short true edge h = omega arith
edge_short false edge h = let tile : length (codes "tile") ≡ 4 = refl in omega (arith, tile)

digits_short : (n : ℕ) → n < 2 ^ 32 → length (decimal n) ≤ 10
digits_short n h = length-decimal-le 10 n (lit< tt) (omega arith) (omega arith)

range_short : (r : Range) → IsRange r → width (canonical_tokens (range_statement r)) ≤ 50
range_short r is =
    let range : length (codes "range") ≡ 5 = refl in
    let extent = digits_short r.extent is.limit in
    let edge = edge_short (r.edge == 1) r.edge (digits_short r.edge (omega (arith, is.limit, is.edge_limit))) in
    omega (arith, range, extent, edge, name_len r.name is.named)

ranges_short : (rs : List Range) → AllByRecursion IsRange rs → widths (map range_statement rs) ≤ 51 * length rs
ranges_short [] are = omega arith
ranges_short (r ∷ rs) are = omega (arith, range_short r are.0, ranges_short rs are.1)

-- lines of indexes

some_long : (names : List (List ℕ)) → AreSome names → 1 ≤ length names
some_long [] some = absurd (some refl)
some_long (n ∷ ns) some = omega arith

group_short : (space : IndexSpace) → IsSpace space → (g : Group) → IsGroup space g → width (canonical_tokens (index_statement space g)) + 1 ≤ 41 * length g.names
group_short space rules g is =
    let index : length (codes "index") ≡ 5 = refl in
    omega (arith, index, name_len (range_at space g.of_range).name (range_named space rules g.of_range is.declared), words_short g.names is.named, some_long g.names is.some)

groups_short : (space : IndexSpace) → IsSpace space → (gs : List Group) → AllByRecursion (IsGroup space) gs → widths (map (index_statement space) gs) ≤ 41 * length (all_of gs)
groups_short space rules [] are = omega arith
groups_short space rules (g ∷ gs) are =
    let count : length (of_group g) ≡ length g.names = length-map g.names (λ name. record { name = name; of_range = g.of_range }) in
    omega (arith, count, length-append (of_group g) (all_of gs), group_short space rules g are.0, groups_short space rules gs are.1)

-- lines of tensors

tensor_short : (space : IndexSpace) → IsSpace space → (t : Tensor) → IsTrue (is_name t.name) → IsTensor space t → width (canonical_tokens (tensor_statement space t)) ≤ 180
tensor_short space rules t named is =
    let tensor : length (codes "tensor") ≡ 6 = refl in
    let ranges = ranges_named space rules t.ranges (tensor_ranges space t is) in
    omega (arith, tensor, bracketed_short t.name (range_names space t.ranges) named ranges, length-map t.ranges (λ r. (range_at space r).name), is.rank)

tensors_short : (space : IndexSpace) → IsSpace space → (ts : List Tensor) → AllByRecursion (λ (t : Tensor). IsTrue (is_name t.name)) ts → AllByRecursion (IsTensor space) ts
    → widths (map (tensor_statement space) ts) ≤ 181 * length ts
tensors_short space rules [] named are = omega arith
tensors_short space rules (t ∷ ts) named are = omega (arith, tensor_short space rules t named.0 are.0, tensors_short space rules ts named.1 are.1)

-- the formula

reference_short : (d : Declarations) → IsDeclarations d → HaveNames d.tensors → (t : ℕ) (is : List ℕ) → FitsTensor d t is
    → width (bracketed (tensor_at d t).name (index_names d.space is)) ≤ 173
reference_short d rules named t is fits =
    let names = indexes_named d.space rules.space is (fit_indexes d rules t is fits) in
    let rank : length (tensor_at d t).ranges ≤ 8 = (rules.tensors t no_tensor fits.declared).rank in
    let same = ap length fits.ranges in
    omega (
      arith,
      bracketed_short (tensor_at d t).name (index_names d.space is) (named t no_tensor fits.declared) names,
      rank,
      same,
      length-map is (λ i. (index_at d.space i).name),
      length-map is (λ i. (index_at d.space i).of_range),
    )

grouped_short : (b : Bool) (w : Written) → width (spelling (grouped_if b w)) ≤ width (spelling w) + 4
grouped_short true w = omega (arith, width_joined (spelling w) (symbol 41 ∷ []))
grouped_short false w = omega arith

sign_short : (o : Arithmetic) → length (token_text (sign o)) ≡ 1
sign_short multiply = refl
sign_short add = refl
sign_short subtract = refl

few_indexes : (d : Declarations) → IsDeclarations d → (is : List ℕ) (operand : ContractionTree) → IsDeclaredTree d.space (sum is operand) → is_distinct is ≡ true → length is ≤ 24
few_indexes d rules is operand declared distinct =
    let below = (and_parts (list_all (λ i. nat_lt i (length d.space.indexes)) is) (indexes_below (length d.space.indexes) operand) declared).0 in
    let few : length is ≤ length d.space.indexes =
    length-le_from_distinct_below is (length d.space.indexes) (distinct_is is distinct) (λ q h. member_below (length d.space.indexes) is q below h) in
    omega (arith, few, rules.space.index_limit)

tree_short : (d : Declarations) → IsDeclarations d → HaveNames d.tensors → (tree : ContractionTree) → LeavesFit d tree → IsDeclaredTree d.space tree
    → sums_distinct tree ≡ true → ConstantsAreWords tree → width (spelling (written_of (formula_of d tree))) ≤ 173 + 468 * trees.operations tree
tree_short d rules named (leaf t is) fits declared distinct words = omega (arith, reference_short d rules named t is fits)
tree_short d rules named (constant n) fits declared distinct words =
    let digits : length (decimal n) ≤ 20 = length-decimal-le 20 n (lit< tt) (omega (arith, words)) words in
    omega (arith, digits)
tree_short d rules named (binary op left right) fits declared distinct words =
    let parts = binary_operands d op left right declared in
    let each = and_parts (sums_distinct left) (sums_distinct right) distinct in
    let a : Written = written_of (formula_of d left) in
    let b : Written = written_of (formula_of d right) in
    let first_test : Bool = nat_lt (level a) (precedence op) in
    let second_test : Bool = nat_le (level b) (precedence op) in
    omega (
      arith,
      width_joined (spelling (grouped_if first_test a)) (sign op ∷ spelling (grouped_if second_test b)),
      grouped_short first_test a,
      grouped_short second_test b,
      sign_short op,
      tree_short d rules named left fits.0 parts.0 each.0 words.0,
      tree_short d rules named right fits.1 parts.1 each.1 words.1,
    )
tree_short d rules named (sum is operand) fits declared distinct words =
    let each = and_parts (is_distinct is) (sums_distinct operand) distinct in
    let names : List (List ℕ) = index_names d.space is in
    let inner : List Token = spelling (written_of (formula_of d operand)) in
    let three : length (codes "sum") ≡ 3 = refl in
    let few = few_indexes d rules is operand declared each.0 in
    let list = listed_short names (indexes_named d.space rules.space is (sum_indexes d is operand declared)) in
    omega (
      arith,
      three,
      few,
      list,
      length-map is (λ i. (index_at d.space i).name),
      width_joined (listed names) (symbol 125 ∷ symbol 40 ∷ (inner ++ symbol 41 ∷ [])),
      width_joined inner (symbol 41 ∷ []),
      tree_short d rules named operand fits (sum_operand d is operand declared) each.1 words,
    )

formula_short : (s : Specification) → IsWritable s → width (canonical_tokens (formula_statement s.declarations s.result s.indexes s.tree)) ≤ 15324
formula_short s is =
    let d : Declarations = s.declarations in
    let rules : IsDeclarations d = is.rules.declarations in
    let tree = tree_short d rules is.names s.tree is.rules.contraction.leaves_fit is.rules.contraction.declared is.rules.distinct is.rules.constants in
    omega (
      arith,
      reference_short d rules is.names s.result s.indexes is.rules.contraction.result_fits,
      tree,
      is.rules.few,
      width_joined (bracketed (tensor_at d s.result).name (index_names d.space s.indexes)) (symbol 61 ∷ spelling (written_of (formula_of d s.tree))),
    )

pub canonical_short : (s : Specification) → IsWritable s → length (canonical_of s) ≤ 2 ^ 16
canonical_short s is =
    let d : Declarations = s.declarations in
    let space : IndexSpace = d.space in
    let rules : IsDeclarations d = is.rules.declarations in
    let ranges = map range_statement space.ranges in
    let indexes = map (index_statement space) (groups space.indexes) in
    let tensors = map (tensor_statement space) d.tensors in
    let last : List Statement = formula_statement d s.result s.indexes s.tree ∷ [] in
    let are_groups = groups_are space space.indexes (recursion_from_All (λ (i : Index). IsTrue (is_name i.name) × (i.of_range < length space.ranges)) space.indexes rules.space.indexes) in
    let count : length (all_of (groups space.indexes)) ≡ length space.indexes = ap length (groups_of space.indexes) in
    let a = ranges_short space.ranges (recursion_from_All IsRange space.ranges rules.space.ranges) in
    let b = groups_short space rules.space (groups space.indexes) are_groups in
    let c = tensors_short space rules.space d.tensors (recursion_from_All (λ (t : Tensor). IsTrue (is_name t.name)) d.tensors is.names) (recursion_from_All (IsTensor space) d.tensors rules.tensors) in
    omega (
      arith,
      text_short (statements d s.result s.indexes s.tree),
      a,
      b,
      c,
      formula_short s is,
      count,
      rules.space.range_limit,
      rules.space.index_limit,
      rules.tensor_limit,
      widths_joined ranges (indexes ++ (tensors ++ last)),
      widths_joined indexes (tensors ++ last),
      widths_joined tensors last,
    )
