-- The statements of a produced text are such as lines can say.
use Rattle.std.proofs.Common.{◌≡◌, ◌≢◌, ℕ, zero, suc, ◌+◌, ◌<◌, ◌≤◌, ◌^◌, true, ◌&&◌, IsTrue, List, [], ◌∷◌, ◌++◌, map, length, get_or, All, refl, sym, ap, subst, ◌∙◌, arith}
use Rattle.std.specs.List.{AllByRecursion, list_all, position_or_len}
use Rattle.std.proofs.lemmas.Bool.{and_parts}
use Rattle.std.proofs.lemmas.List.{length-map, get_or-map}
use Rattle.std.proofs.lemmas.List.Elements.{recursion_from_All}
use Rattle.tce_space.specs.Name.{is_name}
use Rattle.tce_space.specs.Space.{Range, Index, IndexSpace}
use Rattle.tce_tree.specs.ContractionTree as trees
use Rattle.tce_tree.specs.ContractionTree.{ContractionTree, leaf, constant, binary, sum}
use Rattle.tce_grammar.specs.Formula.{operations}
use Rattle.tce_grammar.specs.Grammar.{AreNames, AreSome, Statement}
use Rattle.tce_grammar.specs.Canonical.{IsFormula, IsStatement, AreStatements}
use Rattle.tce_grammar.proofs.CanonicalLines.{all_joined}
use Rattle.tce_spec.specs.Numbers.{value_of, edge_of}
use Rattle.tce_spec.specs.Statements.{Group, groups}
use Rattle.tce_spec.proofs.NumbersBack.{number_is}
use Rattle.tce_spec.proofs.WrittenStatements.{IsGroup, groups_are}
use Rattle.tce_einsum.specs.Text.{Size, Einsum, is_size, is_label, is_number, is_number_if_some, are_labels}
use Rattle.tce_einsum.specs.Entries.{numbered}
use Rattle.tce_einsum.specs.Numbered.{number_of}
use Rattle.tce_einsum.specs.Produced.{Tiled, tiled, is_same, ranges, range_numbers, range_of, label_at, range_name, label_names, range_names, written_edge, range_statement, range_statements, index_of, indexes, index_statement, index_statements, operand_statement, result_statement, tensor_statements, formula_of, formula_statement}
use Rattle.tce_einsum.proofs.NamesWritten.{range_named, operand_named, result_named, letter_named, letters_named}
use Rattle.tce_einsum.proofs.Numbers.{sized_label, no_size}
use Rattle.tce_einsum.proofs.PathTrees.{IsOver}
use Rattle.tce_einsum.proofs.SizeRanges.{IsWritten, ranges_are, edge_written, ranges_few, range_number_within, range_of_size, HasRange}

-- ranges

ranges_written : (r : ℕ) (ts : List Tiled) → r + length ts < 2 ^ 32 → AllByRecursion IsWritten ts → AreStatements (numbered range_statement r ts)
ranges_written r [] few are = tt
ranges_written r (t ∷ ts) few are =
    ((range_named r (omega (arith, few)), are.0.extent, edge_written t.edge are.0.edge), ranges_written (r + 1) ts (omega (arith, few)) are.1)

-- the range that a statement declares
abbrev pub range_from : ℕ → Tiled → Range
range_from r t = record { name = range_name r; extent = value_of t.extent; edge = edge_of (written_edge t.edge) }

abbrev pub declared_ranges : List Size → List Range
declared_ranges ss = numbered range_from 0 (ranges ss)

pub numbered_long : {X Y : Type 0} (f : ℕ → X → Y) (k : ℕ) (xs : List X) → length (numbered f k xs) ≡ length xs
numbered_long f k [] = refl
numbered_long f k (x ∷ xs) = ap suc (numbered_long f (k + 1) xs)

numbered_at : {X Y : Type 0} (f : ℕ → X → Y) (k : ℕ) (xs : List X) (i : ℕ) (d : X) (e : Y) → i < length xs → get_or (numbered f k xs) i e ≡ f (k + i) (get_or xs i d)
numbered_at f k [] i d e inside = absurd (omega (arith, inside))
numbered_at f k (x ∷ xs) zero d e inside = let same : k ≡ k + 0 = omega arith in ap (λ n. f n x) same
numbered_at f k (x ∷ xs) (suc i) d e inside =
    let same : (k + 1) + i ≡ k + suc i = omega arith in
    numbered_at f (k + 1) xs i d e (omega (arith, inside)) ∙ ap (λ n. f n (get_or xs i d)) same

pub numbered_first : {X Y : Type 0} (f : ℕ → X → Y) (xs : List X) (i : ℕ) (d : X) (e : Y) → i < length xs → get_or (numbered f 0 xs) i e ≡ f i (get_or xs i d)
numbered_first f xs i d e inside =
    let same : 0 + i ≡ i = omega arith in
    numbered_at f 0 xs i d e inside ∙ ap (λ n. f n (get_or xs i d)) same

-- indexes

abbrev pub indexed_space : List Size → IndexSpace
indexed_space ss = record { ranges = declared_ranges ss; indexes = indexes ss }

pub no_tiled : Tiled
no_tiled = record { extent = []; edge = [] }

indexes_are : (ss : List Size) → list_all is_size ss ≡ true → All (λ (i : Index). IsTrue (is_name i.name) × (i.of_range < length (declared_ranges ss))) (indexes ss)
indexes_are ss all k d h =
    let inside : k < length ss = omega (arith, h, length-map ss (index_of (ranges ss))) in
    let has : HasRange ss (get_or ss k no_size) no_tiled = range_of_size ss k no_size no_tiled inside in
    subst (λ (i : Index). IsTrue (is_name i.name) × (i.of_range < length (declared_ranges ss))) (sym (get_or-map (index_of (ranges ss)) ss k no_size d inside))
    (letter_named (get_or ss k no_size).label (sized_label ss k no_size all inside), omega (arith, has.below, numbered_long range_from 0 (ranges ss)))

pub index_groups : (ss : List Size) → list_all is_size ss ≡ true → AllByRecursion (IsGroup (indexed_space ss)) (groups (indexes ss))
index_groups ss all =
    groups_are (indexed_space ss) (indexes ss)
    (recursion_from_All (λ (i : Index). IsTrue (is_name i.name) × (i.of_range < length (declared_ranges ss))) (indexes ss) (indexes_are ss all))

groups_written : (ss : List Size) (gs : List Group) → length ss ≤ 26 → AllByRecursion (IsGroup (indexed_space ss)) gs → AreStatements (map index_statement gs)
groups_written ss [] few are = tt
groups_written ss (g ∷ gs) few are =
    ((range_named g.of_range (omega (arith, few, are.0.declared, numbered_long range_from 0 (ranges ss), ranges_few ss)), are.0.some, are.0.named), groups_written ss gs few are.1)

-- tensors

numbers_small : (all ss : List Size) → AllByRecursion (λ n. n ≤ length all) (map (λ (s : Size). position_or_len (is_same (tiled s)) (ranges all)) ss)
numbers_small all [] = tt
numbers_small all (s ∷ ss) = (range_number_within all (tiled s), numbers_small all ss)

number_small : (b : ℕ) (ns : List ℕ) (i : ℕ) → AllByRecursion (λ n. n ≤ b) ns → get_or ns i 0 ≤ b
number_small b [] zero are = omega arith
number_small b [] (suc i) are = omega arith
number_small b (n ∷ ns) zero are = are.0
number_small b (n ∷ ns) (suc i) are = number_small b ns i are.1

ranges_named : (ss : List Size) (labels : List ℕ) → length ss ≤ 26 → AreNames (range_names ss labels)
ranges_named ss [] few = tt
ranges_named ss (l ∷ ls) few =
    let small : range_of ss l ≤ length ss = number_small (length ss) (range_numbers ss) (number_of ss l) (numbers_small ss ss) in
    (range_named (range_of ss l) (omega (arith, small, few)), ranges_named ss ls few)

operands_written : (ss : List Size) (k : ℕ) (os : List (List ℕ)) → length ss ≤ 26 → k + length os < 2 ^ 32 → AreStatements (numbered (operand_statement ss) k os)
operands_written ss k [] few small = tt
operands_written ss k (o ∷ os) few small =
    ((operand_named k (omega (arith, small)), ranges_named ss o few), operands_written ss (k + 1) os few (omega (arith, small)))

abbrev pub front_statements : Einsum → List Statement
front_statements x = range_statements x.sizes ++ (index_statements x.sizes ++ tensor_statements x)

pub ranges_written_of : (ss : List Size) → list_all is_size ss ≡ true → length ss ≤ 26 → AreStatements (range_statements ss)
ranges_written_of ss all few = ranges_written 0 (ranges ss) (omega (arith, few, ranges_few ss)) (ranges_are ss all)

pub indexes_written_of : (ss : List Size) → list_all is_size ss ≡ true → length ss ≤ 26 → AreStatements (index_statements ss)
indexes_written_of ss all few = groups_written ss (groups (indexes ss)) few (index_groups ss all)

pub tensors_written_of : (x : Einsum) → length x.sizes ≤ 26 → length x.operands < 2 ^ 32 → AreStatements (tensor_statements x)
tensors_written_of x few small =
    all_joined IsStatement (numbered (operand_statement x.sizes) 0 x.operands) (result_statement x ∷ [])
    (operands_written x.sizes 0 x.operands few (omega (arith, small)))
    ((result_named, ranges_named x.sizes x.output few), tt)

pub front_written : (x : Einsum) → list_all is_size x.sizes ≡ true → length x.sizes ≤ 26 → length x.operands < 2 ^ 32 → AreStatements (front_statements x)
front_written x all few small =
    all_joined IsStatement (range_statements x.sizes) (index_statements x.sizes ++ tensor_statements x) (ranges_written_of x.sizes all few)
    (all_joined IsStatement (index_statements x.sizes) (tensor_statements x) (indexes_written_of x.sizes all few) (tensors_written_of x few small))

-- the formula

label_letter : (ss : List Size) (i : ℕ) → list_all is_size ss ≡ true → i < length ss → is_label (label_at ss i) ≡ true
label_letter [] i all inside = absurd (omega (arith, inside))
label_letter (s ∷ ss) zero all inside = (and_parts (is_label s.label) (is_number s.extent && is_number_if_some s.edge) (and_parts (is_size s) (list_all is_size ss) all).0).0
label_letter (s ∷ ss) (suc i) all inside = label_letter ss i (and_parts (is_size s) (list_all is_size ss) all).1 (omega (arith, inside))

labels_named : (ss : List Size) (is : List ℕ) → list_all is_size ss ≡ true → AllByRecursion (λ i. i < length ss) is → AreNames (label_names ss is)
labels_named ss [] all below = tt
labels_named ss (i ∷ is) all below = (letter_named (label_at ss i) (label_letter ss i all below.0), labels_named ss is all below.1)

labels_some : (ss : List Size) (is : List ℕ) → is ≢ [] → AreSome (label_names ss is)
labels_some ss [] some = absurd (some refl)
labels_some ss (i ∷ is) some = λ e. cc

tree_written : (ss : List Size) (n : ℕ) (tree : ContractionTree) → list_all is_size ss ≡ true → n < 2 ^ 32 → IsOver n (length ss) tree → IsFormula (formula_of ss tree)
tree_written ss n (leaf k labels) all small over = (operand_named k (omega (arith, small, over.0)), labels_named ss labels all over.1)
tree_written ss n (constant number) all small over = number_is number over
tree_written ss n (binary op left right) all small over = (tree_written ss n left all small over.0, tree_written ss n right all small over.1)
tree_written ss n (sum labels operand) all small over =
    (labels_some ss labels over.0, labels_named ss labels all over.1, tree_written ss n operand all small over.2)

same_count : (ss : List Size) (tree : ContractionTree) → operations (formula_of ss tree) ≡ trees.operations tree
same_count ss (leaf k labels) = refl
same_count ss (constant number) = refl
same_count ss (binary op left right) = λ i. same_count ss left i + same_count ss right i + 1
same_count ss (sum labels operand) = λ i. same_count ss operand i + 1

pub formula_written : (x : Einsum) (tree : ContractionTree) → list_all is_size x.sizes ≡ true → are_labels x.output ≡ true → length x.operands < 2 ^ 32
    → IsOver (length x.operands) (length x.sizes) tree → trees.operations tree ≤ 64 → IsStatement (formula_statement x tree)
formula_written x tree all output small over few = (
  result_named,
  letters_named x.output output,
  tree_written x.sizes (length x.operands) tree all small over,
  omega (arith, few, same_count x.sizes tree),
)
