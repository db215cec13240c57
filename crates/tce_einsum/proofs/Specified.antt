-- What a produced text specifies, by its declarations: the tree of the path, over the labels of the output.
use Rattle.std.proofs.Common.{◌≡◌, ℕ, ◌+◌, ◌<◌, List, [], ◌∷◌, ◌++◌, map, length, get_or, refl, sym, ap, ◌∙◌, arith, length-append}
use Rattle.std.specs.Prelude.{unwrap_or}
use Rattle.std.specs.List.{AllByRecursion}
use Rattle.std.proofs.lemmas.List.{length-map, get_or-map, get_or_append_left}
use Rattle.tce_space.specs.Space.{Index, IndexSpace, index_at, index_number, no_range, no_index, range_at}
use Rattle.tce_tree.specs.ContractionTree.{ContractionTree, leaf, constant, binary, sum}
use Rattle.tce_tree.proofs.Flat.{last_one}
use Rattle.tce_spec.specs.Declarations.{Declarations, IsDeclarations, Tensor, tensor_at, no_tensor}
use Rattle.tce_spec.specs.Numbers.{value_of, edge_of}
use Rattle.tce_spec.specs.Meaning.{meaning, indexes_of, tensor_of}
use Rattle.tce_spec.proofs.SpaceNames.{index_found}
use Rattle.tce_spec.proofs.NumbersBack.{tensor_back, value_back}
use Rattle.tce_spec.proofs.Heads.{with_tensors}
use Rattle.tce_einsum.specs.Text.{Size, Einsum}
use Rattle.tce_einsum.specs.Entries.{numbered}
use Rattle.tce_einsum.specs.Produced.{Tiled, ranges, index_of, label_at, label_names, operand_name, result_name, formula_of, written_edge}
use Rattle.tce_einsum.specs.HasValue.{IsLabel, AreLabels, tensor_names}
use Rattle.tce_einsum.proofs.PathTrees.{IsOver}
use Rattle.tce_einsum.proofs.SizeRanges.{HasRange, range_of_size, edge_read}
use Rattle.tce_einsum.proofs.ProducedStatements.{range_from, indexed_space, numbered_long, numbered_first, no_tiled}
use Rattle.tce_einsum.proofs.Declared.{operand_from, result_from, declared_tensors}
use Rattle.tce_einsum.proofs.LabelNumbers.{label_is}
use Rattle.tce_einsum.proofs.Numbers.{no_size}

abbrev pub declarations_of : Einsum → Declarations
declarations_of x = with_tensors (indexed_space x.sizes) (declared_tensors (indexed_space x.sizes) x)

-- the labels

index_is : (ss : List Size) (i : ℕ) (d : Size) → i < length ss → index_at (indexed_space ss) i ≡ index_of (ranges ss) (get_or ss i d)
index_is ss i d inside = get_or-map (index_of (ranges ss)) ss i d no_index inside

label_of : (ss : List Size) (i : ℕ) (d : Size) → i < length ss → IsLabel (indexed_space ss) i (get_or ss i d)
label_of ss i d inside =
    let s : Size = get_or ss i d in
    let has : HasRange ss s no_tiled = range_of_size ss i d no_tiled inside in
    let r : ℕ = (index_of (ranges ss) s).of_range in
    let t : Tiled = get_or (ranges ss) r no_tiled in
    let at : range_at (indexed_space ss) r ≡ range_from r t = numbered_first range_from (ranges ss) r no_tiled no_range has.below in
    record {
      name = ap (λ (j : Index). j.name) (index_is ss i d inside);
      extent = ap (λ (j : Index). (range_at (indexed_space ss) j.of_range).extent) (index_is ss i d inside) ∙ ap (λ q. q.extent) at ∙ ap value_of has.extent;
      edge =
          ap (λ (j : Index). (range_at (indexed_space ss) j.of_range).edge) (index_is ss i d inside)
          ∙ ap (λ q. q.edge) at
          ∙ ap (λ (e : List ℕ). edge_of (written_edge e)) has.edge
          ∙ edge_read s.edge;
    }

pub labels_of : (ss : List Size) → AreLabels (indexed_space ss) ss
labels_of ss = record { count = length-map ss (index_of (ranges ss)); each = label_of ss }

pub indexes_back : (x : Einsum) → IsDeclarations (declarations_of x) → (is : List ℕ) → AllByRecursion (λ i. i < length x.sizes) is
    → indexes_of (indexed_space x.sizes) (label_names x.sizes is) ≡ is
indexes_back x rules [] below = refl
indexes_back x rules (i ∷ is) below =
    let space : IndexSpace = indexed_space x.sizes in
    let name : (index_at space i).name ≡ label_at x.sizes i ∷ [] =
    ap (λ (j : Index). j.name) (index_is x.sizes i no_size below.0) ∙ ap (λ (l : ℕ). l ∷ []) (sym (label_is x.sizes i no_size below.0)) in
    let declared : i < length space.indexes = omega (arith, below.0, length-map x.sizes (index_of (ranges x.sizes))) in
    let here : unwrap_or (index_number space (label_at x.sizes i ∷ [])) 0 ≡ i =
    ap (λ (n : List ℕ). unwrap_or (index_number space n) 0) (sym name) ∙ ap (λ o. unwrap_or o 0) (index_found space rules.space i declared) in
    λ j. here j ∷ indexes_back x rules is below.1 j

-- the tensors

operands_long : (x : Einsum) → length (numbered (operand_from (indexed_space x.sizes) x.sizes) 0 x.operands) ≡ length x.operands
operands_long x = numbered_long (operand_from (indexed_space x.sizes) x.sizes) 0 x.operands

pub tensors_long : (x : Einsum) → length (declarations_of x).tensors ≡ length x.operands + 1
tensors_long x =
    let space : IndexSpace = indexed_space x.sizes in
    omega (arith, operands_long x, length-append (numbered (operand_from space x.sizes) 0 x.operands) (result_from space x ∷ []))

operand_is : (x : Einsum) (k : ℕ) → k < length x.operands → (tensor_at (declarations_of x) k).name ≡ operand_name k
operand_is x k below =
    let space : IndexSpace = indexed_space x.sizes in
    let operands : List Tensor = numbered (operand_from space x.sizes) 0 x.operands in
    ap (λ (t : Tensor). t.name) (get_or_append_left operands (result_from space x ∷ []) no_tensor k (omega (arith, below, operands_long x)))
    ∙ ap (λ (t : Tensor). t.name) (numbered_first (operand_from space x.sizes) x.operands k [] no_tensor below)

operand_back : (x : Einsum) → IsDeclarations (declarations_of x) → (k : ℕ) → k < length x.operands → tensor_of (declarations_of x) (operand_name k) ≡ k
operand_back x rules k below =
    let d : Declarations = declarations_of x in
    ap (tensor_of d) (sym (operand_is x k below)) ∙ tensor_back d rules k (omega (arith, below, tensors_long x))

pub result_back : (x : Einsum) → IsDeclarations (declarations_of x) → tensor_of (declarations_of x) result_name ≡ length x.operands
result_back x rules =
    let d : Declarations = declarations_of x in
    let space : IndexSpace = indexed_space x.sizes in
    let n : ℕ = length x.operands in
    let last : tensor_at d n ≡ result_from space x = last_one (numbered (operand_from space x.sizes) 0 x.operands) (result_from space x) no_tensor n (sym (operands_long x)) in
    ap (tensor_of d) (sym (ap (λ (t : Tensor). t.name) last)) ∙ tensor_back d rules n (omega (arith, tensors_long x))

pub names_of_tensors : (x : Einsum) → map (λ (t : Tensor). t.name) (declarations_of x).tensors ≡ tensor_names x
names_of_tensors x = names 0 x.operands
  where
    names : (k : ℕ) (os : List (List ℕ))
        → map (λ (t : Tensor). t.name) (numbered (operand_from (indexed_space x.sizes) x.sizes) k os ++ result_from (indexed_space x.sizes) x ∷ [])
        ≡ numbered (λ k labels. operand_name k) k os ++ result_name ∷ []
    names k [] = refl
    names k (o ∷ os) = ap (λ (ns : List (List ℕ)). operand_name k ∷ ns) (names (k + 1) os)

-- the tree

pub meaning_back : (x : Einsum) → IsDeclarations (declarations_of x) → (tree : ContractionTree) → IsOver (length x.operands) (length x.sizes) tree
    → meaning (declarations_of x) (formula_of x.sizes tree) ≡ tree
meaning_back x rules (leaf k labels) over =
    let tensor = operand_back x rules k over.0 in
    let indexes = indexes_back x rules labels over.1 in
    λ i. leaf (tensor i) (indexes i)
meaning_back x rules (constant number) over = ap constant (value_back number over)
meaning_back x rules (binary op left right) over =
    let first_one = meaning_back x rules left over.0 in
    let second_one = meaning_back x rules right over.1 in
    λ i. binary op (first_one i) (second_one i)
meaning_back x rules (sum labels operand) over =
    let indexes = indexes_back x rules labels over.1 in
    let inner = meaning_back x rules operand over.2 in
    λ i. sum (indexes i) (inner i)
