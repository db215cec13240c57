-- The tensors of a piece: their shapes are within the limits, and their names differ.
use Rattle.std.proofs.Common.{◌≡◌, ◌⊎◌, ℕ, ◌+◌, ◌-◌, ◌<◌, ◌≤◌, ◌^◌, true, false, ◌&&◌, List, [], ◌∷◌, ◌++◌, length, map, get_or, eqb, eq-eqb, ltb, leb, leb-true, ltb-true, lt-ltb, refl, sym, ap, ◌∙◌, inl, inr, arith, length-append}
use Rattle.std.specs.Prelude.{codes}
use Rattle.std.specs.Fmt.{decimal}
use Rattle.std.specs.List.{list_all, IsDistinct, AllByRecursion}
use Rattle.std.specs.Str.{bytes_eq}
use Rattle.std.proofs.lemmas.Bool.{cases_Bool, cases_eq, cases_lt, and_parts, false≢true}
use Rattle.std.proofs.lemmas.Fmt.{decimal_injective, length-decimal-le}
use Rattle.std.proofs.lemmas.List.{append_cancel_left, length-map, get_or-map}
use Rattle.std.proofs.lemmas.List.Elements.{All-from_recursion}
use Rattle.std.proofs.lemmas.Map.Keys.{apart_from_distinct}
use Rattle.std.proofs.lemmas.Slice.Eq.{bytes_eq-Decides}
use Rattle.tce_space.specs.IndexSet.{members}
use Rattle.tce_space.specs.Space.{IndexSpace, IsSpace, index_at, no_index}
use Rattle.tce_space.specs.Tiling.{tile_words, padded_words}
use Rattle.tce_fields.specs.Fields.{lacks}
use Rattle.tce_fields.proofs.Listing.{name_lacks}
use Rattle.tce_tree.specs.ContractionTree.{ContractionTree, dims, operations, node, node_dims}
use Rattle.tce_tree.specs.WellFormed.{indexes_below}
use Rattle.tce_tree.proofs.Lists.{all-among}
use Rattle.tce_tree.proofs.Members.{dims_lt}
use Rattle.tce_tree.proofs.NamedIndexes.{dims_below, indexes_below-node, all_below}
use Rattle.tce_spec.specs.Declarations.{Declarations, Tensor, IsTensor, IsDeclarations, HaveNames, tensor_at, no_tensor}
use Rattle.tce_spec.specs.Pieces.{stored}
use Rattle.tce_spec.specs.Storable.{ranges_of_node, shape_of_node, has_room, storable}
use Rattle.tce_spec.proofs.CutPlaces.{member_is}
use Rattle.tce_spec.specs.Specification.{Specification}
use Rattle.tce_spec.specs.PieceSpecification.{array_of, source}
use Rattle.tce_spec.proofs.PieceSources.{source_stored, source_declared}

-- a declared tensor, or the array of a node
abbrev pub IsTensorOrArray : Specification → ℕ → Type 0
IsTensorOrArray s t = (t < length s.declarations.tensors) ⊎ ((32 ≤ t) × (t - 32 < 32))

-- a declared name has no hyphen, and that of an array has one
array_has : (v : ℕ) → lacks 45 (codes "spill-" ++ decimal v) ≡ false
array_has v = refl

declared_lacks : (s : Specification) (t : ℕ) → length s.declarations.tensors ≤ 32 → HaveNames s.declarations.tensors → t < length s.declarations.tensors → lacks 45 (source s t).name ≡ true
declared_lacks s t few named inside =
    ap (λ (x : Tensor). lacks 45 x.name) (source_declared s t (omega (arith, inside, few))) ∙ name_lacks 45 (tensor_at s.declarations t).name refl (named t no_tensor inside)

array_lacks : (s : Specification) (t : ℕ) → 32 ≤ t → lacks 45 (source s t).name ≡ false
array_lacks s t high =
    let number : t ≡ stored (t - 32) = omega arith in
    ap (λ (x : Tensor). lacks 45 x.name) (ap (source s) number ∙ source_stored s (t - 32)) ∙ array_has (t - 32)

array_name : (s : Specification) (t : ℕ) → 32 ≤ t → (source s t).name ≡ codes "spill-" ++ decimal (t - 32)
array_name s t high = let number : t ≡ stored (t - 32) = omega arith in ap (λ (x : Tensor). x.name) (ap (source s) number ∙ source_stored s (t - 32))

-- tensors at different places have different names
declared_apart : (d : Declarations) (t u : ℕ) → IsDeclarations d → t < u → u < length d.tensors → (tensor_at d t).name ≡ (tensor_at d u).name → ⊥
declared_apart d t u rules less inside same =
    let names : List (List ℕ) = map (λ (x : Tensor). x.name) d.tensors in
    let count : length names ≡ length d.tensors = length-map d.tensors (λ (x : Tensor). x.name) in
    let apart : bytes_eq (get_or names t []) (get_or names u []) ≡ false = apart_from_distinct bytes_eq names t u [] rules.tensor_names less (omega (arith, inside, count)) in
    let at_t : get_or names t [] ≡ (tensor_at d t).name = get_or-map (λ (x : Tensor). x.name) d.tensors t no_tensor [] (omega arith) in
    let at_u : get_or names u [] ≡ (tensor_at d u).name = get_or-map (λ (x : Tensor). x.name) d.tensors u no_tensor [] inside in
    false≢true (sym apart ∙ (bytes_eq-Decides (get_or names t []) (get_or names u [])).1 (at_t ∙ same ∙ sym at_u))

pub names_apart : (s : Specification) (t u : ℕ) → IsDeclarations s.declarations → HaveNames s.declarations.tensors → IsTensorOrArray s t → IsTensorOrArray s u
    → (source s t).name ≡ (source s u).name → t ≡ u
names_apart s t u rules named (inl a) (inl b) same =
    let here : (tensor_at s.declarations t).name ≡ (tensor_at s.declarations u).name =
    ap (λ (x : Tensor). x.name) (sym (source_declared s t (omega (arith, a, rules.tensor_limit)))) ∙ same ∙ ap (λ (x : Tensor). x.name) (source_declared s u (omega (arith, b, rules.tensor_limit))) in
    elim (cases_eq t u) [
      | inl q ↦ q
      | inr q ↦ elim (cases_lt t u) [
        | inl l ↦ absurd (declared_apart s.declarations t u rules l b here)
        | inr l ↦ absurd (declared_apart s.declarations u t rules (omega (arith, l, q)) a (sym here))
      ]
    ]
names_apart s t u rules named (inl a) (inr b) same =
    absurd (false≢true (sym (array_lacks s u b.0) ∙ ap (lacks 45) (sym same) ∙ declared_lacks s t rules.tensor_limit named a))
names_apart s t u rules named (inr a) (inl b) same =
    absurd (false≢true (sym (array_lacks s t a.0) ∙ ap (lacks 45) same ∙ declared_lacks s u rules.tensor_limit named b))
names_apart s t u rules named (inr a) (inr b) same =
    let digits : decimal (t - 32) ≡ decimal (u - 32) =
    append_cancel_left (codes "spill-") (decimal (t - 32)) (decimal (u - 32)) (sym (array_name s t a.0) ∙ same ∙ array_name s u b.0) in
    let number = decimal_injective (t - 32) (u - 32) (omega (arith, a.1)) (omega (arith, b.1)) digits in
    omega (arith, a.0, b.0, number)

-- different numbers have different names
no_name : (s : Specification) (t : ℕ) (us : List ℕ) → IsDeclarations s.declarations → HaveNames s.declarations.tensors → IsTensorOrArray s t → AllByRecursion (IsTensorOrArray s) us
    → AllByRecursion (λ u. eqb t u ≡ false) us → AllByRecursion (λ n. bytes_eq (source s t).name n ≡ false) (map (λ u. (source s u).name) us)
no_name s t [] rules named is each apart = tt
no_name s t (u ∷ us) rules named is each apart = (
  elim (cases_Bool (bytes_eq (source s t).name (source s u).name)) [
    | inl same ↦ absurd (false≢true (sym apart.0 ∙ eq-eqb t u (names_apart s t u rules named is each.0 ((bytes_eq-Decides (source s t).name (source s u).name).0 same))))
    | inr other ↦ other
  ],
  no_name s t us rules named is each.1 apart.1,
)

pub distinct_names : (s : Specification) (us : List ℕ) → IsDeclarations s.declarations → HaveNames s.declarations.tensors → AllByRecursion (IsTensorOrArray s) us → IsDistinct eqb us
    → IsDistinct bytes_eq (map (λ u. (source s u).name) us)
unfolding IsDistinct
distinct_names s [] rules named each once = tt
distinct_names s (u ∷ us) rules named each once = (no_name s u us rules named each.0 each.1 once.0, distinct_names s us rules named each.1 once.1)

-- ---- shapes

ranges_declared : (space : IndexSpace) (is : List ℕ) → IsSpace space → list_all (λ i. ltb i (length space.indexes)) is ≡ true
    → AllByRecursion (λ r. r < length space.ranges) (map (λ i. (index_at space i).of_range) is)
ranges_declared space [] rules h = tt
ranges_declared space (i ∷ is) rules h =
    let both = and_parts (ltb i (length space.indexes)) (list_all (λ j. ltb j (length space.indexes)) is) h in
    ((rules.indexes i no_index (ltb-true i (length space.indexes) both.0)).1, ranges_declared space is rules both.1)

-- what a storable node has
pub record IsStored (space : IndexSpace) (tree : ContractionTree) (v : ℕ) : Type 0 where
  pub below : v + 1 < operations tree
  pub rank : length (members (node_dims tree v)) ≤ 8
  pub tile_room : tile_words (shape_of_node space tree v) ≤ 2 ^ 20
  pub room : padded_words (shape_of_node space tree v) ≤ 2 ^ 48

pub storable_has : (space : IndexSpace) (tree : ContractionTree) (v : ℕ) → storable space tree v ≡ true → IsStored space tree v
storable_has space tree v h =
    let one = and_parts (ltb (v + 1) (operations tree)) (leb (length (members (node_dims tree v))) 8 && has_room (shape_of_node space tree v)) h in
    let two = and_parts (leb (length (members (node_dims tree v))) 8) (has_room (shape_of_node space tree v)) one.1 in
    let three = and_parts (leb (tile_words (shape_of_node space tree v)) (2 ^ 20)) (leb (padded_words (shape_of_node space tree v)) (2 ^ 48)) two.1 in
    record {
      below = ltb-true (v + 1) (operations tree) one.0;
      rank = leb-true (length (members (node_dims tree v))) 8 two.0;
      tile_room = leb-true (tile_words (shape_of_node space tree v)) (2 ^ 20) three.0;
      room = leb-true (padded_words (shape_of_node space tree v)) (2 ^ 48) three.1;
    }

members_declared : (n : ℕ) (c : ContractionTree) → n ≤ 24 → indexes_below n c ≡ true → list_all (λ i. ltb i n) (members (dims c)) ≡ true
members_declared n c few named = all-among (λ i. ltb i n) (members (dims c)) (λ i m. lt-ltb i n (dims_below n c i few named (member_is (dims c) i (dims_lt c) m)))

pub array_is_tensor : (s : Specification) (v : ℕ) → IsSpace s.declarations.space → indexes_below (length s.declarations.space.indexes) s.tree ≡ true → operations s.tree ≤ 32
    → IsStored s.declarations.space s.tree v → IsTensor s.declarations.space (array_of s v)
unfolding node_dims
array_is_tensor s v rules named nodes is =
    let ranges : List ℕ = ranges_of_node s.declarations.space s.tree v in
    let digits : length (decimal v) ≤ 2 = length-decimal-le 2 v (omega arith) (omega (arith, is.below, nodes)) (omega (arith, is.below, nodes)) in
    let count = length-map (members (node_dims s.tree v)) (λ i. (index_at s.declarations.space i).of_range) in
    record {
      short = omega (arith, length-append (codes "spill-") (decimal v), digits);
      rank = omega (arith, is.rank, count);
      declared = All-from_recursion (λ r. r < length s.declarations.space.ranges) ranges
          (ranges_declared s.declarations.space (members (node_dims s.tree v)) rules
          (members_declared (length s.declarations.space.indexes) (node s.tree v) rules.index_limit (indexes_below-node (length s.declarations.space.indexes) s.tree v (omega (arith, is.below)) named)));
      tile_room = is.tile_room;
      room = is.room;
    }

pub index_declared : (space : IndexSpace) (tree : ContractionTree) (v k : ℕ) (xs : List ℕ) → length space.indexes ≤ 24 → indexes_below (length space.indexes) tree ≡ true → v < operations tree
    → xs ≡ members (node_dims tree v) → k < length xs → get_or xs k 0 < length space.indexes
unfolding node_dims
index_declared space tree v k xs few named inside is low =
    all_below (length space.indexes) xs
    (ap (list_all (λ i. ltb i (length space.indexes))) is ∙ members_declared (length space.indexes) (node tree v) few (indexes_below-node (length space.indexes) tree v inside named)) k 0 low
