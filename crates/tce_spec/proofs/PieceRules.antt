-- The specification of a piece keeps the rules of specifications.
use Rattle.std.proofs.Common.{◌≡◌, ℕ, ◌+◌, ◌-◌, ◌<◌, ◌≤◌, true, false, cond, List, [], ◌∷◌, ◌++◌, length, map, eqb, eq-eqb, ne_eqb, eqb-true, nat_lt, lt-ltb, None, refl, sym, ap, ◌∙◌, subst, inl, inr, arith}
use Rattle.std.specs.List.{list_all, AllByRecursion}
use Rattle.std.proofs.lemmas.Bool.{cases_eq, or_cases, false≢true}
use Rattle.std.proofs.lemmas.List.{length_push, map-append}
use Rattle.std.proofs.lemmas.Map.Keys.{IsDistinct-push}
use Rattle.tce_space.specs.IndexSet.{members, count, set_of}
use Rattle.tce_space.specs.Space.{index_at}
use Rattle.tce_space.proofs.Members.{set_of_members}
use Rattle.tce_tree.specs.ContractionTree.{ContractionTree, dims, operations, node, node_dims}
use Rattle.tce_tree.specs.FlatTree.{first_number_of}
use Rattle.tce_tree.specs.WellFormed.{is_distinct, sums_distinct, IsDeclaredTree}
use Rattle.tce_tree.specs.Faults.{fault_of}
use Rattle.tce_tree.specs.Measure.{IsMeasured}
use Rattle.tce_tree.proofs.Members.{dims_lt}
use Rattle.tce_tree.proofs.Nodes.{node-root, size_bounds}
use Rattle.tce_tree.proofs.Operands.{stands-node}
use Rattle.tce_tree.proofs.Permutations.{distinct-members}
use Rattle.tce_spec.specs.Declarations.{Tensor, IsTensor, IsDeclarations, HaveNames, tensor_at, no_tensor}
use Rattle.tce_spec.specs.Contraction.{LeavesFit, IsContraction}
use Rattle.tce_spec.specs.Pieces.{Cuts, stored, except, piece}
use Rattle.tce_spec.specs.Storable.{storable}
use Rattle.tce_spec.proofs.CutRest.{dims_rest}
use Rattle.tce_spec.specs.Specification.{Specification, IsSpecification, ConstantsAreWords}
use Rattle.tce_spec.specs.Operands.{references}
use Rattle.tce_spec.specs.PieceSpecification.{CanCut, array_of, source, sources, target, target_indexes, place_in, piece_of}
use Rattle.tce_spec.specs.PieceCode.{IsSource, CanDeclare, target_number}
use Rattle.tce_spec.proofs.Seen.{eqb_laws}
use Rattle.tce_spec.proofs.PieceTrees.{PartsKept, parts_from, parts_kept, parts_node, parts_rest, parts_renumbered, dims_renumbered, operations_renumbered, operations_rest}
use Rattle.tce_spec.proofs.PieceSources.{fits_node, absent_node, each_declared, own_last, each_append, each_of_once, once_has, references_are, LeavesAre, LeafIsRead, IsRead, leaves_read, leaves_fit_own, own_count, result_apart, source_stored, source_declared}
use Rattle.tce_spec.proofs.PieceCounts.{distinct_once, none_has, few_sources, weaker, IsOther}
use Rattle.tce_spec.proofs.PieceNames.{IsTensorOrArray, distinct_names, IsStored, storable_has, array_is_tensor}

-- what is assumed of a piece
pub record IsPiece (s : Specification) (cut : Cuts) (v : ℕ) : Type 0 where
  pub rules : IsSpecification s
  pub names : HaveNames s.declarations.tensors
  pub few : length s.declarations.tensors ≤ 31
  pub can : CanCut s cut v

each_below : (n : ℕ) (xs : List ℕ) → AllByRecursion (λ t. t < n) xs → list_all (λ t. nat_lt t n) xs ≡ true
each_below n [] a = refl
each_below n (x ∷ xs) a = rw (lt-ltb x n a.0, each_below n xs a.1) refl

module _ (s : Specification) (cut : Cuts) (v : ℕ) (is : IsPiece s cut v) where
  abbrev rest : ContractionTree
  rest = piece s.tree cut v

  abbrev us : List ℕ
  us = sources s cut v

  stored_is : (u : ℕ) → cut u ≡ true → IsStored s.declarations.space s.tree u
  stored_is u t = storable_has s.declarations.space s.tree u (is.can.allowed u t)

  fits : LeavesFit s.declarations (node s.tree v)
  fits = fits_node s.declarations s.tree v is.can.inside is.rules.contraction.leaves_fit

  -- what is read
  leaves : LeavesAre (LeafIsRead s cut v) rest
  unfolding piece
  leaves =
      leaves_read s cut v (first_number_of s.tree v) (node s.tree v) (omega (arith, is.few)) (stands-node s.tree v is.can.inside) fits
      (absent_node s.result s.tree v is.can.inside is.rules.contraction.no_operand)

  read : AllByRecursion (IsRead s cut v) us
  read = each_of_once (IsRead s cut v) (references rest) (references_are (LeafIsRead s cut v) (IsRead s cut v) (λ t indexes h. h.read) rest leaves)

  other : (t : ℕ) → IsRead s cut v t → IsOther (length s.declarations.tensors) s.result t
  other t (inl a) low = a
  other t (inr b) low = absurd (omega (arith, b.0, low))

  pub few_read : length us ≤ 31
  unfolding piece
  few_read =
      few_sources (except cut v) (first_number_of s.tree v) (length s.declarations.tensors) s.result (node s.tree v) is.few is.rules.contraction.result_fits.declared
      (omega (arith, size_of_node, is.rules.few)) (weaker _ _ (λ t h. omega (arith, h, is.few)) (references (node s.tree v)) (each_declared s.declarations (node s.tree v) fits))
      (weaker (IsRead s cut v) (IsOther (length s.declarations.tensors) s.result) other us read)
    where
      size_of_node : operations (node s.tree v) ≤ operations s.tree
      size_of_node = let sizes = size_bounds s.tree v is.can.inside in omega (arith, sizes, is.can.inside)

  from_read : (t : ℕ) → IsRead s cut v t → IsSource s t
  unfolding count
  from_read t (inl a) = inl a.0
  from_read t (inr b) = inr (b.0, (b.1.0, (stored_is (t - 32) b.1.1.0).rank))

  either : (t : ℕ) → IsRead s cut v t → IsTensorOrArray s t
  either t (inl a) = inl a.0
  either t (inr b) = inr (b.0, omega (arith, b.1.0, is.rules.few))

  own_tensor : (t : ℕ) → t < length s.declarations.tensors → IsTensor s.declarations.space (source s t)
  own_tensor t h = subst (IsTensor s.declarations.space) (sym (source_declared s t (omega (arith, h, is.few)))) (is.rules.declarations.tensors t no_tensor h)

  own_array : (u : ℕ) → cut u ≡ true → IsTensor s.declarations.space (array_of s u)
  own_array u t = array_is_tensor s u is.rules.declarations.space is.rules.contraction.declared is.rules.few (stored_is u t)

  is_tensor : (t : ℕ) → IsRead s cut v t → IsTensor s.declarations.space (source s t)
  is_tensor t (inl a) = own_tensor t a.0
  is_tensor t (inr b) =
      let number : t ≡ stored (t - 32) = omega (arith, b.0) in
      subst (IsTensor s.declarations.space) (sym (ap (source s) number ∙ source_stored s (t - 32))) (own_array (t - 32) b.1.1.0)

  -- ---- what is computed

  record TargetIs : Type 0 where
    is_source : source s (target_number s v) ≡ target s v
    known : IsSource s (target_number s v)
    one_of : IsTensorOrArray s (target_number s v)
    tensor : IsTensor s.declarations.space (source s (target_number s v))
    new : AllByRecursion (λ u. target_number s v ≡ u → ⊥) us
    fits_indexes : map (λ i. (index_at s.declarations.space i).of_range) (target_indexes s v) ≡ (target s v).ranges
    once : is_distinct (target_indexes s v) ≡ true
    same_indexes : set_of (target_indexes s v) ≡ dims (node s.tree v)

  not_result : (t : ℕ) → IsRead s cut v t → s.result ≡ t → ⊥
  not_result t (inl a) q = a.1 (sym q)
  not_result t (inr b) q = omega (arith, b.0, q, is.rules.contraction.result_fits.declared, is.few)

  not_stored : (t : ℕ) → IsRead s cut v t → stored v ≡ t → ⊥
  not_stored t (inl a) q = omega (arith, a.0, q, is.few)
  not_stored t (inr b) q = b.1.1.1 (omega (arith, q))

  at_root : v + 1 ≡ operations s.tree → TargetIs
  unfolding node_dims
  at_root q =
      let test : eqb (v + 1) (operations s.tree) ≡ true = eq-eqb (v + 1) (operations s.tree) q in
      let number : target_number s v ≡ s.result = ap (λ b. cond b s.result (stored v)) test in
      let computed : target s v ≡ tensor_at s.declarations s.result = ap (λ b. cond b (tensor_at s.declarations s.result) (array_of s v)) test in
      let listed : target_indexes s v ≡ s.indexes = ap (λ b. cond b s.indexes (members (node_dims s.tree v))) test in
      let declared = is.rules.contraction.result_fits in
      record {
        is_source = ap (source s) number ∙ source_declared s s.result (omega (arith, declared.declared, is.few)) ∙ sym computed;
        known = subst (IsSource s) (sym number) (inl declared.declared);
        one_of = subst (IsTensorOrArray s) (sym number) (inl declared.declared);
        tensor = subst (λ t. IsTensor s.declarations.space (source s t)) (sym number) (own_tensor s.result declared.declared);
        new = subst (λ t. AllByRecursion (λ u. t ≡ u → ⊥) us) (sym number) (weaker (IsRead s cut v) (λ u. s.result ≡ u → ⊥) not_result us read);
        fits_indexes = ap (map (λ i. (index_at s.declarations.space i).of_range)) listed ∙ declared.ranges ∙ ap (λ (x : Tensor). x.ranges) (sym computed);
        once = ap is_distinct listed ∙ is.rules.contraction.once;
        same_indexes = ap set_of listed ∙ is.rules.contraction.same_indexes ∙ ap dims (sym (node-root s.tree v (omega (arith, q))));
      }

  at_cut : (v + 1 ≡ operations s.tree → ⊥) → TargetIs
  unfolding node_dims count
  at_cut q =
      let test : eqb (v + 1) (operations s.tree) ≡ false = ne_eqb (v + 1) (operations s.tree) q in
      let number : target_number s v ≡ stored v = ap (λ b. cond b s.result (stored v)) test in
      let computed : target s v ≡ array_of s v = ap (λ b. cond b (tensor_at s.declarations s.result) (array_of s v)) test in
      let listed : target_indexes s v ≡ members (node_dims s.tree v) = ap (λ b. cond b s.indexes (members (node_dims s.tree v))) test in
      let is_cut : cut v ≡ true = elim (or_cases (cut v) (eqb (v + 1) (operations s.tree)) is.can.root) [ inl t ↦ t | inr t ↦ absurd (false≢true (sym test ∙ t)) ] in
      let back : stored v - 32 ≡ v = omega arith in
      record {
        is_source = ap (source s) number ∙ source_stored s v ∙ sym computed;
        known = subst (IsSource s) (sym number) (inr (omega arith, (omega (arith, is.can.inside), subst (λ u. count (node_dims s.tree u) ≤ 8) (sym back) (stored_is v is_cut).rank)));
        one_of = subst (IsTensorOrArray s) (sym number) (inr (omega arith, omega (arith, is.can.inside, is.rules.few)));
        tensor = subst (λ t. IsTensor s.declarations.space (source s t)) (sym number) (subst (IsTensor s.declarations.space) (sym (source_stored s v)) (own_array v is_cut));
        new = subst (λ t. AllByRecursion (λ u. t ≡ u → ⊥) us) (sym number) (weaker (IsRead s cut v) (λ u. stored v ≡ u → ⊥) not_stored us read);
        fits_indexes = ap (map (λ i. (index_at s.declarations.space i).of_range)) listed ∙ ap (λ (x : Tensor). x.ranges) (sym computed);
        once = ap is_distinct listed ∙ distinct-members (node_dims s.tree v);
        same_indexes = ap set_of listed ∙ set_of_members (dims (node s.tree v)) (dims_lt (node s.tree v));
      }

  target_is : TargetIs
  target_is = elim (cases_eq (v + 1) (operations s.tree)) [ inl q ↦ at_root q | inr q ↦ at_cut q ]

  abbrev pub numbers : List ℕ
  numbers = us ++ target_number s v ∷ []

  pub can_declare : CanDeclare s numbers
  can_declare = record {
    few = omega (arith, length_push us (target_number s v), few_read);
    sources = each_append (IsSource s) us (target_number s v ∷ []) (weaker (IsRead s cut v) (IsSource s) from_read us read) (target_is.known, tt);
    tensors = each_append (λ t. IsTensor s.declarations.space (source s t)) us (target_number s v ∷ [])
        (weaker (IsRead s cut v) (λ t. IsTensor s.declarations.space (source s t)) is_tensor us read) (target_is.tensor, tt);
    names = distinct_names s numbers is.rules.declarations is.names
        (each_append (IsTensorOrArray s) us (target_number s v ∷ []) (weaker (IsRead s cut v) (IsTensorOrArray s) either us read) (target_is.one_of, tt))
        (IsDistinct-push eqb_laws us (target_number s v) (distinct_once (references rest)) (none_has us (target_number s v) target_is.new));
  }

  pub declared_are : map (source s) numbers ≡ (piece_of s cut v).declarations.tensors
  declared_are = map-append (source s) us (target_number s v ∷ []) ∙ ap (λ t. map (source s) us ++ t ∷ []) target_is.is_source

  -- ---- the tree

  kept : PartsKept (length s.declarations.space.indexes) (piece_of s cut v).tree
  unfolding piece
  kept =
      let n : ℕ = length s.declarations.space.indexes in
      parts_kept n (piece_of s cut v).tree (parts_renumbered n (place_in us) rest (parts_rest n (except cut v) (first_number_of s.tree v) (node s.tree v) is.rules.declarations.space.index_limit
      (parts_node n s.tree v is.can.inside (parts_from n s.tree is.rules.contraction.declared is.rules.distinct is.rules.contraction.sums_some is.rules.constants))))

  same_dims : dims (piece_of s cut v).tree ≡ dims (node s.tree v)
  unfolding piece
  same_dims = dims_renumbered (place_in us) rest ∙ dims_rest (except cut v) (node s.tree v) (first_number_of s.tree v)

  pub few_nodes : operations (piece_of s cut v).tree ≤ 32
  unfolding piece
  few_nodes =
      let sizes = size_bounds s.tree v is.can.inside in
      omega (arith, operations_renumbered (place_in us) rest, operations_rest (except cut v) (first_number_of s.tree v) (node s.tree v), sizes, is.rules.few, is.can.inside)

  pub is_declared : IsDeclaredTree s.declarations.space (piece_of s cut v).tree
  is_declared = kept.below

  pub sums_once : sums_distinct (piece_of s cut v).tree ≡ true
  sums_once = kept.distinct

  pub words : ConstantsAreWords (piece_of s cut v).tree
  words = kept.words

  -- numbers of tensors and arrays
  pub read_below : list_all (λ t. nat_lt t 64) (references rest) ≡ true
  read_below = each_below 64 (references rest) (references_are (LeafIsRead s cut v) (λ t. t < 64) (λ t indexes h. below t h.read) rest leaves)
    where
      below : (t : ℕ) → IsRead s cut v t → t < 64
      below t (inl a) = omega (arith, a.0, is.few)
      below t (inr b) = omega (arith, b.0, b.1.0, is.rules.few)

  pub is_contraction : IsContraction (piece_of s cut v).declarations (piece_of s cut v).result (piece_of s cut v).indexes (piece_of s cut v).tree
  is_contraction =
      let among = once_has (references rest) in
      record {
        result_fits = record {
          declared = omega (arith, own_count s us (target s v));
          ranges = target_is.fits_indexes ∙ sym (ap (λ (x : Tensor). x.ranges) (own_last s us (target s v)));
        };
        leaves_fit = leaves_fit_own s cut v us (target s v) rest leaves among;
        declared = kept.below;
        sums_some = kept.some;
        once = target_is.once;
        same_indexes = target_is.same_indexes ∙ sym same_dims;
        no_operand = result_apart us rest among;
      }

  pub piece_keeps : IsDeclarations (piece_of s cut v).declarations → fault_of s.declarations.space (piece_of s cut v).tree ≡ None → IsMeasured s.declarations.space (piece_of s cut v).tree
      → IsSpecification (piece_of s cut v)
  piece_keeps declarations faultless measured = record {
    declarations = declarations;
    contraction = is_contraction;
    few = few_nodes;
    distinct = kept.distinct;
    faultless = faultless;
    measured = measured;
    constants = kept.words;
  }

-- a cut node has at most eight dims
pub cut_rank : (s : Specification) (cut : Cuts) (u : ℕ) → ((w : ℕ) → cut w ≡ true → storable s.declarations.space s.tree w ≡ true) → cut u ≡ true → count (node_dims s.tree u) ≤ 8
unfolding count
cut_rank s cut u allowed t = (storable_has s.declarations.space s.tree u (allowed u t)).rank

pub root_rank : (s : Specification) (cut : Cuts) (v : ℕ) → CanCut s cut v → (v + 1 ≡ operations s.tree → ⊥) → count (node_dims s.tree v) ≤ 8
root_rank s cut v can q =
    cut_rank s cut v can.allowed
    (elim (or_cases (cut v) (eqb (v + 1) (operations s.tree)) can.root) [ inl t ↦ t | inr t ↦ absurd (q (eqb-true (v + 1) (operations s.tree) t)) ])
