-- The values of pieces are those of their nodes.
use Rattle.std.proofs.Common.{◌≡◌, ℕ, zero, suc, ◌+◌, ◌<◌, ◌≤◌, true, false, not, List, [], ◌∷◌, map, ltb, ltb-true, eqb, ◌-◌, refl, sym, ap, ap₂, ◌∙◌, subst, inl, inr, arith}
use Rattle.std.specs.Prelude.{IsTrue}
use Rattle.std.specs.List.{list_all}
use Rattle.std.proofs.lemmas.Bool.{cases_Bool, cases_eq, cases_lt, eq-eqb, ne_eqb, or_left, or_right, and_parts, and_from, not_from_false, false≢true}
use Rattle.tce_base.specs.Word.{word}
use Rattle.tce_space.specs.IndexSet.{has, set_of, members}
use Rattle.tce_space.proofs.IndexSetLaws.{has-union, has-minus}
use Rattle.tce_tree.specs.ContractionTree.{ContractionTree, leaf, constant, binary, sum, dims, operations, node, node_dims}
use Rattle.tce_tree.specs.FlatTree.{first_number_of}
use Rattle.tce_tree.specs.WellFormed.{among, indexes_below}
use Rattle.tce_tree.specs.Value.{Assignment, with_number, assignment, Elements, IsInExtents, arithmetic, sum_below, sum_over, value}
use Rattle.tce_tree.proofs.Members.{dims_lt}
use Rattle.tce_tree.proofs.NamedIndexes.{has-set_of_list, indexes_below-node}
use Rattle.tce_tree.proofs.Nodes.{node-left, node-right_at, node-operand, node-root, size_bounds}
use Rattle.tce_tree.proofs.Operands.{Stands, stands-node, stands-left, stands-right, stands-operand}
use Rattle.tce_tree.proofs.Values.{value-depends, sum_below-same}
use Rattle.tce_tree.proofs.Assignments.{with-same, with-other}
use Rattle.tce_spec.specs.Pieces.{Cuts, reference_to, unless_cut, rest_of, except, piece, tensors_below}
use Rattle.tce_spec.specs.CutLaws.{IsArrayOf, HaveTensors, HoldNodes, HoldPieces}
use Rattle.tce_spec.proofs.CutPlaces.{inside_same, assignment-member, member_inside, members_inside}

-- sums of values that are the same wherever the numbers lie in their extents
sum_over-inside : (f g : ℕ → ℕ) (set : ℕ) (is : List ℕ) (v w : Assignment → ℕ) → ((i : ℕ) → f i ≡ g i)
    → ((b : Assignment) → ((i : ℕ) → has set i ≡ true → b i < g i) → v b ≡ w b)
    → (a : Assignment) → ((i : ℕ) → has set i ≡ true → among is i ≡ false → a i < g i) → sum_over f is v a ≡ sum_over g is w a
sum_over-inside f g set [] v w same agree a h = agree a (λ i m. h i m refl)
sum_over-inside f g set (j ∷ rest) v w same agree a h =
    ap (λ n. sum_below n (λ x. sum_over f rest v (with_number a j x))) (same j)
    ∙ sum_below-same (g j) _ (λ x. sum_over g rest w (with_number a j x)) (λ x l.
    sum_over-inside f g set rest v w same agree (with_number a j x) (λ i m out.
    elim (cases_eq i j) [
      | inl q ↦ let here = ap (with_number a j x) q ∙ with-same a j x in omega (arith, l, here, ap g q)
      | inr q ↦ let there = with-other a j x i q in let low = h i m (rw (ne_eqb j i (λ r. q (sym r))) out) in omega (arith, low, there)
    ]))

-- a node as its array
node_array : (files e : Elements) (tree : ContractionTree) (v : ℕ) → indexes_below 24 (node tree v) ≡ true → IsArrayOf files tree v (node tree v) e
    → (a : Assignment) → IsInExtents e (dims (node tree v)) a → value files (reference_to v (node tree v)) a ≡ value e (node tree v) a
unfolding node_dims
node_array files e tree v named array a inside =
    array (map a (members (dims (node tree v)))) (members_inside e.extent a (dims (node tree v)) (dims_lt (node tree v)) inside)
    ∙ value-depends e (node tree v) (assignment (members (dims (node tree v))) (map a (members (dims (node tree v))))) a named
    (λ i m. assignment-member (dims (node tree v)) a i (dims_lt (node tree v)) m)

-- the tree `c`, which is node `v`, as its array
array_value : (files e : Elements) (tree : ContractionTree) (v : ℕ) (c : ContractionTree) → node tree v ≡ c → indexes_below 24 c ≡ true → IsArrayOf files tree v (node tree v) e
    → (a : Assignment) → IsInExtents e (dims c) a → value files (reference_to v c) a ≡ value e c a
array_value files e tree v c is named array a inside =
    subst (λ t. value files (reference_to v t) a ≡ value e t a) is
    (node_array files e tree v (ap (indexes_below 24) is ∙ named) array a (subst (λ t. IsInExtents e (dims t) a) (sym is) inside))

-- what is left of a tree in which the arrays of its cut nodes have their values
abbrev AreHeld : Elements → Elements → ContractionTree → Cuts → ℕ → ContractionTree → Type 0
AreHeld files e tree cut first c = (u : ℕ) → first ≤ u → u < first + operations c → IsTrue (cut u) → IsArrayOf files tree u (node tree u) e

abbrev HasValue : Elements → Elements → ContractionTree → Cuts → ContractionTree → Type 0
HasValue files e tree cut c =
    (first : ℕ) → Stands tree first c → indexes_below 24 c ≡ true → tensors_below 32 c ≡ true → AreHeld files e tree cut first c
    → (a : Assignment) → IsInExtents e (dims c) a → value files (rest_of cut first c) a ≡ value e c a

module _ (files e : Elements) (tree : ContractionTree) (cut : Cuts) (same : HaveTensors files e) where
  -- a node that is cut, or else has the value of what is left of it
  unless_value : (first v : ℕ) (c rest : ContractionTree) → Stands tree first c → v + 1 ≡ first + operations c → 0 < operations c → indexes_below 24 c ≡ true
      → AreHeld files e tree cut first c → (a : Assignment) → IsInExtents e (dims c) a → value files rest a ≡ value e c a
      → value files (unless_cut cut v c rest) a ≡ value e c a
  unless_value first v c rest st number some named held a inside left =
      elim (cases_Bool (cut v)) [
        | inl is_cut ↦
            let split : v ≡ first + (operations c - 1) = omega arith in
            let at : node tree v ≡ c = ap (node tree) split ∙ st.same (operations c - 1) (omega arith) ∙ node-root c (operations c - 1) (omega arith) in
            rw is_cut (array_value files e tree v c at named (held v (omega arith) (omega arith) is_cut) a inside)
        | inr apart ↦ rw apart left
      ]

  rest_value : (c : ContractionTree) → HasValue files e tree cut c
  rest_value (leaf tensor indexes) first st named few held a inside = ap word (same.tensors tensor (map a indexes) (ltb-true tensor 32 few))
  rest_value (constant number) first st named few held a inside = refl
  rest_value (binary op l r) first st named few held a inside =
      let names = and_parts (indexes_below 24 l) (indexes_below 24 r) named in
      let tensors = and_parts (tensors_below 32 l) (tensors_below 32 r) few in
      let on_left = rest_value l first (stands-left tree first op l r st) names.0 tensors.0 (λ u low high is_cut. held u low (omega arith) is_cut) a
      (λ i m. inside i (has-union (dims l) (dims r) i ∙ or_left (has (dims l) i) (has (dims r) i) m)) in
      let on_right = rest_value r (first + operations l) (stands-right tree first op l r st) names.1 tensors.1 (λ u low high is_cut. held u (omega arith) (omega arith) is_cut) a
      (λ i m. inside i (has-union (dims l) (dims r) i ∙ or_right (has (dims l) i) (has (dims r) i) m)) in
      unless_value first (first + operations l + operations r) (binary op l r) (binary op (rest_of cut first l) (rest_of cut (first + operations l) r)) st (omega arith) (omega arith) named held a inside
      (ap₂ (arithmetic op) on_left on_right)
  rest_value (sum is x) first st named few held a inside =
      let names = and_parts (list_all (λ i. ltb i 24) is) (indexes_below 24 x) named in
      unless_value first (first + operations x) (sum is x) (sum is (rest_of cut first x)) st (omega arith) (omega arith) named held a inside
      (sum_over-inside files.extent e.extent (dims x) is (value files (rest_of cut first x)) (value e x) same.extents
      (λ b within. rest_value x first (stands-operand tree first is x st) names.1 few (λ u low high is_cut. held u low (omega arith) is_cut) b within) a
      (λ i m out. inside i (has-minus (dims x) (set_of is) i
      ∙ and_from (has (dims x) i) (not (has (set_of is) i)) m (not_from_false (has (set_of is) i) (has-set_of_list is i names.0 ∙ out)))))

tensors_below-node : (n : ℕ) (tree : ContractionTree) (v : ℕ) → v < operations tree → tensors_below n tree ≡ true → tensors_below n (node tree v) ≡ true
tensors_below-node n (leaf t is) v h w = absurd (omega arith)
tensors_below-node n (constant k) v h w = absurd (omega arith)
tensors_below-node n (binary op l r) v h w =
    let both = and_parts (tensors_below n l) (tensors_below n r) w in
    elim (cases_lt v (operations l)) [
      | inl x ↦ ap (tensors_below n) (node-left op l r v x) ∙ tensors_below-node n l v x both.0
      | inr x ↦ elim (cases_lt v (operations l + operations r)) [
        | inl y ↦ ap (tensors_below n) (node-right_at op l r v x y) ∙ tensors_below-node n r (v - operations l) (omega arith) both.1
        | inr y ↦ ap (tensors_below n) (node-root (binary op l r) v (omega arith)) ∙ w
      ]
    ]
tensors_below-node n (sum is x) v h w =
    elim (cases_lt v (operations x)) [
      | inl y ↦ ap (tensors_below n) (node-operand is x v y) ∙ tensors_below-node n x v y w
      | inr y ↦ ap (tensors_below n) (node-root (sum is x) v (omega arith)) ∙ w
    ]

-- ---- pieces

piece_value : (files e : Elements) (tree : ContractionTree) (cut : Cuts) (v : ℕ) (a : Assignment) → indexes_below 24 tree ≡ true → tensors_below 32 tree ≡ true
    → HaveTensors files e → ((u : ℕ) → u < v → IsTrue (cut u) → IsArrayOf files tree u (node tree u) e) → v < operations tree
    → IsInExtents e (dims (node tree v)) a → value files (piece tree cut v) a ≡ value e (node tree v) a
unfolding piece first_number_of
piece_value files e tree cut v a named few same held v_in inside =
    let room = size_bounds tree v v_in in
    rest_value files e tree (except cut v) same (node tree v) (first_number_of tree v) (stands-node tree v v_in)
    (indexes_below-node 24 tree v v_in named) (tensors_below-node 32 tree v v_in few)
    (λ u low high is_cut.
    let both = and_parts (cut u) (not (eqb u v)) is_cut in
    held u (elim (cases_eq u v) [
      | inl q ↦ absurd (false≢true (sym (ap not (eq-eqb u v q)) ∙ both.1))
      | inr q ↦ omega (arith, room)
    ]) both.0) a inside

pub piece_has_value : (files e : Elements) (tree : ContractionTree) (cut : Cuts) (v : ℕ) (a : Assignment) → indexes_below 24 tree ≡ true → tensors_below 32 tree ≡ true
    → HoldNodes files e tree cut → v < operations tree → IsInExtents e (node_dims tree v) a → value files (piece tree cut v) a ≡ value e (node tree v) a
unfolding node_dims
piece_has_value files e tree cut v a named few hold v_in inside =
    piece_value files e tree cut v a named few hold.same (λ u low is_cut. hold.arrays u (omega arith) is_cut) v_in inside

pub pieces_have_values : (files e : Elements) (tree : ContractionTree) (cut : Cuts) → indexes_below 24 tree ≡ true → tensors_below 32 tree ≡ true
    → HoldPieces files e tree cut → HoldNodes files e tree cut
unfolding node_dims
pieces_have_values files e tree cut named few hold = record { same = hold.same; arrays = λ v v_in is_cut. first_ones (suc v) v (omega arith) v_in is_cut }
  where
    first_ones : (n v : ℕ) → v < n → v < operations tree → IsTrue (cut v) → IsArrayOf files tree v (node tree v) e
    first_ones zero v low v_in is_cut = absurd (omega arith)
    first_ones (suc n) v low v_in is_cut = λ coords inside.
        hold.arrays v v_in is_cut coords (inside_same e.extent files.extent (members (dims (node tree v))) coords (λ i. sym (hold.same.extents i)) inside)
        ∙ piece_value files e tree cut v (assignment (members (dims (node tree v))) coords) named few hold.same
        (λ u below cut_u. first_ones n u (omega arith) (omega arith) cut_u) v_in
        (λ i m. member_inside e.extent (dims (node tree v)) coords i (dims_lt (node tree v)) inside m)
