-- Where the operands of a node stand, and that their parent is the node.
use Rattle.std.proofs.Common.{◌≡◌, ◌↔◌, ◌⊎◌, ℕ, ◌+◌, ◌-◌, ◌<◌, ◌≤◌, false, List, Some, IfSome, refl, sym, ap, ◌∙◌, subst, inl, inr, arith}
use Rattle.std.proofs.lemmas.Bool.{cases_lt, false_from_ne_true}
use Rattle.tce_tree.specs.ContractionTree.{ContractionTree, Arithmetic, leaf, constant, binary, sum, operations, node, in_subtree, parent}
use Rattle.tce_tree.specs.FlatTree.{operand_of, left_operand, right_operand, first_number_of, left_of, right_of, IsBefore}
use Rattle.tce_tree.specs.declared.node.Operand.{Operand}
use Rattle.tce_tree.specs.declared.node.Operand.TheVariants.{Node as NodeOperand}
use Rattle.tce_tree.proofs.Nodes.{size, size_bounds, node-left, node-right_at, node-operand, node-root, part, in_left, in_right, at_root}
use Rattle.tce_tree.proofs.Parents.{IsParent, parent_is, parent_found, subtree_from, subtree_is}

-- the nodes of a subtree stand in the whole tree from number `first` on
pub record Stands (tree : ContractionTree) (first : ℕ) (c : ContractionTree) : Type 0 where
  pub inside : first + operations c ≤ operations tree
  pub same : (u : ℕ) → u < operations c → node tree (first + u) ≡ node c u

pub stands-whole : (tree : ContractionTree) → Stands tree 0 tree
stands-whole tree = record {
  inside = omega arith;
  same = λ u h. let z : 0 + u ≡ u = omega arith in ap (node tree) z;
}

pub stands-left : (tree : ContractionTree) (first : ℕ) (op : Arithmetic) (l r : ContractionTree) → Stands tree first (binary op l r) → Stands tree first l
stands-left tree first op l r st = record {
  inside = omega (arith, st.inside);
  same = λ u k. st.same u (omega arith) ∙ node-left op l r u k;
}

pub stands-right : (tree : ContractionTree) (first : ℕ) (op : Arithmetic) (l r : ContractionTree) → Stands tree first (binary op l r) → Stands tree (first + operations l) r
stands-right tree first op l r st = record {
  inside = omega (arith, st.inside);
  same = λ u k.
      let both : first + operations l + u ≡ first + (operations l + u) = omega arith in
      let back : operations l + u - operations l ≡ u = omega arith in
      ap (node tree) both ∙ st.same (operations l + u) (omega arith)
      ∙ node-right_at op l r (operations l + u) (omega arith) (omega arith) ∙ ap (node r) back;
}

pub stands-operand : (tree : ContractionTree) (first : ℕ) (is : List ℕ) (e : ContractionTree) → Stands tree first (sum is e) → Stands tree first e
stands-operand tree first is e st = record {
  inside = omega (arith, st.inside);
  same = λ u k. st.same u (omega arith) ∙ node-operand is e u k;
}

-- the subtree of a node of a subtree
pub stands-at : (tree : ContractionTree) (first : ℕ) (c : ContractionTree) → Stands tree first c → (v : ℕ) → v < operations c
    → Stands tree (first + v + 1 - size c v) (node c v)
stands-at tree first (leaf t is) st v h = absurd (omega arith)
stands-at tree first (constant n) st v h = absurd (omega arith)
stands-at tree first (binary op l r) st v h =
    elim (part l r v h) [
      | in_left a ↦ rw (node-left op l r v a) (stands-at tree first l (stands-left tree first op l r st) v a)
      | in_right a b ↦
          rw (node-right_at op l r v a b)
          (subst (λ k. Stands tree (k - size r (v - operations l)) (node r (v - operations l))) (shift a)
          (stands-at tree (first + operations l) r (stands-right tree first op l r st) (v - operations l) (omega arith)))
      | at_root e ↦
          rw (node-root (binary op l r) v (omega arith))
          (subst (λ k. Stands tree k (binary op l r)) (whole e) st)
    ]
  where
    shift : operations l ≤ v → first + operations l + (v - operations l) + 1 ≡ first + v + 1
    shift a = omega arith

    whole : v ≡ operations l + operations r → first ≡ first + v + 1 - operations (binary op l r)
    whole e = omega arith
stands-at tree first (sum is e) st v h =
    elim (cases_lt v (operations e)) [
      | inl a ↦ rw (node-operand is e v a) (stands-at tree first e (stands-operand tree first is e st) v a)
      | inr a ↦ rw (node-root (sum is e) v (omega arith)) (subst (λ k. Stands tree k (sum is e)) (whole a) st)
    ]
  where
    whole : operations e ≤ v → first ≡ first + v + 1 - operations (sum is e)
    whole a = omega arith

-- the subtree of node `v` stands from its least number on
pub stands-node : (tree : ContractionTree) (v : ℕ) → v < operations tree → Stands tree (first_number_of tree v) (node tree v)
unfolding first_number_of
stands-node tree v inside = subst (λ k. Stands tree k (node tree v)) from_zero (stands-at tree 0 tree (stands-whole tree) v inside)
  where
    from_zero : 0 + v + 1 - operations (node tree v) ≡ v + 1 - operations (node tree v)
    from_zero = omega arith

-- an operand `c` of node `p` is node `v`
pub record IsChild (tree c : ContractionTree) (v p : ℕ) : Type 0 where
  pub at : node tree v ≡ c
  pub inside : v < operations tree
  pub above : parent tree v ≡ Some p

subtree_not : (tree : ContractionTree) (w v : ℕ) → v + size tree w ≤ w → in_subtree tree w v ≡ false
subtree_not tree w v h = false_from_ne_true (in_subtree tree w v) (λ q. let b = subtree_is tree w v q in absurd (omega (arith, b.1)))

pub left_child : (tree : ContractionTree) (first : ℕ) (op : Arithmetic) (l r : ContractionTree) → Stands tree first (binary op l r) → 0 < operations l
    → IsChild tree l (first + operations l - 1) (first + operations l + operations r)
left_child tree first op l r st h = record {
  at = ap (node tree) number ∙ st.same (operations l - 1) (omega arith)
      ∙ node-left op l r (operations l - 1) (omega arith) ∙ node-root l (operations l - 1) (omega arith);
  inside = omega (arith, st.inside);
  above = sym (parent_found tree (first + operations l - 1) (first + operations l + operations r) (omega arith) (omega (arith, st.inside))
      (subtree_from tree (first + operations l + operations r) (first + operations l - 1) (omega arith)
      (omega (arith, ap operations top)))
      (λ w g k. subtree_not tree w (first + operations l - 1) (right_small w g k)));
}
  where
    number : first + operations l - 1 ≡ first + (operations l - 1)
    number = omega arith

    top : node tree (first + operations l + operations r) ≡ binary op l r
    top =
        let both : first + operations l + operations r ≡ first + (operations l + operations r) = omega arith in
        ap (node tree) both ∙ st.same (operations l + operations r) (omega arith)
        ∙ node-root (binary op l r) (operations l + operations r) (omega arith)

    right_small : (w : ℕ) → first + operations l - 1 < w → w < first + operations l + operations r
        → first + operations l - 1 + size tree w ≤ w
    right_small w g k =
        let back : w ≡ first + (w - first) = omega arith in
        let there : node tree w ≡ node r (w - first - operations l) =
        ap (node tree) back ∙ st.same (w - first) (omega arith) ∙ node-right_at op l r (w - first) (omega arith) (omega arith) in
        let b = size_bounds r (w - first - operations l) (omega arith) in
        omega (arith, ap operations there, b.1)

pub right_child : (tree : ContractionTree) (first : ℕ) (op : Arithmetic) (l r : ContractionTree) → Stands tree first (binary op l r) → 0 < operations r
    → IsChild tree r (first + operations l + operations r - 1) (first + operations l + operations r)
right_child tree first op l r st h = record {
  at = ap (node tree) number ∙ st.same (operations l + operations r - 1) (omega arith)
      ∙ node-right_at op l r (operations l + operations r - 1) (omega arith) (omega arith)
      ∙ node-root r (operations l + operations r - 1 - operations l) (omega arith);
  inside = omega (arith, st.inside);
  above = sym (parent_found tree (first + operations l + operations r - 1) (first + operations l + operations r) (omega arith) (omega (arith, st.inside))
      (subtree_from tree (first + operations l + operations r) (first + operations l + operations r - 1) (omega arith)
      (omega (arith, ap operations top)))
      (λ w g k. absurd (omega arith)));
}
  where
    number : first + operations l + operations r - 1 ≡ first + (operations l + operations r - 1)
    number = omega arith

    top : node tree (first + operations l + operations r) ≡ binary op l r
    top =
        let both : first + operations l + operations r ≡ first + (operations l + operations r) = omega arith in
        ap (node tree) both ∙ st.same (operations l + operations r) (omega arith)
        ∙ node-root (binary op l r) (operations l + operations r) (omega arith)

pub only_child : (tree : ContractionTree) (first : ℕ) (is : List ℕ) (e : ContractionTree) → Stands tree first (sum is e) → 0 < operations e
    → IsChild tree e (first + operations e - 1) (first + operations e)
only_child tree first is e st h = record {
  at = ap (node tree) number ∙ st.same (operations e - 1) (omega arith)
      ∙ node-operand is e (operations e - 1) (omega arith) ∙ node-root e (operations e - 1) (omega arith);
  inside = omega (arith, st.inside);
  above = sym (parent_found tree (first + operations e - 1) (first + operations e) (omega arith) (omega (arith, st.inside))
      (subtree_from tree (first + operations e) (first + operations e - 1) (omega arith) (omega (arith, ap operations top)))
      (λ w g k. absurd (omega arith)));
}
  where
    number : first + operations e - 1 ≡ first + (operations e - 1)
    number = omega arith

    top : node tree (first + operations e) ≡ sum is e
    top = st.same (operations e) (omega arith) ∙ node-root (sum is e) (operations e) (omega arith)

-- an operand that is a node has the last number of its subtree
pub operand_number : (first : ℕ) (c : ContractionTree) (v : ℕ) → operand_of first c ≡ NodeOperand v → (0 < operations c) × (v ≡ first + operations c - 1)
operand_number first (leaf t is) v e = absurd (let k : ⊥ = cc in k)
operand_number first (constant n) v e = absurd (let k : ⊥ = cc in k)
operand_number first (binary op l r) v e = let s : first + operations l + operations r ≡ v = cc in (omega arith, omega arith)
operand_number first (sum is x) v e = let s : first + operations x ≡ v = cc in (omega arith, omega arith)

pub operand_is : (first : ℕ) (c : ContractionTree) (v : ℕ) → 0 < operations c → v ≡ first + operations c - 1 → operand_of first c ≡ NodeOperand v
operand_is first (leaf t is) v h e = absurd (omega arith)
operand_is first (constant n) v h e = absurd (omega arith)
operand_is first (binary op l r) v h e = ap NodeOperand (let s : first + operations l + operations r ≡ v = omega arith in s)
operand_is first (sum is x) v h e = ap NodeOperand (let s : first + operations x ≡ v = omega arith in s)

-- an operand's parent is its node
parent_of_left : (tree : ContractionTree) (first p : ℕ) (c : ContractionTree) → Stands tree first c → first + operations c ≡ p + 1
    → (v : ℕ) → left_operand first c ≡ NodeOperand v → parent tree v ≡ Some p
parent_of_left tree first p (leaf t is) st e v is_left = absurd (let k : ⊥ = cc in k)
parent_of_left tree first p (constant n) st e v is_left = absurd (let k : ⊥ = cc in k)
parent_of_left tree first p (binary op l r) st e v is_left =
    let number = operand_number first l v is_left in
    let last : first + operations l + operations r ≡ p = omega arith in
    subst (λ q. parent tree v ≡ Some q) last
    (subst (λ u. parent tree u ≡ Some (first + operations l + operations r)) (sym number.1) (left_child tree first op l r st number.0).above)
parent_of_left tree first p (sum is x) st e v is_left =
    let number = operand_number first x v is_left in
    let last : first + operations x ≡ p = omega arith in
    subst (λ q. parent tree v ≡ Some q) last
    (subst (λ u. parent tree u ≡ Some (first + operations x)) (sym number.1) (only_child tree first is x st number.0).above)

parent_of_right : (tree : ContractionTree) (first p : ℕ) (c : ContractionTree) → Stands tree first c → first + operations c ≡ p + 1
    → (v : ℕ) → right_operand first c ≡ Some (NodeOperand v) → parent tree v ≡ Some p
parent_of_right tree first p (leaf t is) st e v is_right = absurd (let k : ⊥ = cc in k)
parent_of_right tree first p (constant n) st e v is_right = absurd (let k : ⊥ = cc in k)
parent_of_right tree first p (binary op l r) st e v is_right =
    let same : operand_of (first + operations l) r ≡ NodeOperand v = cc in
    let number = operand_number (first + operations l) r v same in
    let last : first + operations l + operations r ≡ p = omega arith in
    subst (λ q. parent tree v ≡ Some q) last
    (subst (λ u. parent tree u ≡ Some (first + operations l + operations r)) (sym number.1) (right_child tree first op l r st number.0).above)
parent_of_right tree first p (sum is x) st e v is_right = absurd (let k : ⊥ = cc in k)

-- and the operands of a node's parent have the node
operand_of_parent : (tree : ContractionTree) (first p : ℕ) (c : ContractionTree) → Stands tree first c → first + operations c ≡ p + 1 → size tree p ≡ operations c
    → (v : ℕ) → IsParent tree v p → (left_operand first c ≡ NodeOperand v) ⊎ (right_operand first c ≡ Some (NodeOperand v))
operand_of_parent tree first p (leaf t is) st e s v up = absurd (omega (arith, up.above, up.holds, s))
operand_of_parent tree first p (constant n) st e s v up = absurd (omega (arith, up.above, up.holds, s))
operand_of_parent tree first p (binary op l r) st e s v up =
    elim (cases_lt v (first + operations l)) [
      | inl a ↦
          let some : 0 < operations l = omega (arith, up.holds, s) in
          inl (operand_is first l v some (last_left a some))
      | inr a ↦
          let some : 0 < operations r = omega (arith, up.above) in
          inr (ap Some (operand_is (first + operations l) r v some (last_right a some)))
    ]
  where
    last_left : v < first + operations l → 0 < operations l → v ≡ first + operations l - 1
    last_left a some =
        elim (cases_lt v (first + operations l - 1)) [
          | inl b ↦
              absurd (up.least (first + operations l - 1) b (omega arith)
              (omega (arith, ap operations (left_child tree first op l r st some).at, up.holds, s)))
          | inr b ↦ omega arith
        ]

    last_right : first + operations l ≤ v → 0 < operations r → v ≡ first + operations l + operations r - 1
    last_right a some =
        elim (cases_lt v (first + operations l + operations r - 1)) [
          | inl b ↦
              absurd (up.least (first + operations l + operations r - 1) b (omega arith)
              (omega (arith, ap operations (right_child tree first op l r st some).at)))
          | inr b ↦ omega (arith, up.above)
        ]
operand_of_parent tree first p (sum is x) st e s v up =
    let some : 0 < operations x = omega (arith, up.above, up.holds, s) in
    inl (operand_is first x v some (last some))
  where
    last : 0 < operations x → v ≡ first + operations x - 1
    last some =
        elim (cases_lt v (first + operations x - 1)) [
          | inl b ↦
              absurd (up.least (first + operations x - 1) b (omega arith)
              (omega (arith, ap operations (only_child tree first is x st some).at, up.holds, s)))
          | inr b ↦ omega (arith, up.above)
        ]

pub parents_have_operands : (tree : ContractionTree) (v p : ℕ) → v < operations tree → p < operations tree
    → (parent tree v ≡ Some p) ↔ ((left_of tree p ≡ NodeOperand v) ⊎ (right_of tree p ≡ Some (NodeOperand v)))
unfolding left_of right_of first_number_of
parents_have_operands tree v p v_in p_in =
    let st = stands-node tree p p_in in
    let room = size_bounds tree p p_in in
    let all : p + 1 - operations (node tree p) + operations (node tree p) ≡ p + 1 = omega (arith, room.1) in (
      (λ e. operand_of_parent tree (p + 1 - operations (node tree p)) p (node tree p) st all refl v (parent_is tree v p e)),
      (λ c. elim c [
        | inl e ↦ parent_of_left tree (p + 1 - operations (node tree p)) p (node tree p) st all v e
        | inr e ↦ parent_of_right tree (p + 1 - operations (node tree p)) p (node tree p) st all v e
      ]),
    )

-- the operands of a node stand before it
operand_before : (first : ℕ) (c : ContractionTree) (v : ℕ) → first + operations c ≤ v → IsBefore v (operand_of first c)
operand_before first (leaf t is) v h = tt
operand_before first (constant n) v h = tt
operand_before first (binary op l r) v h = omega arith
operand_before first (sum is x) v h = omega arith

left_before_root : (first : ℕ) (c : ContractionTree) (v : ℕ) → first + operations c ≡ v + 1 → IsBefore v (left_operand first c)
left_before_root first (leaf t is) v e = tt
left_before_root first (constant n) v e = tt
left_before_root first (binary op l r) v e = operand_before first l v (omega arith)
left_before_root first (sum is x) v e = operand_before first x v (omega arith)

right_before_root : (first : ℕ) (c : ContractionTree) (v : ℕ) → first + operations c ≡ v + 1 → IfSome (right_operand first c) (IsBefore v)
right_before_root first (leaf t is) v e = tt
right_before_root first (constant n) v e = tt
right_before_root first (binary op l r) v e = operand_before (first + operations l) r v (omega arith)
right_before_root first (sum is x) v e = tt

pub left_before : (tree : ContractionTree) (v : ℕ) → v < operations tree → IsBefore v (left_of tree v)
unfolding left_of first_number_of
left_before tree v inside = left_before_root (v + 1 - operations (node tree v)) (node tree v) v (omega (arith, (size_bounds tree v inside).1))

pub right_before : (tree : ContractionTree) (v : ℕ) → v < operations tree → IfSome (right_of tree v) (IsBefore v)
unfolding right_of first_number_of
right_before tree v inside = right_before_root (v + 1 - operations (node tree v)) (node tree v) v (omega (arith, (size_bounds tree v inside).1))

pub left_is_before : (tree : ContractionTree) (v : ℕ) (operand : Operand) → v < operations tree → operand ≡ left_of tree v → IsBefore v operand
left_is_before tree v operand inside e = subst (IsBefore v) (sym e) (left_before tree v inside)

pub right_is_before : (tree : ContractionTree) (v : ℕ) (operand : Operand) → v < operations tree → Some operand ≡ right_of tree v → IsBefore v operand
right_is_before tree v operand inside e = subst (λ o. IfSome o (IsBefore v)) (sym e) (right_before tree v inside)
