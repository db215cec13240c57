-- Scopes along the edge above an operand: whether they pass it, and where they go on from there.
use Rattle.std.proofs.Common.{◌≡◌, ℕ, ◌+◌, ◌-◌, ◌<◌, ◌≤◌, ◌⊎◌, ◌||◌, not, true, false, List, refl, sym, ap, ◌∙◌, subst, inl, inr, arith}
use Rattle.std.specs.Prelude.{IsTrue}
use Rattle.std.proofs.lemmas.Bool.{cases_lt, false_from_ne_true, both_ways, or_cases, not-true}
use Rattle.tce_space.specs.IndexSet.{has}
use Rattle.tce_tree.specs.ContractionTree.{ContractionTree, operations, in_subtree}
use Rattle.tce_tree.specs.Fusion.{fused_at}
use Rattle.tce_tree.proofs.Nodes.{size, size-root}
use Rattle.tce_tree.proofs.Operands.{Stands}
use Rattle.tce_tree.proofs.Parents.{IsParent, parent_is, subtree_is, subtree_from}
use Rattle.tce_fusion.specs.Scope.{differ, on_path, scope}
use Rattle.tce_fusion.proofs.ScopeLaws.{is_spanned, list_all-range, parent_of, parent_of_is}
use Rattle.tce_fusion.specs.State.{root_number, fused_at_root}
use Rattle.tce_fusion.proofs.Operands.{IsOperand, node-at_root}

-- a node has one parent
same_parent : (tree : ContractionTree) (v p q : ℕ) → IsParent tree v p → IsParent tree v q → p ≡ q
same_parent tree v p q up other =
    elim (cases_lt p q) [
      | inl l ↦ absurd (other.least p up.above l up.holds)
      | inr g ↦ elim (cases_lt q p) [
        | inl l ↦ absurd (up.least q other.above l other.holds)
        | inr k ↦ omega arith
      ]
    ]

-- the edge above an operand's root takes its fused indexes to the node above
pub linked_up : (tree : ContractionTree) (fusion : List ℕ) (r first : ℕ) (c : ContractionTree) → IsOperand tree r first c → 0 < operations c
    → (i : ℕ) → IsTrue (has (fused_at_root fusion first c) i) → IsTrue (scope tree fusion i r (root_number first c))
linked_up tree fusion r first c operand some i fused =
    let up = parent_is tree (root_number first c) r (operand.above some) in
    let room : root_number first c + 1 < operations tree = omega (arith, operand.below, operand.inside) in
    let s = is_spanned tree fusion in
    let is = same_parent tree (root_number first c) (parent_of tree (root_number first c)) r (parent_of_is tree (root_number first c) room) up in
    s.back i (root_number first c) r (subst (λ p. IsTrue (scope tree fusion i (root_number first c) p)) is (s.edge i (root_number first c) room fused))

-- the subtree of a root has all nodes of its range, and no other
size_at_root : (tree : ContractionTree) (first : ℕ) (c : ContractionTree) → Stands tree first c → 0 < operations c → size tree (root_number first c) ≡ operations c
size_at_root tree first c st some = ap operations (node-at_root tree first c st some)

in_range : (tree : ContractionTree) (first : ℕ) (c : ContractionTree) → Stands tree first c → (w : ℕ) → first ≤ w → w < first + operations c → in_subtree tree (root_number first c) w ≡ true
in_range tree first c st w low high =
    subtree_from tree (root_number first c) w (omega arith) (omega (arith, size_at_root tree first c st (omega arith)))

out_of_range : (tree : ContractionTree) (first : ℕ) (c : ContractionTree) → Stands tree first c → 0 < operations c → (x : ℕ) → (x < first) ⊎ (first + operations c ≤ x) → in_subtree tree (root_number first c) x ≡ false
out_of_range tree first c st some x far =
    false_from_ne_true (in_subtree tree (root_number first c) x) (λ t.
    let r = subtree_is tree (root_number first c) x t in
    let s = size_at_root tree first c st some in
    elim far [ inl l ↦ absurd (omega (arith, r.1, s)) | inr g ↦ absurd (omega (arith, r.0)) ])

-- each edge between two nodes of a scope fuses its index
crossed : (tree : ContractionTree) (fusion : List ℕ) (i v w u : ℕ) → IsTrue (scope tree fusion i v w) → u + 1 < operations tree
    → differ (in_subtree tree u v) (in_subtree tree u w) ≡ true → IsTrue (has (fused_at fusion u) i)
unfolding scope on_path
crossed tree fusion i v w u h low d =
    let r = list_all-range (λ u. not (differ (in_subtree tree u v) (in_subtree tree u w)) || has (fused_at fusion u) i) 0 (operations tree - 1) u h (omega arith) (omega arith) in
    elim (or_cases (not (differ (in_subtree tree u v) (in_subtree tree u w))) (has (fused_at fusion u) i) r) [
      | inl n ↦ absurd (both_ways (differ (in_subtree tree u v) (in_subtree tree u w)) (not-true (differ (in_subtree tree u v) (in_subtree tree u w)) n) d)
      | inr t ↦ t
    ]

-- a scope that leaves a subtree passes the edge above its root
pub fused_between : (tree : ContractionTree) (fusion : List ℕ) (first : ℕ) (c : ContractionTree) → Stands tree first c → (i x w : ℕ) → x < operations tree
    → (x < first) ⊎ (first + operations c ≤ x) → first ≤ w → w < first + operations c → IsTrue (scope tree fusion i x w) → IsTrue (has (fused_at_root fusion first c) i)
fused_between tree fusion first c st i x w x_in far low high linked =
    crossed tree fusion i x w (root_number first c) linked room (rw (in_range tree first c st w low high, out_of_range tree first c st some x far) refl)
  where
    some : 0 < operations c
    some = omega arith

    room : root_number first c + 1 < operations tree
    room =
        let low_bound = st.inside in
        elim (cases_lt (root_number first c + 1) (operations tree)) [
          | inl l ↦ l
          | inr g ↦
              let whole : operations tree ≡ operations c = sym (size-root tree (root_number first c) g) ∙ size_at_root tree first c st some in
              elim far [ inl l ↦ absurd (omega (arith, whole)) | inr k ↦ absurd (omega (arith, whole)) ]
        ]

-- so from the node above an operand to a node of it, and the other way round
pub linked_below : (tree : ContractionTree) (fusion : List ℕ) (r first : ℕ) (c : ContractionTree) → IsOperand tree r first c → (i w : ℕ) → first ≤ w → w < first + operations c
    → IsTrue (scope tree fusion i r w) → IsTrue (has (fused_at_root fusion first c) i) × IsTrue (scope tree fusion i (root_number first c) w)
linked_below tree fusion r first c operand i w low high linked =
    let fused = fused_between tree fusion first c operand.stands i r w operand.inside (inr operand.below) low high linked in
    let s = is_spanned tree fusion in
    (fused, s.through i (root_number first c) r w (s.back i r (root_number first c) (linked_up tree fusion r first c operand (omega arith) i fused)) linked)

pub linked_above : (tree : ContractionTree) (fusion : List ℕ) (r first : ℕ) (c : ContractionTree) → IsOperand tree r first c → 0 < operations c → (i w : ℕ)
    → IsTrue (has (fused_at_root fusion first c) i) → IsTrue (scope tree fusion i (root_number first c) w) → IsTrue (scope tree fusion i r w)
linked_above tree fusion r first c operand some i w fused linked =
    (is_spanned tree fusion).through i r (root_number first c) w (linked_up tree fusion r first c operand some i fused) linked
