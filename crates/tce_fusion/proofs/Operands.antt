-- The operands of a subtree in the whole tree: where they stand, and laws by induction over them.
use Rattle.std.proofs.Common.{◌≡◌, ℕ, ◌+◌, ◌-◌, ◌<◌, ◌≤◌, true, false, Some, List, refl, ap, ◌∙◌, subst, arith}
use Rattle.std.specs.Prelude.{IsTrue}
use Rattle.std.proofs.lemmas.Bool.{true≢false, or_left, or_right, both_ways}
use Rattle.tce_space.specs.IndexSet.{has, IsWithin}
use Rattle.tce_space.proofs.IndexSetLaws.{has-union, has-empty}
use Rattle.tce_tree.specs.ContractionTree.{ContractionTree, leaf, constant, binary, sum, is_leaf, left_tree, right_tree, dims, loops, operations, node, node_dims, parent}
use Rattle.tce_tree.specs.FlatTree.{first_number_of}
use Rattle.tce_tree.specs.Fusion.{FusionFits}
use Rattle.tce_tree.proofs.Nodes.{node-root}
use Rattle.tce_tree.proofs.Operands.{Stands, stands-left, stands-right, stands-operand, left_child, right_child, only_child}
use Rattle.tce_tree.proofs.Parents.{dims_within_loops}
use Rattle.tce_fusion.specs.State.{root_number, fused_at_root, first_right}

-- what leaves have, and what nodes have whose operands do, all trees have
pub by_operands : (P : ContractionTree → Type 0) → ((t : ContractionTree) → is_leaf t ≡ true → P t)
    → ((t : ContractionTree) → is_leaf t ≡ false → P (left_tree t) → P (right_tree t) → P t) → (t : ContractionTree) → P t
by_operands P at_leaf at_node (leaf tensor indexes) = at_leaf (leaf tensor indexes) refl
by_operands P at_leaf at_node (constant number) = at_leaf (constant number) refl
by_operands P at_leaf at_node (binary op l r) = at_node (binary op l r) refl (by_operands P at_leaf at_node l) (by_operands P at_leaf at_node r)
by_operands P at_leaf at_node (sum indexes e) = at_node (sum indexes e) refl (by_operands P at_leaf at_node e) (at_leaf (constant 0) refl)

pub operations-node : (t : ContractionTree) → is_leaf t ≡ false → operations t ≡ operations (left_tree t) + operations (right_tree t) + 1
operations-node (leaf tensor indexes) h = absurd (true≢false h)
operations-node (constant number) h = absurd (true≢false h)
operations-node (binary op l r) h = refl
operations-node (sum indexes e) h = omega arith

-- a node's operands' dims are loops of it
pub left_dims_within : (t : ContractionTree) → is_leaf t ≡ false → IsWithin (dims (left_tree t)) (loops t)
left_dims_within (leaf tensor indexes) h i m = absurd (true≢false h)
left_dims_within (constant number) h i m = absurd (true≢false h)
left_dims_within (binary op l r) h i m = has-union (dims l) (dims r) i ∙ or_left (has (dims l) i) (has (dims r) i) m
left_dims_within (sum indexes e) h i m = m

pub right_dims_within : (t : ContractionTree) → is_leaf t ≡ false → IsWithin (dims (right_tree t)) (loops t)
right_dims_within (leaf tensor indexes) h i m = absurd (true≢false h)
right_dims_within (constant number) h i m = absurd (true≢false h)
right_dims_within (binary op l r) h i m = has-union (dims l) (dims r) i ∙ or_right (has (dims l) i) (has (dims r) i) m
right_dims_within (sum indexes e) h i m = absurd (both_ways (has 0 i) (has-empty i) m)

-- the root of a subtree that has nodes
pub root_inside : (tree : ContractionTree) (first : ℕ) (c : ContractionTree) → Stands tree first c → 0 < operations c → root_number first c < operations tree
root_inside tree first c st some = omega (arith, st.inside)

pub node-at_root : (tree : ContractionTree) (first : ℕ) (c : ContractionTree) → Stands tree first c → 0 < operations c → node tree (root_number first c) ≡ c
node-at_root tree first c st some =
    let number : first + operations c - 1 ≡ first + (operations c - 1) = omega arith in
    ap (node tree) number ∙ st.same (operations c - 1) (omega arith) ∙ node-root c (operations c - 1) (omega arith)

pub first-at_root : (tree : ContractionTree) (first : ℕ) (c : ContractionTree) → Stands tree first c → 0 < operations c → first_number_of tree (root_number first c) ≡ first
unfolding first_number_of
first-at_root tree first c st some = let same = ap operations (node-at_root tree first c st some) in omega (arith, same)

pub fused_within : (tree : ContractionTree) (fusion : List ℕ) (first : ℕ) (c : ContractionTree) → FusionFits tree fusion → Stands tree first c → 0 < operations c
    → IsWithin (fused_at_root fusion first c) (dims c)
unfolding node_dims
fused_within tree fusion first c fits st some i m =
    subst (λ t. IsTrue (has (dims t) i)) (node-at_root tree first c st some) (fits.within (root_number first c) (root_inside tree first c st some) i m)

pub fused_within_loops : (tree : ContractionTree) (fusion : List ℕ) (first : ℕ) (c : ContractionTree) → FusionFits tree fusion → Stands tree first c → 0 < operations c
    → IsWithin (fused_at_root fusion first c) (loops c)
fused_within_loops tree fusion first c fits st some i m = dims_within_loops c i some (fused_within tree fusion first c fits st some i m)

-- the tree `c`, whose nodes are numbered from `first` on, is an operand of node `r`
pub record IsOperand (tree : ContractionTree) (r first : ℕ) (c : ContractionTree) : Type 0 where
  pub stands : Stands tree first c
  pub below : first + operations c ≤ r
  pub inside : r < operations tree
  pub above : 0 < operations c → parent tree (root_number first c) ≡ Some r

pub left_operand_at : (tree : ContractionTree) (first : ℕ) (c : ContractionTree) → is_leaf c ≡ false → Stands tree first c → IsOperand tree (root_number first c) first (left_tree c)
left_operand_at tree first (leaf tensor indexes) h st = absurd (true≢false h)
left_operand_at tree first (constant number) h st = absurd (true≢false h)
left_operand_at tree first (binary op l r) h st =
    let last : first + operations l + operations r ≡ root_number first (binary op l r) = omega arith in
    record {
      stands = stands-left tree first op l r st;
      below = omega arith;
      inside = omega (arith, st.inside);
      above = λ some. subst (λ p. parent tree (root_number first l) ≡ Some p) last (left_child tree first op l r st some).above;
    }
left_operand_at tree first (sum indexes e) h st =
    let last : first + operations e ≡ root_number first (sum indexes e) = omega arith in
    record {
      stands = stands-operand tree first indexes e st;
      below = omega arith;
      inside = omega (arith, st.inside);
      above = λ some. subst (λ p. parent tree (root_number first e) ≡ Some p) last (only_child tree first indexes e st some).above;
    }

pub right_operand_at : (tree : ContractionTree) (first : ℕ) (c : ContractionTree) → is_leaf c ≡ false → Stands tree first c → IsOperand tree (root_number first c) (first_right first c) (right_tree c)
right_operand_at tree first (leaf tensor indexes) h st = absurd (true≢false h)
right_operand_at tree first (constant number) h st = absurd (true≢false h)
right_operand_at tree first (binary op l r) h st =
    let last : first + operations l + operations r ≡ root_number first (binary op l r) = omega arith in
    record {
      stands = stands-right tree first op l r st;
      below = omega arith;
      inside = omega (arith, st.inside);
      above = λ some. subst (λ p. parent tree (root_number (first + operations l) r) ≡ Some p) last (right_child tree first op l r st some).above;
    }
right_operand_at tree first (sum indexes e) h st = record {
  stands = record { inside = omega (arith, st.inside); same = λ u k. absurd (omega arith) };
  below = omega arith;
  inside = omega (arith, st.inside);
  above = λ some. absurd (omega arith);
}
