-- The fusion that fuses nothing is legal, so some rows of the root's operands have no conflict.
use Rattle.std.proofs.Common.{◌≡◌, ℕ, zero, suc, ◌-◌, ◌<◌, ◌||◌, ◌&&◌, not, false, List, replicate, refl, ap, ◌∙◌, subst, inl, inr, arith}
use Rattle.std.specs.List.{Any}
use Rattle.std.proofs.lemmas.Bool.{cases_Bool, both_ways, or_from}
use Rattle.std.proofs.lemmas.List.{length-replicate}
use Rattle.tce_space.specs.IndexSet.{has}
use Rattle.tce_space.specs.Space.{IndexSpace}
use Rattle.tce_space.proofs.IndexSetLaws.{has-empty}
use Rattle.tce_tree.specs.ContractionTree.{ContractionTree, is_leaf, left_tree, right_tree, operations, node_loops}
use Rattle.tce_tree.specs.Fusion.{fused_at, FusionFits}
use Rattle.tce_tree.proofs.Operands.{stands-whole}
use Rattle.tce_tree.proofs.Nodes.{node_of_some}
use Rattle.tce_fusion.specs.Relation.{Relation, joined, HasNoConflict}
use Rattle.tce_fusion.specs.State.{root_number, first_right, fused_at_root, state, operands_joined, IsJoined, HasState, cost}
use Rattle.tce_fusion.specs.Row.{Row, StandsFor, rows_joined}
use Rattle.tce_fusion.specs.Cover.{left_rows, right_rows, NodesCovered}
use Rattle.tce_fusion.proofs.Operands.{by_operands, left_operand_at, right_operand_at}
use Rattle.tce_fusion.proofs.Steps.{rows_stand_together}
use Rattle.tce_fusion.proofs.Tells.{state-leaf, state-node}
use Rattle.tce_fusion.proofs.LegalStates.{loops_at_root, state_from_leaf, state_from_parts}
use Rattle.tce_fusion.proofs.Covers.{row_of_state, left_rows-are, right_rows-are}

module _ (fusion : List ℕ) (unfused : (v : ℕ) → fused_at fusion v ≡ 0) where
  not_fused : (v i : ℕ) → has (fused_at fusion v) i ≡ false
  not_fused v i = ap (λ s. has s i) (unfused v) ∙ has-empty i

  nothing_above : (c : ContractionTree) (first i j : ℕ) → state fusion first c i j ≡ false
  nothing_above c first i j = elim (cases_Bool (is_leaf c)) [
    | inl leaf_c ↦ ap (λ r. r i j) (state-leaf fusion first c leaf_c)
    | inr node_c ↦
        ap (λ r. r i j) (state-node fusion first c node_c)
        ∙ ap (λ t. t && (not (has (fused_at_root fusion first c) j) || operands_joined fusion first c i j)) (not_fused (root_number first c) i)
  ]

  pub joined_unfused : (c : ContractionTree) (first : ℕ) → IsJoined fusion first c
  joined_unfused c first i j li lj ij ji =
      both_ways (operands_joined fusion first c i j)
      (or_from (state fusion first (left_tree c) i j) (state fusion (first_right first c) (right_tree c) i j) (nothing_above (left_tree c) first i j) (nothing_above (right_tree c) (first_right first c) i j)) ij

  pub state_unfused : (c : ContractionTree) (first : ℕ) → HasState fusion first c
  state_unfused c =
      by_operands (λ t. (first : ℕ) → HasState fusion first t) (λ t leaf_t first. state_from_leaf fusion first t leaf_t)
      (λ t node_t left right first.
      state_from_parts fusion first t node_t (left first) (right (first_right first t))
      (joined_unfused t first, λ i j li out inn ij. both_ways (has (fused_at_root fusion first t) j) (not_fused (root_number first t) j) inn)) c

pub zeros_fuse_nothing : (n v : ℕ) → fused_at (replicate n 0) v ≡ 0
zeros_fuse_nothing zero v = refl
zeros_fuse_nothing (suc n) zero = refl
zeros_fuse_nothing (suc n) (suc v) = zeros_fuse_nothing n v

pub zeros_fit : (tree : ContractionTree) → FusionFits tree (replicate (operations tree) 0)
zeros_fit tree = record {
  each = length-replicate (operations tree) 0;
  within = λ v v_in i m. absurd (both_ways (has (fused_at (replicate (operations tree) 0) v) i) (ap (λ s. has s i) (zeros_fuse_nothing (operations tree) v) ∙ has-empty i) m);
  root = zeros_fuse_nothing (operations tree) (operations tree - 1);
}

-- rows that stand for states without conflict have none
rows_of_states : (tree : ContractionTree) (tables : List (List Row)) (v : ℕ) (a b : Relation) (m n : ℕ)
    → Any (StandsFor (node_loops tree v) a m) (left_rows tree tables v) → Any (StandsFor (node_loops tree v) b n) (right_rows tree tables v) → HasNoConflict (node_loops tree v) (joined a b)
    → Any (λ left. Any (λ right. HasNoConflict (node_loops tree v) (rows_joined left right)) (right_rows tree tables v)) (left_rows tree tables v)
rows_of_states tree tables v a b m n left right quiet = (
  left.0,
  left.1,
  left.2,
  left.3,
  (right.0, right.1, right.2, right.3, (rows_stand_together (node_loops tree v) (node_loops tree v) a b m n left.1 right.1 left.4 right.4).joins quiet),
)

pub some_rows_join : (space : IndexSpace) (tree : ContractionTree) (tables : List (List Row)) → 0 < operations tree → NodesCovered space tree tables
    → Any (λ left. Any (λ right. HasNoConflict (node_loops tree (operations tree - 1)) (rows_joined left right)) (right_rows tree tables (operations tree - 1)))
    (left_rows tree tables (operations tree - 1))
some_rows_join space tree tables some covered =
    let node_tree = node_of_some tree some in
    let st = stands-whole tree in
    let number : root_number 0 tree ≡ operations tree - 1 = omega arith in
    let unfused = zeros_fuse_nothing (operations tree) in
    let fits = zeros_fit tree in
    let left = row_of_state space tree tables (replicate (operations tree) 0) fits covered (left_tree tree) (root_number 0 tree) 0 (left_operand_at tree 0 tree node_tree st)
    (state_unfused (replicate (operations tree) 0) unfused (left_tree tree) 0) in
    let right = row_of_state space tree tables (replicate (operations tree) 0) fits covered (right_tree tree) (root_number 0 tree) (first_right 0 tree) (right_operand_at tree 0 tree node_tree st)
    (state_unfused (replicate (operations tree) 0) unfused (right_tree tree) (first_right 0 tree)) in
    subst (λ v. Any (λ left. Any (λ right. HasNoConflict (node_loops tree v) (rows_joined left right)) (right_rows tree tables v)) (left_rows tree tables v)) number
    (rows_of_states tree tables (root_number 0 tree)
    (state (replicate (operations tree) 0) 0 (left_tree tree)) (state (replicate (operations tree) 0) (first_right 0 tree) (right_tree tree))
    (cost space (replicate (operations tree) 0) 0 (left_tree tree)) (cost space (replicate (operations tree) 0) (first_right 0 tree) (right_tree tree))
    (rw (left_rows-are tree tables 0 tree node_tree st) left)
    (rw (right_rows-are tree tables 0 tree node_tree st) right)
    (rw (loops_at_root tree 0 tree st some) (joined_unfused (replicate (operations tree) 0) unfused tree 0)))
