-- Some row of each table of a cover stands for the state of each legal fusion, so the total is at most its memory.
use Rattle.std.proofs.Common.{◌≡◌, ℕ, ◌+◌, ◌-◌, ◌<◌, ◌≤◌, true, false, Some, List, [], ◌∷◌, refl, ap, subst, inl, inr, arith}
use Rattle.std.specs.List.{All, Any}
use Rattle.std.proofs.lemmas.Bool.{cases_Bool, false≢true, true≢false}
use Rattle.std.proofs.lemmas.List.Elements.{All-contains}
use Rattle.tce_space.specs.IndexSet.{IsWithin, minus}
use Rattle.tce_space.specs.Space.{IndexSpace, volume_of}
use Rattle.tce_tree.specs.ContractionTree.{ContractionTree, leaf, constant, binary, sum, is_leaf, left_tree, right_tree, dims, operations, node, node_dims, node_loops, parent}
use Rattle.tce_tree.specs.FlatTree.{operand_of, left_operand, right_operand, first_number_of, left_of, right_of}
use Rattle.tce_tree.specs.Fusion.{FusionFits}
use Rattle.tce_tree.proofs.Operands.{Stands, stands-whole, operand_is}
use Rattle.tce_fusion.specs.Scope.{IsLegal}
use Rattle.tce_tree.specs.Memory.{memory}
use Rattle.tce_fusion.specs.Least.{IsLeast}
use Rattle.tce_fusion.specs.Relation.{Relation, none, joined, cut, HasNoConflict, Allows}
use Rattle.tce_fusion.specs.State.{root_number, first_right, fused_at_root, state, HasState, cost, operands_cost}
use Rattle.tce_fusion.specs.Row.{Row, leaf_row, rows_at, StandsFor, rows_joined, step_relation}
use Rattle.tce_fusion.specs.Cover.{operand_rows, right_operand_rows, left_rows, right_rows, ForEachJoin, StepsCovered, NodeCovered, RootBelow, Covers}
use Rattle.tce_fusion.proofs.Operands.{by_operands, operations-node, node-at_root, first-at_root, fused_within, fused_within_loops, IsOperand, left_operand_at, right_operand_at}
use Rattle.tce_fusion.proofs.Steps.{rows_stand_together, leaf_row_stands, stands_through}
use Rattle.tce_fusion.proofs.Tells.{state-leaf, state-node}
use Rattle.tce_fusion.proofs.LegalStates.{loops_at_root, state_parts, states_from_legal}
use Rattle.tce_fusion.proofs.Costs.{cost-leaf, cost-node, costs_add_up}

-- ---- one node

-- what holds for each join holds for the rows that stand for two states without conflict
joined_rows : (tree : ContractionTree) (tables : List (List Row)) (v : ℕ) (P : Row → Row → Type 0) (a b : Relation) (m n : ℕ) → ForEachJoin tree tables v P
    → (left : Any (StandsFor (node_loops tree v) a m) (left_rows tree tables v)) → (right : Any (StandsFor (node_loops tree v) b n) (right_rows tree tables v))
    → HasNoConflict (node_loops tree v) (joined a b) → P left.1 right.1
joined_rows tree tables v P a b m n each left right quiet =
    let at_left = All-contains (λ l. All (λ r. HasNoConflict (node_loops tree v) (rows_joined l r) → P l r) (right_rows tree tables v)) (left_rows tree tables v) left.1 each (left.0, left.2, left.3) in
    let at_both = All-contains (λ r. HasNoConflict (node_loops tree v) (rows_joined left.1 r) → P left.1 r) (right_rows tree tables v) right.1 at_left (right.0, right.2, right.3) in
    at_both ((rows_stand_together (node_loops tree v) (node_loops tree v) a b m n left.1 right.1 left.4 right.4).joins quiet)

row_of_step : (space : IndexSpace) (tree : ContractionTree) (tables : List (List Row)) (outer v : ℕ) (a b : Relation) (m n fused : ℕ) → NodeCovered space tree tables outer v
    → Any (StandsFor (node_loops tree v) a m) (left_rows tree tables v) → Any (StandsFor (node_loops tree v) b n) (right_rows tree tables v)
    → HasNoConflict (node_loops tree v) (joined a b) → IsWithin fused (node_dims tree v) → IsWithin fused (node_loops tree v) → Allows (node_loops tree v) (joined a b) fused
    → Any (StandsFor outer (cut fused (joined a b)) (m + n + volume_of space (minus (node_dims tree v) fused))) (rows_at tables v)
row_of_step space tree tables outer v a b m n fused covered left right quiet within in_loops allowed =
    let together = rows_stand_together outer (node_loops tree v) a b m n left.1 right.1 left.4 right.4 in
    let found = joined_rows tree tables v (StepsCovered space tree outer v (rows_at tables v)) a b m n covered left right quiet fused within (together.allows fused in_loops allowed) in
    (found.0, found.1, found.2, found.3, stands_through outer (cut fused (joined a b)) (step_relation left.1 right.1 fused) _ _ found.1 (together.coarser fused in_loops) (omega (arith, together.cheap)) found.4)

-- ---- the rows of operands

left_operand-is : (first : ℕ) (c : ContractionTree) → is_leaf c ≡ false → left_operand first c ≡ operand_of first (left_tree c)
left_operand-is first (leaf tensor indexes) h = absurd (true≢false h)
left_operand-is first (constant number) h = absurd (true≢false h)
left_operand-is first (binary op l r) h = refl
left_operand-is first (sum indexes e) h = refl

right_operand-rows : (tables : List (List Row)) (first : ℕ) (c : ContractionTree) → is_leaf c ≡ false
    → right_operand_rows tables (right_operand first c) ≡ operand_rows tables (operand_of (first_right first c) (right_tree c))
right_operand-rows tables first (leaf tensor indexes) h = absurd (true≢false h)
right_operand-rows tables first (constant number) h = absurd (true≢false h)
right_operand-rows tables first (binary op l r) h = refl
right_operand-rows tables first (sum indexes e) h = refl

pub left_rows-are : (tree : ContractionTree) (tables : List (List Row)) (first : ℕ) (c : ContractionTree) → is_leaf c ≡ false → Stands tree first c
    → left_rows tree tables (root_number first c) ≡ operand_rows tables (operand_of first (left_tree c))
unfolding left_of
left_rows-are tree tables first c node_c st =
    let some : 0 < operations c = omega (arith, operations-node c node_c) in
    rw (first-at_root tree first c st some, node-at_root tree first c st some) (ap (operand_rows tables) (left_operand-is first c node_c))

pub right_rows-are : (tree : ContractionTree) (tables : List (List Row)) (first : ℕ) (c : ContractionTree) → is_leaf c ≡ false → Stands tree first c
    → right_rows tree tables (root_number first c) ≡ operand_rows tables (operand_of (first_right first c) (right_tree c))
unfolding right_of
right_rows-are tree tables first c node_c st =
    let some : 0 < operations c = omega (arith, operations-node c node_c) in
    rw (first-at_root tree first c st some, node-at_root tree first c st some) (right_operand-rows tables first c node_c)

dims-at_root : (tree : ContractionTree) (first : ℕ) (c : ContractionTree) → Stands tree first c → 0 < operations c → node_dims tree (root_number first c) ≡ dims c
unfolding node_dims
dims-at_root tree first c st some = ap dims (node-at_root tree first c st some)

leaf_stands : (outer : ℕ) → Any (StandsFor outer none 0) (leaf_row ∷ [])
leaf_stands outer = (0, leaf_row, omega arith, refl, leaf_row_stands outer)

operand_rows-leaf : (tables : List (List Row)) (first : ℕ) (c : ContractionTree) → is_leaf c ≡ true → operand_rows tables (operand_of first c) ≡ leaf_row ∷ []
operand_rows-leaf tables first (leaf tensor indexes) h = refl
operand_rows-leaf tables first (constant number) h = refl
operand_rows-leaf tables first (binary op l r) h = absurd (false≢true h)
operand_rows-leaf tables first (sum indexes e) h = absurd (false≢true h)

-- ---- some row stands for the state of each operand

module _ (space : IndexSpace) (tree : ContractionTree) (tables : List (List Row)) (fusion : List ℕ) (fits : FusionFits tree fusion)
    (covered : (v p : ℕ) → parent tree v ≡ Some p → NodeCovered space tree tables (node_loops tree p) v) where
  abbrev RowsStand : ContractionTree → Type 0
  RowsStand c =
      (r first : ℕ) → IsOperand tree r first c → HasState fusion first c
      → Any (StandsFor (node_loops tree r) (state fusion first c) (cost space fusion first c)) (operand_rows tables (operand_of first c))

  at_leaf : (c : ContractionTree) → is_leaf c ≡ true → RowsStand c
  at_leaf c leaf_c r first operand has_state =
      rw (state-leaf fusion first c leaf_c, cost-leaf space fusion first c leaf_c, operand_rows-leaf tables first c leaf_c) (leaf_stands (node_loops tree r))

  at_node : (c : ContractionTree) → is_leaf c ≡ false → RowsStand (left_tree c) → RowsStand (right_tree c) → RowsStand c
  at_node c node_c left right r first operand has_state =
      let st = operand.stands in
      let some : 0 < operations c = omega (arith, operations-node c node_c) in
      let v : ℕ = root_number first c in
      let parts = state_parts fusion first c node_c has_state in
      let same = loops_at_root tree first c st some in
      let same_dims = dims-at_root tree first c st some in
      let number = operand_is first c (root_number first c) some refl in
      let from_left = left (root_number first c) first (left_operand_at tree first c node_c st) parts.left in
      let from_right = right (root_number first c) (first_right first c) (right_operand_at tree first c node_c st) parts.right in
      let found = row_of_step space tree tables (node_loops tree r) (root_number first c) (state fusion first (left_tree c)) (state fusion (first_right first c) (right_tree c))
      (cost space fusion first (left_tree c)) (cost space fusion (first_right first c) (right_tree c)) (fused_at_root fusion first c)
      (covered (root_number first c) r (operand.above some))
      (rw (left_rows-are tree tables first c node_c st) from_left)
      (rw (right_rows-are tree tables first c node_c st) from_right)
      (rw same parts.quiet)
      (rw same_dims (fused_within tree fusion first c fits st some))
      (rw same (fused_within_loops tree fusion first c fits st some))
      (rw same parts.allowed) in
      rw (state-node fusion first c node_c, cost-node space fusion first c node_c, number) (rw same_dims at found)

  pub row_of_state : (c : ContractionTree) → RowsStand c
  row_of_state c = by_operands RowsStand at_leaf at_node c

-- ---- the total

-- a tree without nodes
leaf_below : (tables : List (List Row)) (total : ℕ) (t : ContractionTree) → is_leaf t ≡ true → RootBelow t tables total → total ≤ 0
unfolding left_of right_of first_number_of node leaf_stands
leaf_below tables total (leaf tensor indexes) h below =
    joined_rows (leaf tensor indexes) tables 0 (λ left right. total ≤ left.cost + right.cost) none none 0 0 below (leaf_stands _) (leaf_stands _) (λ i j p q ij ji. false≢true ij)
leaf_below tables total (constant number) h below =
    joined_rows (constant number) tables 0 (λ left right. total ≤ left.cost + right.cost) none none 0 0 below (leaf_stands _) (leaf_stands _) (λ i j p q ij ji. false≢true ij)
leaf_below tables total (binary op l r) h below = absurd (false≢true h)
leaf_below tables total (sum indexes e) h below = absurd (false≢true h)

pub total_is_bound : (space : IndexSpace) (tree : ContractionTree) (tables : List (List Row)) (total : ℕ) → Covers space tree tables total
    → (fusion : List ℕ) → FusionFits tree fusion → IsLegal tree fusion → total ≤ memory space tree fusion
total_is_bound space tree tables total cover fusion fits legal =
    elim (cases_Bool (is_leaf tree)) [
      | inl leaf_tree ↦ omega (arith, leaf_below tables total tree leaf_tree cover.root)
      | inr node_tree ↦ subst (λ n. total ≤ n) (costs_add_up space tree fusion) (of_node node_tree)
    ]
  where
    of_node : is_leaf tree ≡ false → total ≤ operands_cost space fusion 0 tree
    of_node node_tree =
        let st = stands-whole tree in
        let some : 0 < operations tree = omega (arith, operations-node tree node_tree) in
        let states = states_from_legal tree fusion fits legal in
        let number : operations tree - 1 ≡ root_number 0 tree = omega arith in
        let from_left = row_of_state space tree tables fusion fits cover.nodes (left_tree tree) (root_number 0 tree) 0 (left_operand_at tree 0 tree node_tree st) states.left in
        let from_right = row_of_state space tree tables fusion fits cover.nodes (right_tree tree) (root_number 0 tree) (first_right 0 tree) (right_operand_at tree 0 tree node_tree st) states.right in
        let left : Any (StandsFor (node_loops tree (root_number 0 tree)) (state fusion 0 (left_tree tree)) (cost space fusion 0 (left_tree tree))) (left_rows tree tables (root_number 0 tree)) =
        rw (left_rows-are tree tables 0 tree node_tree st) from_left in
        let right : Any (StandsFor (node_loops tree (root_number 0 tree)) (state fusion (first_right 0 tree) (right_tree tree)) (cost space fusion (first_right 0 tree) (right_tree tree))) (right_rows tree tables (root_number 0 tree)) =
        rw (right_rows-are tree tables 0 tree node_tree st) from_right in
        let below = joined_rows tree tables (root_number 0 tree) (λ l r. total ≤ l.cost + r.cost) (state fusion 0 (left_tree tree)) (state fusion (first_right 0 tree) (right_tree tree))
        (cost space fusion 0 (left_tree tree)) (cost space fusion (first_right 0 tree) (right_tree tree))
        (subst (λ v. ForEachJoin tree tables v (λ l r. total ≤ l.cost + r.cost)) number cover.root) left right
        (rw (loops_at_root tree 0 tree st some) states.root) in
        omega (arith, below, left.4.cheap, right.4.cheap)

pub least_by_cover : (space : IndexSpace) (tree : ContractionTree) (fusion : List ℕ) (tables : List (List Row)) → FusionFits tree fusion → IsLegal tree fusion
    → Covers space tree tables (memory space tree fusion) → IsLeast space tree fusion
least_by_cover space tree fusion tables fits legal cover =
    record { fits = fits; legal = legal; least = λ other other_fits other_legal. total_is_bound space tree tables (memory space tree fusion) cover other other_fits other_legal }
