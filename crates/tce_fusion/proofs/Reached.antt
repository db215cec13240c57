-- Steps from states of the operands are states of the fusion that has the sets of both and the step's own.
use Rattle.std.proofs.Common.{◌≡◌, ℕ, ◌+◌, ◌-◌, ◌<◌, ◌||◌, ◌&&◌, not, true, false, List, [], ◌∷◌, ◌++◌, get_or, length-append, refl, sym, ap, ◌∙◌, subst, inl, inr, arith}
use Rattle.std.specs.Prelude.{IsTrue}
use Rattle.std.proofs.lemmas.Bool.{cases_lt, true≢false, both_ways}
use Rattle.std.proofs.lemmas.List.{get_or_append_left, get_or-append_right}
use Rattle.tce_space.specs.IndexSet.{has, IsWithin, empty}
use Rattle.tce_space.specs.Space.{IndexSpace}
use Rattle.tce_space.proofs.IndexSetLaws.{has-empty}
use Rattle.tce_tree.specs.ContractionTree.{ContractionTree, leaf, constant, binary, sum, is_leaf, left_tree, right_tree, dims, loops, operations, node, node_dims, node_loops}
use Rattle.tce_tree.specs.FlatTree.{operand_of, left_operand, right_operand, first_number_of, left_of, right_of}
use Rattle.tce_tree.specs.Fusion.{fused_at, FusionFits}
use Rattle.tce_tree.proofs.Nodes.{size_bounds, node-root, node_of_some}
use Rattle.tce_tree.proofs.Operands.{Stands, stands-whole, stands-node}
use Rattle.tce_fusion.specs.Relation.{Relation, above, none, joined, cut, HasNoConflict, Allows}
use Rattle.tce_fusion.specs.State.{root_number, first_right, fused_at_root, state, operands_joined, HasState, size_left, cost, operands_cost}
use Rattle.tce_fusion.specs.Row.{Row, leaf_row, rows_joined, step_relation, IsStepRow}
use Rattle.tce_fusion.specs.Reached.{IsStateOf, sets_of_step, IsLegalWith, tree_of_operand, tree_of_right, left_below, right_below}
use Rattle.tce_fusion.proofs.Operands.{by_operands, operations-node, node-at_root, left_operand_at, right_operand_at}
use Rattle.tce_fusion.proofs.Tells.{state-leaf, state-node}
use Rattle.tce_fusion.proofs.LegalStates.{state_from_leaf, state_from_parts, state_parts, legal_from_states}
use Rattle.tce_fusion.proofs.Costs.{cost-leaf, cost-node, costs_add_up}

-- ---- the operands as trees

operand_tree-is : (tree : ContractionTree) (first : ℕ) (c : ContractionTree) → Stands tree first c → tree_of_operand tree (operand_of first c) ≡ c
operand_tree-is tree first (leaf tensor indexes) st = refl
operand_tree-is tree first (constant number) st = refl
operand_tree-is tree first (binary op l r) st =
    let number : first + operations l + operations r ≡ root_number first (binary op l r) = omega arith in
    ap (node tree) number ∙ node-at_root tree first (binary op l r) st (omega arith)
operand_tree-is tree first (sum indexes e) st =
    let number : first + operations e ≡ root_number first (sum indexes e) = omega arith in
    ap (node tree) number ∙ node-at_root tree first (sum indexes e) st (omega arith)

joined_trees : (tree : ContractionTree) (first : ℕ) (c : ContractionTree) → is_leaf c ≡ false → Stands tree first c
    → (tree_of_operand tree (left_operand first c) ≡ left_tree c) × (tree_of_right tree (right_operand first c) ≡ right_tree c)
joined_trees tree first (leaf tensor indexes) h st = absurd (true≢false h)
joined_trees tree first (constant number) h st = absurd (true≢false h)
joined_trees tree first (binary op l r) h st = (
  operand_tree-is tree first l (left_operand_at tree first (binary op l r) h st).stands,
  operand_tree-is tree (first + operations l) r (right_operand_at tree first (binary op l r) h st).stands,
)
joined_trees tree first (sum indexes e) h st = (operand_tree-is tree first e (left_operand_at tree first (sum indexes e) h st).stands, refl)

pub operands_are_joined : (tree : ContractionTree) (v : ℕ) → v < operations tree → (left_below tree v ≡ left_tree (node tree v)) × (right_below tree v ≡ right_tree (node tree v))
unfolding left_of right_of
operands_are_joined tree v v_in = joined_trees tree (first_number_of tree v) (node tree v) (node_of_some (node tree v) (size_bounds tree v v_in).0) (stands-node tree v v_in)

-- ---- states depend on the sets of their nodes alone

-- two lists have the same sets from two places on
abbrev pub SameSets : List ℕ → List ℕ → ℕ → ℕ → ℕ → Type 0
SameSets f g a b n = (u : ℕ) → u < n → fused_at f (a + u) ≡ fused_at g (b + u)

pub record Alike (space : IndexSpace) (f g : List ℕ) (a b : ℕ) (c : ContractionTree) : Type 0 where
  pub relation : state f a c ≡ state g b c
  pub cost_is : cost space f a c ≡ cost space g b c
  pub exists : HasState f a c → HasState g b c

pub alike : (space : IndexSpace) (f g : List ℕ) (c : ContractionTree) (a b : ℕ) → SameSets f g a b (operations c) → Alike space f g a b c
alike space f g c = by_operands (λ t. (a b : ℕ) → SameSets f g a b (operations t) → Alike space f g a b t) at_leaf at_node c
  where
    at_leaf : (t : ContractionTree) → is_leaf t ≡ true → (a b : ℕ) → SameSets f g a b (operations t) → Alike space f g a b t
    at_leaf t leaf_t a b same = record {
      relation = state-leaf f a t leaf_t ∙ sym (state-leaf g b t leaf_t);
      cost_is = cost-leaf space f a t leaf_t ∙ sym (cost-leaf space g b t leaf_t);
      exists = λ h. state_from_leaf g b t leaf_t;
    }

    at_node : (t : ContractionTree) → is_leaf t ≡ false → ((a b : ℕ) → SameSets f g a b (operations (left_tree t)) → Alike space f g a b (left_tree t))
        → ((a b : ℕ) → SameSets f g a b (operations (right_tree t)) → Alike space f g a b (right_tree t)) → (a b : ℕ) → SameSets f g a b (operations t) → Alike space f g a b t
    at_node t node_t left right a b same =
        let count = operations-node t node_t in
        let on_left = left a b (λ u l. same u (omega arith)) in
        let on_right = right (first_right a t) (first_right b t) (λ u l.
        let p : first_right a t + u ≡ a + (operations (left_tree t) + u) = omega arith in
        let q : b + (operations (left_tree t) + u) ≡ first_right b t + u = omega arith in
        ap (fused_at f) p ∙ same (operations (left_tree t) + u) (omega arith) ∙ ap (fused_at g) q) in
        let here : a + operations t - 1 ≡ a + (operations t - 1) = omega arith in
        let there : b + (operations t - 1) ≡ b + operations t - 1 = omega arith in
        let root : fused_at_root f a t ≡ fused_at_root g b t = ap (fused_at f) here ∙ same (operations t - 1) (omega arith) ∙ ap (fused_at g) there in
        let join : operands_joined f a t ≡ operands_joined g b t = ap (λ r. joined r (state f (first_right a t) (right_tree t))) on_left.relation ∙ ap (joined (state g b (left_tree t))) on_right.relation in
        record {
          relation = state-node f a t node_t ∙ ap (λ s. cut s (operands_joined f a t)) root ∙ ap (cut (fused_at_root g b t)) join ∙ sym (state-node g b t node_t);
          cost_is = cost-node space f a t node_t ∙ (let size = ap (size_left space t) root in omega (arith, size, on_left.cost_is, on_right.cost_is)) ∙ sym (cost-node space g b t node_t);
          exists = λ h.
              let parts = state_parts f a t node_t h in
              state_from_parts g b t node_t (on_left.exists parts.left) (on_right.exists parts.right) (
                subst (HasNoConflict (loops t)) join parts.quiet,
                subst (λ s. Allows (loops t) (operands_joined g b t) s) root (subst (λ r. Allows (loops t) r (fused_at_root f a t)) join parts.allowed),
              );
        }

-- ---- a step from states of the operands

no_conflict_same : (l : ℕ) (r s : Relation) → ((i j : ℕ) → r i j ≡ s i j) → HasNoConflict l r → HasNoConflict l s
no_conflict_same l r s same quiet i j p q x y = quiet i j p q (same i j ∙ x) (same j i ∙ y)

allows_same : (l : ℕ) (r s : Relation) (fused : ℕ) → ((i j : ℕ) → r i j ≡ s i j) → Allows l r fused → Allows l s fused
allows_same l r s fused same allowed i j p out inn x = allowed i j p out inn (same i j ∙ x)

module _ (space : IndexSpace) (c : ContractionTree) (node_c : is_leaf c ≡ false) (lefts rights : List ℕ) (left right : Row) (fused : ℕ)
    (of_left : IsStateOf space (left_tree c) lefts left) (of_right : IsStateOf space (right_tree c) rights right) where
  same_left : SameSets lefts (sets_of_step lefts rights fused) 0 0 (operations (left_tree c))
  same_left u l = sym (get_or_append_left lefts (rights ++ fused ∷ []) 0 (0 + u) (omega (arith, of_left.count)))

  same_right : SameSets rights (sets_of_step lefts rights fused) 0 (first_right 0 c) (operations (right_tree c))
  same_right u l =
      let at : first_right 0 c + u - operations (left_tree c) ≡ 0 + u = omega arith in
      sym (get_or-append_right lefts (rights ++ fused ∷ []) (operations (left_tree c)) (first_right 0 c + u) 0 of_left.count (omega arith)
      ∙ ap (λ k. get_or (rights ++ fused ∷ []) k 0) at
      ∙ get_or_append_left rights (fused ∷ []) 0 (0 + u) (omega (arith, of_right.count)))

  last_set : (v : ℕ) → v ≡ operations (left_tree c) + operations (right_tree c) → fused_at (sets_of_step lefts rights fused) v ≡ fused
  last_set v is =
      let at : v - operations (left_tree c) ≡ operations (right_tree c) = omega arith in
      let start : operations (right_tree c) - operations (right_tree c) ≡ 0 = omega arith in
      get_or-append_right lefts (rights ++ fused ∷ []) (operations (left_tree c)) v 0 of_left.count (omega arith)
      ∙ ap (λ k. get_or (rights ++ fused ∷ []) k 0) at
      ∙ get_or-append_right rights (fused ∷ []) (operations (right_tree c)) (operations (right_tree c)) 0 of_right.count (omega arith)
      ∙ ap (λ k. get_or (fused ∷ []) k 0) start

  root_set : fused_at_root (sets_of_step lefts rights fused) 0 c ≡ fused
  root_set = let count = operations-node c node_c in last_set (root_number 0 c) (omega arith)

  left_alike : Alike space lefts (sets_of_step lefts rights fused) 0 0 (left_tree c)
  left_alike = alike space lefts (sets_of_step lefts rights fused) (left_tree c) 0 0 same_left

  right_alike : Alike space rights (sets_of_step lefts rights fused) 0 (first_right 0 c) (right_tree c)
  right_alike = alike space rights (sets_of_step lefts rights fused) (right_tree c) 0 (first_right 0 c) same_right

  same_join : (i j : ℕ) → rows_joined left right i j ≡ operands_joined (sets_of_step lefts rights fused) 0 c i j
  same_join i j =
      let p : above left.classes i j ≡ state (sets_of_step lefts rights fused) 0 (left_tree c) i j = of_left.relation i j ∙ ap (λ r. r i j) left_alike.relation in
      let q : above right.classes i j ≡ state (sets_of_step lefts rights fused) (first_right 0 c) (right_tree c) i j = of_right.relation i j ∙ ap (λ r. r i j) right_alike.relation in
      ap (λ x. x || above right.classes i j) p ∙ ap (λ x. state (sets_of_step lefts rights fused) 0 (left_tree c) i j || x) q

  pub costs_of_sets : operands_cost space (sets_of_step lefts rights fused) 0 c ≡ left.cost + right.cost
  costs_of_sets = omega (arith, left_alike.cost_is, right_alike.cost_is, of_left.cost_is, of_right.cost_is)

  set_within : IsWithin fused (dims c) → (v : ℕ) → v < operations c → IsWithin (fused_at (sets_of_step lefts rights fused) v) (dims (node c v))
  unfolding node_dims
  set_within within v v_in i m =
      let count = operations-node c node_c in
      elim (cases_lt v (operations (left_tree c))) [
        | inl x ↦
            let zero_in : 0 + v ≡ v = omega arith in
            let at = (left_operand_at c 0 c node_c (stands-whole c)).stands.same v x in
            subst (λ t. IsTrue (has (dims t) i)) (sym at ∙ ap (node c) zero_in)
            (of_left.within v x i (subst (λ s. IsTrue (has s i)) (ap (fused_at (sets_of_step lefts rights fused)) (sym zero_in) ∙ sym (same_left v x) ∙ ap (fused_at lefts) zero_in) m))
        | inr x ↦ elim (cases_lt v (operations (left_tree c) + operations (right_tree c))) [
          | inl y ↦
              let u : ℕ = v - operations (left_tree c) in
              let back : first_right 0 c + (v - operations (left_tree c)) ≡ v = omega arith in
              let zero_in : 0 + (v - operations (left_tree c)) ≡ v - operations (left_tree c) = omega arith in
              let at = (right_operand_at c 0 c node_c (stands-whole c)).stands.same (v - operations (left_tree c)) (omega arith) in
              subst (λ t. IsTrue (has (dims t) i)) (sym at ∙ ap (node c) back)
              (of_right.within (v - operations (left_tree c)) (omega arith) i (subst (λ s. IsTrue (has s i))
              (ap (fused_at (sets_of_step lefts rights fused)) (sym back) ∙ sym (same_right (v - operations (left_tree c)) (omega arith)) ∙ ap (fused_at rights) zero_in) m))
          | inr y ↦
              let top = node-root c v (omega arith) in
              subst (λ t. IsTrue (has (dims t) i)) (sym top) (within i (subst (λ s. IsTrue (has s i)) (last_set v (omega arith)) m))
        ]
      ]

  pub step_state : (row : Row) → HasNoConflict (loops c) (rows_joined left right) → IsWithin fused (dims c) → Allows (loops c) (rows_joined left right) fused
      → ((i j : ℕ) → above row.classes i j ≡ step_relation left right fused i j) → row.cost ≡ left.cost + right.cost + size_left space c fused
      → IsStateOf space c (sets_of_step lefts rights fused) row
  unfolding node_dims
  step_state row quiet within allowed relation price = record {
    count =
        let p = length-append lefts (rights ++ fused ∷ []) in
        let q = length-append rights (fused ∷ []) in
        omega (arith, p, q, of_left.count, of_right.count, operations-node c node_c);
    within = λ v v_in. set_within within v v_in;
    exists = state_from_parts (sets_of_step lefts rights fused) 0 c node_c (left_alike.exists of_left.exists) (right_alike.exists of_right.exists) (
      no_conflict_same (loops c) (rows_joined left right) (operands_joined (sets_of_step lefts rights fused) 0 c) same_join quiet,
      subst (λ s. Allows (loops c) (operands_joined (sets_of_step lefts rights fused) 0 c) s) (sym root_set)
          (allows_same (loops c) (rows_joined left right) (operands_joined (sets_of_step lefts rights fused) 0 c) fused same_join allowed),
    );
    relation = λ i j.
        relation i j ∙ ap (λ t. has fused i && (not (has fused j) || t)) (same_join i j)
        ∙ ap (λ s. cut s (operands_joined (sets_of_step lefts rights fused) 0 c) i j) (sym root_set)
        ∙ ap (λ r. r i j) (sym (state-node (sets_of_step lefts rights fused) 0 c node_c));
    cost_is =
        let size = ap (size_left space c) root_set in
        price ∙ omega (arith, size, costs_of_sets, cost-node space (sets_of_step lefts rights fused) 0 c node_c);
  }

pub leaf_row_is_reached : (space : IndexSpace) (tree : ContractionTree) → operations tree ≡ 0 → IsStateOf space tree [] leaf_row
leaf_row_is_reached space (leaf tensor indexes) none = record { count = refl; within = λ v h i m. absurd (omega arith); exists = tt; relation = λ i j. refl; cost_is = refl }
leaf_row_is_reached space (constant number) none = record { count = refl; within = λ v h i m. absurd (omega arith); exists = tt; relation = λ i j. refl; cost_is = refl }
leaf_row_is_reached space (binary op l r) none = absurd (omega arith)
leaf_row_is_reached space (sum indexes e) none = absurd (omega arith)

pub steps_are_reached : (space : IndexSpace) (tree : ContractionTree) (v : ℕ) (lefts rights : List ℕ) (left right : Row) (fused : ℕ) (row : Row) → v < operations tree
    → IsStateOf space (left_below tree v) lefts left → IsStateOf space (right_below tree v) rights right
    → IsStepRow space tree v left right fused row → IsStateOf space (node tree v) (sets_of_step lefts rights fused) row
unfolding node_dims node_loops
steps_are_reached space tree v lefts rights left right fused row v_in of_left of_right step =
    let both = operands_are_joined tree v v_in in
    step_state space (node tree v) (node_of_some (node tree v) (size_bounds tree v v_in).0) lefts rights left right fused
    (subst (λ t. IsStateOf space t lefts left) both.0 of_left) (subst (λ t. IsStateOf space t rights right) both.1 of_right)
    row step.quiet step.within step.allowed step.relation_is step.cost_is

-- ---- the root

pub root_is_reached : (space : IndexSpace) (tree : ContractionTree) (lefts rights : List ℕ) (left right : Row) → 0 < operations tree
    → IsStateOf space (left_below tree (operations tree - 1)) lefts left → IsStateOf space (right_below tree (operations tree - 1)) rights right
    → HasNoConflict (node_loops tree (operations tree - 1)) (rows_joined left right)
    → IsLegalWith space tree (sets_of_step lefts rights empty) (left.cost + right.cost)
unfolding node_loops
root_is_reached space tree lefts rights left right some left_state right_state quiet = record {
  fits = fits;
  legal = legal_from_states tree (sets_of_step lefts rights empty) fits
      (let parts = state_parts (sets_of_step lefts rights empty) 0 tree node_tree whole.exists in record { left = parts.left; right = parts.right; root = parts.quiet });
  memory_is = sym (costs_add_up space tree (sets_of_step lefts rights empty)) ∙ costs_of_sets space tree node_tree lefts rights left right empty of_left of_right;
}
  where
    top : node tree (operations tree - 1) ≡ tree
    top = node-root tree (operations tree - 1) (omega arith)

    node_tree : is_leaf tree ≡ false
    node_tree = node_of_some tree some

    of_left : IsStateOf space (left_tree tree) lefts left
    of_left = subst (λ t. IsStateOf space t lefts left) ((operands_are_joined tree (operations tree - 1) (omega arith)).0 ∙ ap left_tree top) left_state

    of_right : IsStateOf space (right_tree tree) rights right
    of_right = subst (λ t. IsStateOf space t rights right) ((operands_are_joined tree (operations tree - 1) (omega arith)).1 ∙ ap right_tree top) right_state

    whole : IsStateOf space tree (sets_of_step lefts rights empty) (record { classes = []; cost = left.cost + right.cost + size_left space tree empty })
    whole = step_state space tree node_tree lefts rights left right empty of_left of_right (record { classes = []; cost = left.cost + right.cost + size_left space tree empty })
        (subst (λ t. HasNoConflict (loops t) (rows_joined left right)) top quiet)
        (λ i h. absurd (both_ways (has empty i) (has-empty i) h))
        (λ i j p out inn x. both_ways (has empty j) (has-empty j) inn)
        (λ i j. sym (ap (λ t. t && (not (has empty j) || rows_joined left right i j)) (has-empty i)))
        refl

    fits : FusionFits tree (sets_of_step lefts rights empty)
    fits = record {
      each = whole.count;
      within = whole.within;
      root = last_set space tree node_tree lefts rights left right empty of_left of_right (operations tree - 1) (omega (arith, operations-node tree node_tree));
    }
