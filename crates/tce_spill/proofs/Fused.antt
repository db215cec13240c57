-- Trees whose states exist under some sets: with a relation that is not above theirs, and within a cost.
use Rattle.std.proofs.Common.{◌≡◌, ℕ, ◌+◌, ◌-◌, ◌<◌, ◌≤◌, ◌||◌, not, true, false, List, [], ◌∷◌, ◌++◌, get_or, length, length-append, sym, ap, ◌∙◌, subst, inl, inr, arith}
use Rattle.std.specs.Prelude.{IsTrue}
use Rattle.std.proofs.lemmas.Bool.{cases_lt, or_left, or_right, or_cases, and_parts, and_from, false≢true, both_ways}
use Rattle.std.proofs.lemmas.List.{get_or_append_left, get_or-append_right}
use Rattle.tce_space.specs.IndexSet.{has, IsWithin, empty}
use Rattle.tce_space.specs.Space.{IndexSpace}
use Rattle.tce_space.proofs.IndexSetLaws.{has-empty}
use Rattle.tce_tree.specs.ContractionTree.{ContractionTree, is_leaf, left_tree, right_tree, dims, loops, operations, node, node_dims}
use Rattle.tce_tree.specs.Fusion.{fused_at, FusionFits}
use Rattle.tce_tree.proofs.Nodes.{node-root, operations-leaf}
use Rattle.tce_fusion.specs.Scope.{IsLegal}
use Rattle.tce_tree.proofs.Operands.{stands-whole}
use Rattle.tce_fusion.specs.Relation.{Relation, joined, cut, HasNoConflict, Allows}
use Rattle.tce_fusion.specs.State.{root_number, first_right, fused_at_root, state, operands_joined, HasState, size_left, cost, operands_cost}
use Rattle.tce_fusion.specs.Reached.{sets_of_step}
use Rattle.tce_fusion.proofs.Operands.{operations-node, left_operand_at, right_operand_at}
use Rattle.tce_fusion.proofs.Tells.{state-leaf, state-node}
use Rattle.tce_fusion.proofs.LegalStates.{state_from_leaf, state_from_parts, state_parts, legal_from_states}
use Rattle.tce_fusion.proofs.Costs.{cost-leaf, cost-node, costs_add_up}
use Rattle.tce_fusion.proofs.Reached.{SameSets, Alike, alike}
use Rattle.tce_spill.specs.Parts.{FitsMemory}

-- each two indexes that are above in the first relation are above in the second
abbrev pub IsUnder : Relation → Relation → Type 0
IsUnder r s = (i j : ℕ) → IsTrue (r i j) → IsTrue (s i j)

pub no_conflict_under : (l : ℕ) (r s : Relation) → IsUnder r s → HasNoConflict l s → HasNoConflict l r
no_conflict_under l r s under quiet i j p q x y = quiet i j p q (under i j x) (under j i y)

pub allows_under : (l : ℕ) (r s : Relation) (fused : ℕ) → IsUnder r s → Allows l s fused → Allows l r fused
allows_under l r s fused under allowed i j p out inn x = allowed i j p out inn (under i j x)

joined_under : (r s t u : Relation) → IsUnder r t → IsUnder s u → IsUnder (joined r s) (joined t u)
joined_under r s t u a b i j x =
    elim (or_cases (r i j) (s i j) x) [ inl y ↦ or_left (t i j) (u i j) (a i j y) | inr y ↦ or_right (t i j) (u i j) (b i j y) ]

cut_under : (fused : ℕ) (r s : Relation) → IsUnder r s → IsUnder (cut fused r) (cut fused s)
cut_under fused r s under i j x =
    let both = and_parts (has fused i) (not (has fused j) || r i j) x in
    and_from (has fused i) (not (has fused j) || s i j) both.0
    (elim (or_cases (not (has fused j)) (r i j) both.1) [ inl y ↦ or_left (not (has fused j)) (s i j) y | inr y ↦ or_right (not (has fused j)) (s i j) (under i j y) ])

-- some sets give the tree a state under a relation, and within a cost
pub record IsFused (space : IndexSpace) (tree : ContractionTree) (relation : Relation) (limit : ℕ) : Type 0 where
  pub sets : List ℕ
  pub count : length sets ≡ operations tree
  pub within : (v : ℕ) → v < operations tree → IsWithin (fused_at sets v) (dims (node tree v))
  pub exists : HasState sets 0 tree
  pub under : IsUnder (state sets 0 tree) relation
  pub cheap : cost space sets 0 tree ≤ limit

pub fused_leaf : (space : IndexSpace) (tree : ContractionTree) (relation : Relation) (limit : ℕ) → is_leaf tree ≡ true → IsFused space tree relation limit
fused_leaf space tree relation limit leaf_tree = record {
  sets = [];
  count = sym (operations-leaf tree leaf_tree);
  within = λ v v_in. absurd (omega (arith, operations-leaf tree leaf_tree));
  exists = state_from_leaf [] 0 tree leaf_tree;
  under = λ i j x. absurd (false≢true (ap (λ r. r i j) (sym (state-leaf [] 0 tree leaf_tree)) ∙ x));
  cheap = omega (arith, cost-leaf space [] 0 tree leaf_tree);
}

module _ (space : IndexSpace) (c : ContractionTree) (node_c : is_leaf c ≡ false) (left right : Relation) (left_cost right_cost fused : ℕ)
    (of_left : IsFused space (left_tree c) left left_cost) (of_right : IsFused space (right_tree c) right right_cost) where
  abbrev step_sets : List ℕ
  step_sets = sets_of_step of_left.sets of_right.sets fused

  same_left : SameSets of_left.sets step_sets 0 0 (operations (left_tree c))
  same_left u l = sym (get_or_append_left of_left.sets (of_right.sets ++ fused ∷ []) 0 (0 + u) (omega (arith, of_left.count)))

  same_right : SameSets of_right.sets step_sets 0 (first_right 0 c) (operations (right_tree c))
  same_right u l =
      let at : first_right 0 c + u - operations (left_tree c) ≡ 0 + u = omega arith in
      sym (get_or-append_right of_left.sets (of_right.sets ++ fused ∷ []) (operations (left_tree c)) (first_right 0 c + u) 0 of_left.count (omega arith)
      ∙ ap (λ k. get_or (of_right.sets ++ fused ∷ []) k 0) at
      ∙ get_or_append_left of_right.sets (fused ∷ []) 0 (0 + u) (omega (arith, of_right.count)))

  last_set : (v : ℕ) → v ≡ operations (left_tree c) + operations (right_tree c) → fused_at step_sets v ≡ fused
  last_set v is =
      let at : v - operations (left_tree c) ≡ operations (right_tree c) = omega arith in
      let start : operations (right_tree c) - operations (right_tree c) ≡ 0 = omega arith in
      get_or-append_right of_left.sets (of_right.sets ++ fused ∷ []) (operations (left_tree c)) v 0 of_left.count (omega arith)
      ∙ ap (λ k. get_or (of_right.sets ++ fused ∷ []) k 0) at
      ∙ get_or-append_right of_right.sets (fused ∷ []) (operations (right_tree c)) (operations (right_tree c)) 0 of_right.count (omega arith)
      ∙ ap (λ k. get_or (fused ∷ []) k 0) start

  root_set : fused_at_root step_sets 0 c ≡ fused
  root_set = let count = operations-node c node_c in last_set (root_number 0 c) (omega arith)

  left_alike : Alike space of_left.sets step_sets 0 0 (left_tree c)
  left_alike = alike space of_left.sets step_sets (left_tree c) 0 0 same_left

  right_alike : Alike space of_right.sets step_sets 0 (first_right 0 c) (right_tree c)
  right_alike = alike space of_right.sets step_sets (right_tree c) 0 (first_right 0 c) same_right

  join_under : IsUnder (operands_joined step_sets 0 c) (joined left right)
  join_under =
      joined_under (state step_sets 0 (left_tree c)) (state step_sets (first_right 0 c) (right_tree c)) left right
      (subst (λ r. IsUnder r left) left_alike.relation of_left.under) (subst (λ r. IsUnder r right) right_alike.relation of_right.under)

  step_cost : operands_cost space step_sets 0 c ≤ left_cost + right_cost
  step_cost = omega (arith, left_alike.cost_is, right_alike.cost_is, of_left.cheap, of_right.cheap)

  step_count : length step_sets ≡ operations c
  step_count =
      let p = length-append of_left.sets (of_right.sets ++ fused ∷ []) in
      let q = length-append of_right.sets (fused ∷ []) in
      omega (arith, p, q, of_left.count, of_right.count, operations-node c node_c)

  step_within : IsWithin fused (dims c) → (v : ℕ) → v < operations c → IsWithin (fused_at step_sets v) (dims (node c v))
  step_within within v v_in i m =
      let count = operations-node c node_c in
      elim (cases_lt v (operations (left_tree c))) [
        | inl x ↦
            let zero_in : 0 + v ≡ v = omega arith in
            let at = (left_operand_at c 0 c node_c (stands-whole c)).stands.same v x in
            subst (λ t. IsTrue (has (dims t) i)) (sym at ∙ ap (node c) zero_in)
            (of_left.within v x i (subst (λ s. IsTrue (has s i)) (ap (fused_at step_sets) (sym zero_in) ∙ sym (same_left v x) ∙ ap (fused_at of_left.sets) zero_in) m))
        | inr x ↦ elim (cases_lt v (operations (left_tree c) + operations (right_tree c))) [
          | inl y ↦
              let back : first_right 0 c + (v - operations (left_tree c)) ≡ v = omega arith in
              let zero_in : 0 + (v - operations (left_tree c)) ≡ v - operations (left_tree c) = omega arith in
              let at = (right_operand_at c 0 c node_c (stands-whole c)).stands.same (v - operations (left_tree c)) (omega arith) in
              subst (λ t. IsTrue (has (dims t) i)) (sym at ∙ ap (node c) back)
              (of_right.within (v - operations (left_tree c)) (omega arith) i (subst (λ s. IsTrue (has s i))
              (ap (fused_at step_sets) (sym back) ∙ sym (same_right (v - operations (left_tree c)) (omega arith)) ∙ ap (fused_at of_right.sets) zero_in) m))
          | inr y ↦
              let top = node-root c v (omega arith) in
              subst (λ t. IsTrue (has (dims t) i)) (sym top) (within i (subst (λ s. IsTrue (has s i)) (last_set v (omega arith)) m))
        ]
      ]

  -- the state of the step exists where the operands' states have no conflict and allow the set
  step_exists : HasNoConflict (loops c) (joined left right) → Allows (loops c) (joined left right) fused → HasState step_sets 0 c
  step_exists quiet allowed =
      state_from_parts step_sets 0 c node_c (left_alike.exists of_left.exists) (right_alike.exists of_right.exists) (
        no_conflict_under (loops c) (operands_joined step_sets 0 c) (joined left right) join_under quiet,
        subst (λ s. Allows (loops c) (operands_joined step_sets 0 c) s) (sym root_set)
            (allows_under (loops c) (operands_joined step_sets 0 c) (joined left right) fused join_under allowed),
      )

  pub fused_step : HasNoConflict (loops c) (joined left right) → Allows (loops c) (joined left right) fused → IsWithin fused (dims c)
      → IsFused space c (cut fused (joined left right)) (left_cost + right_cost + size_left space c fused)
  fused_step quiet allowed within = record {
    sets = step_sets;
    count = step_count;
    within = step_within within;
    exists = step_exists quiet allowed;
    under =
        subst (λ r. IsUnder r (cut fused (joined left right)))
        (sym (state-node step_sets 0 c node_c ∙ ap (λ s. cut s (operands_joined step_sets 0 c)) root_set))
        (cut_under fused (operands_joined step_sets 0 c) (joined left right) join_under);
    cheap = let size = ap (size_left space c) root_set in omega (arith, size, step_cost, cost-node space step_sets 0 c node_c);
  }

  -- nothing is fused at the root of a whole tree
  pub fits_memory : fused ≡ empty → HasNoConflict (loops c) (joined left right) → FitsMemory space c (left_cost + right_cost)
  unfolding node_dims
  fits_memory nothing quiet = record { fusion = step_sets; fits = fits; legal = legal; cheap = omega (arith, step_cost, costs_add_up space c step_sets) }
    where
      nowhere : (i : ℕ) → has fused i ≡ false
      nowhere i = ap (λ s. has s i) nothing ∙ has-empty i

      fits : FusionFits c step_sets
      fits = record {
        each = step_count;
        within = step_within (λ i m. absurd (both_ways (has fused i) (nowhere i) m));
        root = let count = operations-node c node_c in last_set (operations c - 1) (omega arith) ∙ nothing;
      }

      legal : IsLegal c step_sets
      legal =
          let parts = state_parts step_sets 0 c node_c (step_exists quiet (λ i j p out inn x. both_ways (has fused j) (nowhere j) inn)) in
          legal_from_states c step_sets fits (record { left = parts.left; right = parts.right; root = parts.quiet })
