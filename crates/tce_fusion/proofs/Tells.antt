-- The state of a subtree tells which scopes go further in the subtree than others.
use Rattle.std.proofs.Common.{◌≡◌, ◌↔◌, ℕ, ◌+◌, ◌<◌, ◌≤◌, ◌||◌, not, Bool, true, false, List, refl, sym, subst, inl, inr, arith}
use Rattle.std.specs.Prelude.{IsTrue}
use Rattle.std.proofs.lemmas.Bool.{false_from_ne_true, or_cases, or_parts, and_parts, and_cases, cases_Bool, cases_lt, false≢true, true≢false, both_ways, not-true, not-false}
use Rattle.tce_space.specs.IndexSet.{has}
use Rattle.tce_tree.specs.ContractionTree.{ContractionTree, leaf, constant, binary, sum, is_leaf, left_tree, right_tree, operations, node}
use Rattle.tce_tree.specs.FlatTree.{first_number_of}
use Rattle.tce_tree.proofs.Nodes.{size_bounds, node_of_some, operations-leaf}
use Rattle.tce_tree.proofs.Operands.{Stands, stands-node}
use Rattle.tce_tree.proofs.Parents.{subtree_is, subtree_from}
use Rattle.tce_fusion.specs.Scope.{scope}
use Rattle.tce_fusion.proofs.ScopeLaws.{is_spanned}
use Rattle.tce_fusion.specs.Relation.{Relation, none, joined, cut}
use Rattle.tce_fusion.specs.State.{root_number, first_right, fused_at_root, state, operands_joined, GoesFurther}
use Rattle.tce_fusion.proofs.Operands.{by_operands, operations-node, IsOperand, left_operand_at, right_operand_at}
use Rattle.tce_fusion.proofs.Links.{linked_up, linked_below, linked_above}

-- a node of a range that the scope of i at r has, and that of j lacks
pub record Separates (tree : ContractionTree) (fusion : List ℕ) (r low high i j : ℕ) : Type 0 where
  pub at : ℕ
  pub from : low ≤ at
  pub below : at < high
  pub linked : IsTrue (scope tree fusion i r at)
  pub apart : IsTrue (scope tree fusion j r at) → ⊥

-- the scope of j at r has each node of the range that the scope of i has
abbrev pub Follows : ContractionTree → List ℕ → ℕ → ℕ → ℕ → ℕ → ℕ → Type 0
Follows tree fusion r low high i j = (w : ℕ) → low ≤ w → w < high → IsTrue (scope tree fusion i r w) → IsTrue (scope tree fusion j r w)

-- a relation says of each two indexes whether the scope of the one goes further
pub record Tells (tree : ContractionTree) (fusion : List ℕ) (r low high : ℕ) (above : Relation) : Type 0 where
  pub separates : (i j : ℕ) → IsTrue (above i j) → Separates tree fusion r low high i j
  pub follows : (i j : ℕ) → above i j ≡ false → Follows tree fusion r low high i j

-- of no nodes the relation without pairs tells
nothing_tells : (tree : ContractionTree) (fusion : List ℕ) (r low high : ℕ) → high ≤ low → Tells tree fusion r low high none
nothing_tells tree fusion r low high nothing = record { separates = λ i j h. absurd (false≢true h); follows = λ i j h w from below linked. absurd (omega arith) }

-- from the join at an operand's root to the operand's state
cut_tells : (tree : ContractionTree) (fusion : List ℕ) (r first : ℕ) (c : ContractionTree) (above : Relation) → IsOperand tree r first c → 0 < operations c
    → Tells tree fusion (root_number first c) first (first + operations c) above → Tells tree fusion r first (first + operations c) (cut (fused_at_root fusion first c) above)
cut_tells tree fusion r first c above operand some tells = record { separates = λ i j h. yes i j h; follows = λ i j h. no i j h }
  where
    fused : ℕ → Bool
    fused i = has (fused_at_root fusion first c) i

    yes : (i j : ℕ) → IsTrue (cut (fused_at_root fusion first c) above i j) → Separates tree fusion r first (first + operations c) i j
    yes i j h =
        let parts = and_parts (fused i) (not (fused j) || above i j) h in
        elim (cases_Bool (fused j)) [
          | inl inn ↦
              let pair : IsTrue (above i j) = elim (or_cases (not (fused j)) (above i j) parts.1) [
                | inl out ↦ absurd (both_ways (fused j) (not-true (fused j) out) inn)
                | inr x ↦ x
              ] in
              let found = tells.separates i j pair in
              record {
                at = found.at;
                from = found.from;
                below = found.below;
                linked = linked_above tree fusion r first c operand some i found.at parts.0 found.linked;
                apart = λ linked. found.apart (linked_below tree fusion r first c operand j found.at found.from found.below linked).1;
              }
          | inr out ↦
              record {
                at = root_number first c;
                from = omega arith;
                below = omega arith;
                linked = linked_up tree fusion r first c operand some i parts.0;
                apart = λ linked. both_ways (fused j) out (linked_below tree fusion r first c operand j (root_number first c) (omega arith) (omega arith) linked).0;
              }
        ]

    no : (i j : ℕ) → cut (fused_at_root fusion first c) above i j ≡ false → Follows tree fusion r first (first + operations c) i j
    no i j h w low high linked =
        let here = linked_below tree fusion r first c operand i w low high linked in
        let rest : (not (fused j) || above i j) ≡ false = elim (and_cases (fused i) (not (fused j) || above i j) h) [
          | inl out ↦ absurd (both_ways (fused i) out here.0)
          | inr x ↦ x
        ] in
        let parts = or_parts (not (fused j)) (above i j) rest in
        linked_above tree fusion r first c operand some j w (not-false (fused j) parts.0) (tells.follows i j parts.1 w low high here.1)

-- both operands together, and the node itself
joined_tells : (tree : ContractionTree) (fusion : List ℕ) (low mid high : ℕ) (a b : Relation) → low ≤ mid → mid ≤ high
    → Tells tree fusion high low mid a → Tells tree fusion high mid high b → Tells tree fusion high low (high + 1) (joined a b)
joined_tells tree fusion low mid high a b first second left right = record { separates = λ i j h. yes i j h; follows = λ i j h. no i j h }
  where
    yes : (i j : ℕ) → IsTrue (joined a b i j) → Separates tree fusion high low (high + 1) i j
    yes i j h =
        elim (or_cases (a i j) (b i j) h) [
          | inl x ↦ let found = left.separates i j x in
              record { at = found.at; from = found.from; below = omega (arith, found.below); linked = found.linked; apart = found.apart }
          | inr x ↦ let found = right.separates i j x in
              record { at = found.at; from = omega (arith, found.from); below = omega (arith, found.below); linked = found.linked; apart = found.apart }
        ]

    no : (i j : ℕ) → joined a b i j ≡ false → Follows tree fusion high low (high + 1) i j
    no i j h w from below linked =
        let parts = or_parts (a i j) (b i j) h in
        elim (cases_lt w mid) [
          | inl x ↦ left.follows i j parts.0 w from x linked
          | inr x ↦ elim (cases_lt w high) [
            | inl y ↦ right.follows i j parts.1 w x y linked
            | inr y ↦
                let same : w ≡ high = omega arith in
                subst (λ k. IsTrue (scope tree fusion j high k)) (sym same) ((is_spanned tree fusion).itself j high)
          ]
        ]

pub state-leaf : (fusion : List ℕ) (first : ℕ) (c : ContractionTree) → is_leaf c ≡ true → state fusion first c ≡ none
state-leaf fusion first (leaf tensor indexes) h = refl
state-leaf fusion first (constant number) h = refl
state-leaf fusion first (binary op l r) h = absurd (false≢true h)
state-leaf fusion first (sum indexes e) h = absurd (false≢true h)

pub state-node : (fusion : List ℕ) (first : ℕ) (c : ContractionTree) → is_leaf c ≡ false
    → state fusion first c ≡ cut (fused_at_root fusion first c) (operands_joined fusion first c)
state-node fusion first (leaf tensor indexes) h = absurd (true≢false h)
state-node fusion first (constant number) h = absurd (true≢false h)
state-node fusion first (binary op l r) h = refl
state-node fusion first (sum indexes e) h = refl

-- what the states of the operands tell of node `r`
abbrev pub OperandTells : ContractionTree → List ℕ → ContractionTree → Type 0
OperandTells tree fusion c = (r first : ℕ) → IsOperand tree r first c → Tells tree fusion r first (first + operations c) (state fusion first c)

operands_tell : (tree : ContractionTree) (fusion : List ℕ) (c : ContractionTree) → is_leaf c ≡ false → OperandTells tree fusion (left_tree c) → OperandTells tree fusion (right_tree c)
    → (first : ℕ) → Stands tree first c → Tells tree fusion (root_number first c) first (first + operations c) (operands_joined fusion first c)
operands_tell tree fusion c node_c left right first st =
    let count = operations-node c node_c in
    let last : root_number first c + 1 ≡ first + operations c = omega arith in
    let end : first_right first c + operations (right_tree c) ≡ root_number first c = omega arith in
    subst (λ k. Tells tree fusion (root_number first c) first k (operands_joined fusion first c)) last
    (joined_tells tree fusion first (first_right first c) (root_number first c) (state fusion first (left_tree c)) (state fusion (first_right first c) (right_tree c)) (omega arith) (omega arith)
    (left (root_number first c) first (left_operand_at tree first c node_c st))
    (subst (λ k. Tells tree fusion (root_number first c) (first_right first c) k (state fusion (first_right first c) (right_tree c))) end
    (right (root_number first c) (first_right first c) (right_operand_at tree first c node_c st))))

operand_tells : (tree : ContractionTree) (fusion : List ℕ) (c : ContractionTree) → OperandTells tree fusion c
operand_tells tree fusion c = by_operands (OperandTells tree fusion) at_leaf at_node c
  where
    at_leaf : (t : ContractionTree) → is_leaf t ≡ true → OperandTells tree fusion t
    at_leaf t leaf_t r first operand =
        subst (λ s. Tells tree fusion r first (first + operations t) s) (sym (state-leaf fusion first t leaf_t))
        (nothing_tells tree fusion r first (first + operations t) (omega (arith, operations-leaf t leaf_t)))

    at_node : (t : ContractionTree) → is_leaf t ≡ false → OperandTells tree fusion (left_tree t) → OperandTells tree fusion (right_tree t) → OperandTells tree fusion t
    at_node t node_t left right r first operand =
        subst (λ s. Tells tree fusion r first (first + operations t) s) (sym (state-node fusion first t node_t))
        (cut_tells tree fusion r first t (operands_joined fusion first t) operand (omega (arith, operations-node t node_t)) (operands_tell tree fusion t node_t left right first operand.stands))

-- at each node the join says of each two indexes whose scope goes further in the subtree
pub join_tells : (tree : ContractionTree) (fusion : List ℕ) (first : ℕ) (c : ContractionTree) → is_leaf c ≡ false → Stands tree first c
    → Tells tree fusion (root_number first c) first (first + operations c) (operands_joined fusion first c)
join_tells tree fusion first c node_c st = operands_tell tree fusion c node_c (operand_tells tree fusion (left_tree c)) (operand_tells tree fusion (right_tree c)) first st

-- a subtree's numbers end at its node
pub range_end : (tree : ContractionTree) (v : ℕ) → v < operations tree → first_number_of tree v + operations (node tree v) ≡ v + 1
unfolding first_number_of
range_end tree v v_in = omega (arith, size_bounds tree v v_in)

-- so at each node it says whose scope goes further
pub joins_tell_scopes : (tree : ContractionTree) (fusion : List ℕ) (v i j : ℕ) → v < operations tree
    → IsTrue (operands_joined fusion (first_number_of tree v) (node tree v) i j) ↔ GoesFurther tree fusion v i j
joins_tell_scopes tree fusion v i j v_in = (further, above)
  where
    room : (0 < operations (node tree v)) × (operations (node tree v) ≤ v + 1)
    room = size_bounds tree v v_in

    first : first_number_of tree v + operations (node tree v) ≡ v + 1
    first = range_end tree v v_in

    number : root_number (first_number_of tree v) (node tree v) ≡ v
    number = omega (arith, first)

    tells : Tells tree fusion v (first_number_of tree v) (first_number_of tree v + operations (node tree v)) (operands_joined fusion (first_number_of tree v) (node tree v))
    tells = subst (λ k. Tells tree fusion k (first_number_of tree v) (first_number_of tree v + operations (node tree v)) (operands_joined fusion (first_number_of tree v) (node tree v))) number
        (join_tells tree fusion (first_number_of tree v) (node tree v) (node_of_some (node tree v) room.0) (stands-node tree v v_in))

    further : IsTrue (operands_joined fusion (first_number_of tree v) (node tree v) i j) → GoesFurther tree fusion v i j
    further h =
        let found = tells.separates i j h in
        record {
          at = found.at;
          below = subtree_from tree v found.at (omega (arith, found.below, first)) (omega (arith, found.from, first));
          reached = found.linked;
          not_reached = false_from_ne_true (scope tree fusion j v found.at) found.apart;
        }

    above : GoesFurther tree fusion v i j → IsTrue (operands_joined fusion (first_number_of tree v) (node tree v) i j)
    above far =
        elim (cases_Bool (operands_joined fusion (first_number_of tree v) (node tree v) i j)) [
          | inl x ↦ x
          | inr x ↦
              let r = subtree_is tree v far.at far.below in
              absurd (both_ways (scope tree fusion j v far.at) far.not_reached (tells.follows i j x far.at (omega (arith, r.1, first)) (omega (arith, r.0, first)) far.reached))
        ]
