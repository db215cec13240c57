-- A fusion is legal exactly where the states of its subtrees exist.
use Rattle.std.proofs.Common.{◌≡◌, ◌↔◌, ℕ, ◌+◌, ◌-◌, ◌<◌, ◌≤◌, ◌⊎◌, true, false, Some, List, sym, ap, ◌∙◌, subst, inl, inr, arith}
use Rattle.std.specs.Prelude.{IsTrue}
use Rattle.std.proofs.lemmas.Bool.{cases_Bool, cases_lt, false≢true, true≢false, both_ways}
use Rattle.tce_space.specs.IndexSet.{has, IsWithin}
use Rattle.tce_space.proofs.IndexSetLaws.{has-empty}
use Rattle.tce_tree.specs.ContractionTree.{ContractionTree, leaf, constant, binary, sum, is_leaf, left_tree, right_tree, dims, loops, operations, node, node_loops, parent}
use Rattle.tce_tree.specs.FlatTree.{first_number_of}
use Rattle.tce_tree.specs.Fusion.{FusionFits, fused_at}
use Rattle.tce_tree.proofs.Nodes.{size_bounds, node_of_some, operations-leaf}
use Rattle.tce_tree.proofs.Operands.{Stands, stands-whole, stands-node}
use Rattle.tce_fusion.specs.Scope.{scope, IsSubset, IsLegal}
use Rattle.tce_fusion.specs.Tops.{AreNested}
use Rattle.tce_fusion.proofs.Illegal.{subset_or_not, legal_from_none, none_from_legal}
use Rattle.tce_fusion.proofs.ScopeLaws.{is_spanned, parent_of, parent-is, parent_of_is}
use Rattle.tce_fusion.specs.Relation.{Allows}
use Rattle.tce_fusion.specs.State.{root_number, first_right, fused_at_root, operands_joined, IsJoined, IsStep, HasState, HasStates}
use Rattle.tce_fusion.proofs.Operands.{by_operands, operations-node, left_dims_within, right_dims_within, root_inside, node-at_root, first-at_root, fused_within, fused_within_loops, IsOperand, left_operand_at, right_operand_at}
use Rattle.tce_fusion.proofs.Links.{linked_up, fused_between}
use Rattle.tce_fusion.proofs.Tells.{join_tells}

-- ---- nested scopes

-- one of the scopes of two indexes at a node contains the other
abbrev pub Nested : ContractionTree → List ℕ → ℕ → ℕ → ℕ → Type 0
Nested tree fusion x i j = AreNested (operations tree) (scope tree fusion i x) (scope tree fusion j x)

pub nested_from_legal : (tree : ContractionTree) (fusion : List ℕ) → IsLegal tree fusion → (x : ℕ) → x < operations tree → (i j : ℕ)
    → IsTrue (has (node_loops tree x) i) → IsTrue (has (node_loops tree x) j) → Nested tree fusion x i j
nested_from_legal tree fusion legal x x_in i j li lj =
    elim (subset_or_not (operations tree) (scope tree fusion i x) (scope tree fusion j x)) [
      | inl sub ↦ inl sub
      | inr apart ↦ elim (subset_or_not (operations tree) (scope tree fusion j x) (scope tree fusion i x)) [
        | inl sub ↦ inr sub
        | inr far ↦ absurd (none_from_legal tree fusion legal x x_in (record { first = i; second = j; first_is = li; second_is = lj; not_within = apart; not_around = far }))
      ]
    ]

pub legal_from_nested : (tree : ContractionTree) (fusion : List ℕ) → FusionFits tree fusion
    → ((x i j : ℕ) → x < operations tree → IsTrue (has (node_loops tree x) i) → IsTrue (has (node_loops tree x) j) → Nested tree fusion x i j) → IsLegal tree fusion
legal_from_nested tree fusion fits nested =
    legal_from_none tree fusion fits (λ x x_in bad. elim (nested x bad.first bad.second x_in bad.first_is bad.second_is) [ inl sub ↦ bad.not_within sub | inr sub ↦ bad.not_around sub ])

-- the loops of a subtree's root
pub loops_at_root : (tree : ContractionTree) (first : ℕ) (c : ContractionTree) → Stands tree first c → 0 < operations c → node_loops tree (root_number first c) ≡ loops c
unfolding node_loops
loops_at_root tree first c st some = ap loops (node-at_root tree first c st some)

-- any two loops of a subtree's root have nested scopes there
abbrev RootNested : ContractionTree → List ℕ → ℕ → ContractionTree → Type 0
RootNested tree fusion first c = (i j : ℕ) → IsTrue (has (loops c) i) → IsTrue (has (loops c) j) → Nested tree fusion (root_number first c) i j

-- ---- from a legal fusion to its states

-- an index whose scope goes further in a subtree is not within the other's
further : (tree : ContractionTree) (fusion : List ℕ) (first : ℕ) (c : ContractionTree) → is_leaf c ≡ false → Stands tree first c → (i j : ℕ)
    → IsTrue (operands_joined fusion first c i j) → IsSubset (operations tree) (scope tree fusion i (root_number first c)) (scope tree fusion j (root_number first c)) → ⊥
further tree fusion first c node_c st i j ij sub =
    let found = (join_tells tree fusion first c node_c st).separates i j ij in
    found.apart (sub found.at (omega (arith, found.below, st.inside)) found.linked)

joined_from_nested : (tree : ContractionTree) (fusion : List ℕ) (first : ℕ) (c : ContractionTree) → is_leaf c ≡ false → Stands tree first c → RootNested tree fusion first c
    → IsJoined fusion first c
joined_from_nested tree fusion first c node_c st nested i j li lj ij ji =
    elim (nested i j li lj) [
      | inl sub ↦ further tree fusion first c node_c st i j ij sub
      | inr sub ↦ further tree fusion first c node_c st j i ji sub
    ]

allows_from_nested : (tree : ContractionTree) (fusion : List ℕ) (r first : ℕ) (c : ContractionTree) → is_leaf c ≡ false → IsOperand tree r first c → FusionFits tree fusion
    → RootNested tree fusion first c → Allows (loops c) (operands_joined fusion first c) (fused_at_root fusion first c)
allows_from_nested tree fusion r first c node_c operand fits nested i j li out inn ij =
    elim (nested i j li (fused_within_loops tree fusion first c fits operand.stands some j inn)) [
      | inl sub ↦ further tree fusion first c node_c operand.stands i j ij sub
      | inr sub ↦
          let up = linked_up tree fusion r first c operand some j inn in
          let s = is_spanned tree fusion in
          let away = sub r operand.inside (s.back j r (root_number first c) up) in
          both_ways (has (fused_at_root fusion first c) i) out (s.lower i (root_number first c) r (omega (arith, operand.below, some)) operand.inside away)
    ]
  where
    some : 0 < operations c
    some = omega (arith, operations-node c node_c)

pub state_from_leaf : (fusion : List ℕ) (first : ℕ) (c : ContractionTree) → is_leaf c ≡ true → HasState fusion first c
state_from_leaf fusion first (leaf tensor indexes) h = tt
state_from_leaf fusion first (constant number) h = tt
state_from_leaf fusion first (binary op l r) h = absurd (false≢true h)
state_from_leaf fusion first (sum indexes e) h = absurd (false≢true h)

pub state_from_parts : (fusion : List ℕ) (first : ℕ) (c : ContractionTree) → is_leaf c ≡ false → HasState fusion first (left_tree c) → HasState fusion (first_right first c) (right_tree c)
    → IsStep fusion first c → HasState fusion first c
state_from_parts fusion first (leaf tensor indexes) h left right step = absurd (true≢false h)
state_from_parts fusion first (constant number) h left right step = absurd (true≢false h)
state_from_parts fusion first (binary op l r) h left right step = (left, right, step)
state_from_parts fusion first (sum indexes e) h left right step = (left, step)

-- the parts of a state of a node
pub record StateParts (fusion : List ℕ) (first : ℕ) (c : ContractionTree) : Type 0 where
  pub left : HasState fusion first (left_tree c)
  pub right : HasState fusion (first_right first c) (right_tree c)
  pub quiet : IsJoined fusion first c
  pub allowed : Allows (loops c) (operands_joined fusion first c) (fused_at_root fusion first c)

pub state_parts : (fusion : List ℕ) (first : ℕ) (c : ContractionTree) → is_leaf c ≡ false → HasState fusion first c → StateParts fusion first c
state_parts fusion first (leaf tensor indexes) h s = absurd (true≢false h)
state_parts fusion first (constant number) h s = absurd (true≢false h)
state_parts fusion first (binary op l r) h s = record { left = s.0; right = s.1; quiet = s.2.0; allowed = s.2.1 }
state_parts fusion first (sum indexes e) h s = record { left = s.0; right = tt; quiet = s.1.0; allowed = s.1.1 }

operand_has_state : (tree : ContractionTree) (fusion : List ℕ) → FusionFits tree fusion → IsLegal tree fusion → (c : ContractionTree)
    → (r first : ℕ) → IsOperand tree r first c → HasState fusion first c
operand_has_state tree fusion fits legal c =
    by_operands (λ t. (r first : ℕ) → IsOperand tree r first t → HasState fusion first t) (λ t leaf_t r first operand. state_from_leaf fusion first t leaf_t)
    (λ t node_t left right r first operand.
    let nested = root_nested tree fusion legal first t node_t operand.stands in
    state_from_parts fusion first t node_t
    (left (root_number first t) first (left_operand_at tree first t node_t operand.stands))
    (right (root_number first t) (first_right first t) (right_operand_at tree first t node_t operand.stands))
    (joined_from_nested tree fusion first t node_t operand.stands nested, allows_from_nested tree fusion r first t node_t operand fits nested)) c
  where
    root_nested : (tree : ContractionTree) (fusion : List ℕ) → IsLegal tree fusion → (first : ℕ) (c : ContractionTree) → is_leaf c ≡ false → Stands tree first c → RootNested tree fusion first c
    root_nested tree fusion legal first c node_c st i j li lj =
        let some : 0 < operations c = omega (arith, operations-node c node_c) in
        let same = loops_at_root tree first c st some in
        nested_from_legal tree fusion legal (root_number first c) (root_inside tree first c st some) i j (ap (λ s. has s i) same ∙ li) (ap (λ s. has s j) same ∙ lj)

-- the states of the root's operands exist, and have no conflict there
pub record OperandStates (fusion : List ℕ) (tree : ContractionTree) : Type 0 where
  pub left : HasState fusion 0 (left_tree tree)
  pub right : HasState fusion (first_right 0 tree) (right_tree tree)
  pub root : IsJoined fusion 0 tree

leaf_states : (fusion : List ℕ) (t : ContractionTree) → is_leaf t ≡ true → OperandStates fusion t
leaf_states fusion (leaf tensor indexes) h = record { left = tt; right = tt; root = λ i j li lj ij ji. false≢true ij }
leaf_states fusion (constant number) h = record { left = tt; right = tt; root = λ i j li lj ij ji. false≢true ij }
leaf_states fusion (binary op l r) h = absurd (false≢true h)
leaf_states fusion (sum indexes e) h = absurd (false≢true h)

pub states_from_legal : (tree : ContractionTree) (fusion : List ℕ) → FusionFits tree fusion → IsLegal tree fusion → OperandStates fusion tree
states_from_legal tree fusion fits legal = elim (cases_Bool (is_leaf tree)) [ inl leaf_tree ↦ leaf_states fusion tree leaf_tree | inr node_tree ↦ of_node node_tree ]
  where
    of_node : is_leaf tree ≡ false → OperandStates fusion tree
    of_node h =
        let st = stands-whole tree in
        let some : 0 < operations tree = omega (arith, operations-node tree h) in
        let same = loops_at_root tree 0 tree st some in
        record {
          left = operand_has_state tree fusion fits legal (left_tree tree) (root_number 0 tree) 0 (left_operand_at tree 0 tree h st);
          right = operand_has_state tree fusion fits legal (right_tree tree) (root_number 0 tree) (first_right 0 tree) (right_operand_at tree 0 tree h st);
          root = joined_from_nested tree fusion 0 tree h st (λ i j li lj.
              nested_from_legal tree fusion legal (root_number 0 tree) (root_inside tree 0 tree st some) i j (ap (λ s. has s i) same ∙ li) (ap (λ s. has s j) same ∙ lj));
        }

-- ---- from states to a legal fusion

-- where the root does not fuse i, its scope stays in the subtree, so the join tells of the whole scope
whole_scope : (tree : ContractionTree) (fusion : List ℕ) (first : ℕ) (c : ContractionTree) → is_leaf c ≡ false → Stands tree first c → (i j : ℕ) → has (fused_at_root fusion first c) i ≡ false
    → operands_joined fusion first c i j ≡ false → IsSubset (operations tree) (scope tree fusion i (root_number first c)) (scope tree fusion j (root_number first c))
whole_scope tree fusion first c node_c st i j out apart w w_in linked =
    elim (cases_lt w first) [
      | inl x ↦ absurd (away (inl x))
      | inr x ↦ elim (cases_lt w (first + operations c)) [
        | inl y ↦ (join_tells tree fusion first c node_c st).follows i j apart w x y linked
        | inr y ↦ absurd (away (inr y))
      ]
    ]
  where
    away : (w < first) ⊎ (first + operations c ≤ w) → ⊥
    away far =
        let some = operations-node c node_c in
        both_ways (has (fused_at_root fusion first c) i) out
        (fused_between tree fusion first c st i w (root_number first c) w_in far (omega arith) (omega arith) ((is_spanned tree fusion).back i (root_number first c) w linked))

-- two loops that a subtree's root fuses have nested scopes there
abbrev NestedWhereFused : ContractionTree → List ℕ → ℕ → ContractionTree → Type 0
NestedWhereFused tree fusion first c =
    (i j : ℕ) → IsTrue (has (fused_at_root fusion first c) i) → IsTrue (has (fused_at_root fusion first c) j) → Nested tree fusion (root_number first c) i j

root_nested_from : (tree : ContractionTree) (fusion : List ℕ) (first : ℕ) (c : ContractionTree) → is_leaf c ≡ false → Stands tree first c → StateParts fusion first c
    → NestedWhereFused tree fusion first c → RootNested tree fusion first c
root_nested_from tree fusion first c node_c st parts both i j li lj =
    elim (cases_Bool (has (fused_at_root fusion first c) i)) [
      | inl ti ↦ elim (cases_Bool (has (fused_at_root fusion first c) j)) [
        | inl tj ↦ both i j ti tj
        | inr fj ↦ inr (whole_scope tree fusion first c node_c st j i fj (refused j i lj fj ti))
      ]
      | inr fi ↦ elim (cases_Bool (has (fused_at_root fusion first c) j)) [
        | inl tj ↦ inl (whole_scope tree fusion first c node_c st i j fi (refused i j li fi tj))
        | inr fj ↦ elim (cases_Bool (operands_joined fusion first c i j)) [
          | inl ij ↦ inr (whole_scope tree fusion first c node_c st j i fj (one_way ij))
          | inr apart ↦ inl (whole_scope tree fusion first c node_c st i j fi apart)
        ]
      ]
    ]
  where
    refused : (i j : ℕ) → IsTrue (has (loops c) i) → has (fused_at_root fusion first c) i ≡ false → IsTrue (has (fused_at_root fusion first c) j) → operands_joined fusion first c i j ≡ false
    refused i j li out inn = elim (cases_Bool (operands_joined fusion first c i j)) [
      | inl ij ↦ absurd (parts.allowed i j li out inn ij)
      | inr x ↦ x
    ]

    one_way : IsTrue (operands_joined fusion first c i j) → operands_joined fusion first c j i ≡ false
    one_way ij = elim (cases_Bool (operands_joined fusion first c j i)) [
      | inl ji ↦ absurd (parts.quiet i j li lj ij ji)
      | inr x ↦ x
    ]

-- nested scopes at a node, seen from an operand whose root fuses both indexes
subset_below : (tree : ContractionTree) (fusion : List ℕ) (r first : ℕ) (c : ContractionTree) → IsOperand tree r first c → 0 < operations c → (i j : ℕ)
    → IsTrue (has (fused_at_root fusion first c) i) → IsTrue (has (fused_at_root fusion first c) j)
    → IsSubset (operations tree) (scope tree fusion i r) (scope tree fusion j r) → IsSubset (operations tree) (scope tree fusion i (root_number first c)) (scope tree fusion j (root_number first c))
subset_below tree fusion r first c operand some i j ti tj sub w w_in linked =
    let s = is_spanned tree fusion in
    s.through j (root_number first c) r w (s.back j r (root_number first c) (linked_up tree fusion r first c operand some j tj))
    (sub w w_in (s.through i r (root_number first c) w (linked_up tree fusion r first c operand some i ti) linked))

operand_nested : (tree : ContractionTree) (fusion : List ℕ) (r first outer : ℕ) (c : ContractionTree) → IsOperand tree r first c → 0 < operations c → FusionFits tree fusion → IsWithin (dims c) outer
    → ((i j : ℕ) → IsTrue (has outer i) → IsTrue (has outer j) → Nested tree fusion r i j) → NestedWhereFused tree fusion first c
operand_nested tree fusion r first outer c operand some fits up nested i j ti tj =
    let li = up i (fused_within tree fusion first c fits operand.stands some i ti) in
    let lj = up j (fused_within tree fusion first c fits operand.stands some j tj) in
    elim (nested i j li lj) [
      | inl sub ↦ inl (subset_below tree fusion r first c operand some i j ti tj sub)
      | inr sub ↦ inr (subset_below tree fusion r first c operand some j i tj ti sub)
    ]

-- at each node of a subtree the loops have nested scopes
abbrev NestedIn : ContractionTree → List ℕ → ContractionTree → Type 0
NestedIn tree fusion c =
    (first : ℕ) → Stands tree first c → HasState fusion first c → (0 < operations c → NestedWhereFused tree fusion first c)
    → (x i j : ℕ) → first ≤ x → x < first + operations c → IsTrue (has (node_loops tree x) i) → IsTrue (has (node_loops tree x) j) → Nested tree fusion x i j

nested_in : (tree : ContractionTree) (fusion : List ℕ) → FusionFits tree fusion → (c : ContractionTree) → NestedIn tree fusion c
nested_in tree fusion fits c =
    by_operands (NestedIn tree fusion) (λ t leaf_t first st has_state fused x i j low high li lj. absurd (omega (arith, operations-leaf t leaf_t)))
    (λ t node_t left right. at_node t node_t left right) c
  where
    at_node : (t : ContractionTree) → is_leaf t ≡ false → NestedIn tree fusion (left_tree t) → NestedIn tree fusion (right_tree t) → NestedIn tree fusion t
    at_node t node_t left right first st has_state fused x i j low high li lj =
        let count = operations-node t node_t in
        let parts = state_parts fusion first t node_t has_state in
        let on_left = left_operand_at tree first t node_t st in
        let on_right = right_operand_at tree first t node_t st in
        let nested = root_nested_from tree fusion first t node_t st parts (fused (omega arith)) in
        elim (cases_lt x (first_right first t)) [
          | inl y ↦
              left first on_left.stands parts.left
              (λ some. operand_nested tree fusion (root_number first t) first (loops t) (left_tree t) on_left some fits (left_dims_within t node_t) nested) x i j low y li lj
          | inr y ↦ elim (cases_lt x (first_right first t + operations (right_tree t))) [
            | inl z ↦
                right (first_right first t) on_right.stands parts.right
                (λ some. operand_nested tree fusion (root_number first t) (first_right first t) (loops t) (right_tree t) on_right some fits (right_dims_within t node_t) nested) x i j y z li lj
            | inr z ↦
                let is : x ≡ root_number first t = omega arith in
                let same : node_loops tree x ≡ loops t = ap (node_loops tree) is ∙ loops_at_root tree first t st (omega arith) in
                subst (λ v. Nested tree fusion v i j) (sym is) (nested i j (ap (λ s. has s i) (sym same) ∙ li) (ap (λ s. has s j) (sym same) ∙ lj))
          ]
        ]

-- nothing is fused at the root
root_unfused : (tree : ContractionTree) (fusion : List ℕ) → FusionFits tree fusion → (i : ℕ) → has (fused_at_root fusion 0 tree) i ≡ false
root_unfused tree fusion fits i =
    let number : 0 + operations tree - 1 ≡ operations tree - 1 = omega arith in
    ap (λ s. has s i) (ap (fused_at fusion) number ∙ fits.root) ∙ has-empty i

pub legal_from_states : (tree : ContractionTree) (fusion : List ℕ) → FusionFits tree fusion → OperandStates fusion tree → IsLegal tree fusion
legal_from_states tree fusion fits states =
    legal_from_nested tree fusion fits (λ x i j x_in li lj.
    let node_tree = node_of_some tree (omega arith) in
    let whole : HasState fusion 0 tree =
    state_from_parts fusion 0 tree node_tree states.left states.right
    (states.root, λ i j li out inn ij. both_ways (has (fused_at_root fusion 0 tree) j) (root_unfused tree fusion fits j) inn) in
    nested_in tree fusion fits tree 0 (stands-whole tree) whole
    (λ some i j ti tj. absurd (both_ways (has (fused_at_root fusion 0 tree) i) (root_unfused tree fusion fits i) ti)) x i j (omega arith) (omega arith) li lj)

-- ---- the states of all nodes

-- the state of an operand that is a node is that of its root's number
operand_state : (tree : ContractionTree) (fusion : List ℕ) (r first : ℕ) (c : ContractionTree) → IsOperand tree r first c → HasStates fusion tree → HasState fusion first c
operand_state tree fusion r first c operand states =
    elim (cases_Bool (is_leaf c)) [
      | inl leaf_c ↦ state_from_leaf fusion first c leaf_c
      | inr node_c ↦
          let st = operand.stands in
          let some : 0 < operations c = omega (arith, operations-node c node_c) in
          let found = states.below (root_number first c) (omega (arith, operand.below, operand.inside)) in
          subst (λ k. HasState fusion k c) (first-at_root tree first c st some)
          (subst (λ t. HasState fusion (first_number_of tree (root_number first c)) t) (node-at_root tree first c st some) found)
    ]

operand_states : (tree : ContractionTree) (fusion : List ℕ) → HasStates fusion tree → OperandStates fusion tree
operand_states tree fusion states =
    elim (cases_Bool (is_leaf tree)) [
      | inl leaf_tree ↦ leaf_states fusion tree leaf_tree
      | inr node_tree ↦
          let st = stands-whole tree in
          record {
            left = operand_state tree fusion (root_number 0 tree) 0 (left_tree tree) (left_operand_at tree 0 tree node_tree st) states;
            right = operand_state tree fusion (root_number 0 tree) (first_right 0 tree) (right_tree tree) (right_operand_at tree 0 tree node_tree st) states;
            root = states.root;
          }
    ]

-- a node but the root is an operand of its parent
operand_of_parent : (tree : ContractionTree) (v : ℕ) → v + 1 < operations tree → IsOperand tree (parent_of tree v) (first_number_of tree v) (node tree v)
unfolding first_number_of
operand_of_parent tree v v_in =
    let up = parent_of_is tree v v_in in
    let room = size_bounds tree v (omega arith) in
    let number : v ≡ root_number (v + 1 - operations (node tree v)) (node tree v) = omega (arith, room) in
    record {
      stands = stands-node tree v (omega arith);
      below = omega (arith, room, up.above);
      inside = up.inside;
      above = λ some. subst (λ k. parent tree k ≡ Some (parent_of tree v)) number (parent-is tree v v_in);
    }

pub legal_where_states_exist : (tree : ContractionTree) (fusion : List ℕ) → FusionFits tree fusion → IsLegal tree fusion ↔ HasStates fusion tree
legal_where_states_exist tree fusion fits = (
  (λ legal. record {
    below = λ v v_in. operand_has_state tree fusion fits legal (node tree v) (parent_of tree v) (first_number_of tree v) (operand_of_parent tree v v_in);
    root = (states_from_legal tree fusion fits legal).root;
  }),
  (λ states. legal_from_states tree fusion fits (operand_states tree fusion states)),
)
