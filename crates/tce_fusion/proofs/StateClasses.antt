-- Relations that order a set in classes, and that those of states do.
use Rattle.std.proofs.Common.{◌≡◌, ℕ, ◌+◌, ◌<◌, ◌≤◌, ◌⊎◌, ◌&&◌, ◌||◌, not, true, false, List, sym, ap, ◌∙◌, subst, inl, inr, arith}
use Rattle.std.proofs.lemmas.Bool.{cases_Bool, false≢true, both_ways, and_parts, and_from, or_cases, or_left, or_right, not-true, not_from_false, false_from_ne_true}
use Rattle.tce_space.specs.IndexSet.{IsIndexSet, has, IsWithin}
use Rattle.tce_space.proofs.IndexSetLaws.{has_below}
use Rattle.tce_tree.specs.ContractionTree.{ContractionTree, is_leaf, left_tree, right_tree, loops, operations, node, node_dims}
use Rattle.tce_tree.specs.FlatTree.{first_number_of}
use Rattle.tce_tree.specs.Fusion.{FusionFits, fused_at}
use Rattle.tce_tree.proofs.Lists.{same_truth}
use Rattle.tce_tree.proofs.Members.{node_dims_lt}
use Rattle.tce_tree.proofs.Nodes.{size_bounds, node_of_some}
use Rattle.tce_tree.proofs.Operands.{stands-node}
use Rattle.tce_fusion.specs.Relation.{Relation, none, above, joined, cut, HasNoConflict}
use Rattle.tce_fusion.specs.StateClasses.{in_class, AreClassesOf}
use Rattle.tce_fusion.specs.State.{root_number, first_right, fused_at_root, state, operands_joined, HasState}
use Rattle.tce_fusion.proofs.Operands.{by_operands, fused_within_loops}
use Rattle.tce_fusion.proofs.Tells.{state-leaf, state-node, range_end}
use Rattle.tce_fusion.proofs.LegalStates.{state_parts}
use Rattle.tce_fusion.proofs.StateChoices.{parts_are_index_sets}
use Rattle.tce_fusion.proofs.ClassLists.{tally, tally-bound, tally-le, tally-lt, AreLevels, levels}

-- what is above an index is above each other one, or that one is above the index
abbrev pub Divides : Relation → Type 0
Divides r = (i j k : ℕ) → r k j ≡ true → (r k i ≡ true) ⊎ (r i j ≡ true)

divides-none : Divides none
divides-none i j k h = absurd (false≢true h)

pub divides-joined : (r s : Relation) → Divides r → Divides s → Divides (joined r s)
divides-joined r s first second i j k h =
    elim (or_cases (r k j) (s k j) h) [
      | inl x ↦ elim (first i j k x) [ inl y ↦ inl (or_left (r k i) (s k i) y) | inr y ↦ inr (or_left (r i j) (s i j) y) ]
      | inr x ↦ elim (second i j k x) [ inl y ↦ inl (or_right (r k i) (s k i) y) | inr y ↦ inr (or_right (r i j) (s i j) y) ]
    ]

divides-cut : (fused : ℕ) (r : Relation) → Divides r → Divides (cut fused r)
divides-cut fused r divides i j k h =
    let parts = and_parts (has fused k) (not (has fused j) || r k j) h in
    elim (cases_Bool (has fused i)) [
      | inr out ↦ inl (and_from (has fused k) (not (has fused i) || r k i) parts.0 (or_left (not (has fused i)) (r k i) (not_from_false (has fused i) out)))
      | inl inn ↦ elim (or_cases (not (has fused j)) (r k j) parts.1) [
        | inl far ↦ inr (and_from (has fused i) (not (has fused j) || r i j) inn (or_left (not (has fused j)) (r i j) far))
        | inr x ↦ elim (divides i j k x) [
          | inl y ↦ inl (and_from (has fused k) (not (has fused i) || r k i) parts.0 (or_right (not (has fused i)) (r k i) y))
          | inr y ↦ inr (and_from (has fused i) (not (has fused j) || r i j) inn (or_right (not (has fused j)) (r i j) y))
        ]
      ]
    ]

divides-state : (fusion : List ℕ) (c : ContractionTree) (first : ℕ) → Divides (state fusion first c)
divides-state fusion c =
    by_operands (λ t. (first : ℕ) → Divides (state fusion first t)) (λ t leaf_t first. subst Divides (sym (state-leaf fusion first t leaf_t)) divides-none)
    (λ t node_t left right first. subst Divides (sym (state-node fusion first t node_t))
    (divides-cut (fused_at_root fusion first t) (operands_joined fusion first t)
    (divides-joined (state fusion first (left_tree t)) (state fusion (first_right first t) (right_tree t)) (left first) (right (first_right first t))))) c

-- such a relation without conflict orders a set in classes
module _ (set : ℕ) (r : Relation) (is_set : IsIndexSet set) (divides : Divides r) (quiet : HasNoConflict set r) where
  -- how many members are above an index
  rank : ℕ → ℕ
  rank i = tally (λ k. has set k && r k i) 24

  rank-bound : (i : ℕ) → rank i < 0 + 25
  unfolding rank
  rank-bound i = omega (arith, tally-bound (λ k. has set k && r k i) 24)

  rank-above : (i j : ℕ) → has set i ≡ true → has set j ≡ true → r i j ≡ true → rank i < rank j
  unfolding rank
  rank-above i j li lj h =
      tally-lt (λ k. has set k && r k i) (λ k. has set k && r k j) 24 i (has_below set i is_set li)
      (false_from_ne_true (has set i && r i i) (λ t. let p = and_parts (has set i) (r i i) t in quiet i i li li p.1 p.1))
      (and_from (has set i) (r i j) li h)
      (λ k l t. let p = and_parts (has set k) (r k i) t in
      elim (divides j i k p.1) [
        | inl x ↦ and_from (has set k) (r k j) p.0 x
        | inr x ↦ absurd (quiet i j li lj h x)
      ])

  rank-not_above : (i j : ℕ) → r i j ≡ false → rank j ≤ rank i
  unfolding rank
  rank-not_above i j f =
      tally-le (λ k. has set k && r k j) (λ k. has set k && r k i) 24
      (λ k l t. let p = and_parts (has set k) (r k j) t in
      elim (divides i j k p.1) [
        | inl x ↦ and_from (has set k) (r k i) p.0 x
        | inr x ↦ absurd (both_ways (r i j) f x)
      ])

  classes_of : (classes : List ℕ) × AreClassesOf set (cut set r) classes
  classes_of = (found.0, record { nesting = found.1.nesting; placed = placed; relation = relation })
    where
      found : (classes : List ℕ) × AreLevels set rank 0 25 classes
      found = levels set rank is_set 0 25

      placed : (i : ℕ) → in_class found.0 i ≡ has set i
      placed i = same_truth (in_class found.0 i) (has set i) (λ h. (found.1.member i h).0) (λ h. found.1.every i h (omega arith) (rank-bound i))

      relation : (i j : ℕ) → above found.0 i j ≡ cut set r i j
      relation i j = same_truth (above found.0 i j) (cut set r i j)
          (λ h. let up = found.1.upper i j h in
          let li = (found.1.member i up.0).0 in
          and_from (has set i) (not (has set j) || r i j) li (elim (cases_Bool (has set j)) [
            | inr out ↦ or_left (not (has set j)) (r i j) (not_from_false (has set j) out)
            | inl inn ↦ elim (cases_Bool (r i j)) [
              | inl x ↦ or_right (not (has set j)) (r i j) x
              | inr f ↦ let less = up.1 (placed j ∙ inn) in absurd (omega (arith, less, rank-not_above i j f))
            ]
          ]))
          (λ h. let p = and_parts (has set i) (not (has set j) || r i j) h in
          found.1.lower i j (placed i ∙ p.0) (λ k.
          let lj = (found.1.member j k).0 in
          elim (or_cases (not (has set j)) (r i j) p.1) [
            | inl out ↦ absurd (both_ways (has set j) (not-true (has set j) out) lj)
            | inr x ↦ rank-above i j p.0 lj x
          ]))

-- so does the state of each node
pub states_have_classes : (tree : ContractionTree) (fusion : List ℕ) (v : ℕ) → v < operations tree → FusionFits tree fusion → HasState fusion (first_number_of tree v) (node tree v)
    → (classes : List ℕ) × AreClassesOf (fused_at fusion v) (state fusion (first_number_of tree v) (node tree v)) classes
states_have_classes tree fusion v v_in fits has_state =
    subst (λ r. (classes : List ℕ) × AreClassesOf (fused_at fusion v) r classes) (sym (at_node ∙ ap (λ s. cut s (operands_joined fusion (first_number_of tree v) (node tree v))) same))
    (classes_of (fused_at fusion v) (operands_joined fusion (first_number_of tree v) (node tree v)) (parts_are_index_sets (fused_at fusion v) (node_dims tree v) (node_dims_lt tree v) (fits.within v v_in))
    (divides-joined (state fusion (first_number_of tree v) (left_tree (node tree v))) (state fusion (first_right (first_number_of tree v) (node tree v)) (right_tree (node tree v)))
    (divides-state fusion (left_tree (node tree v)) (first_number_of tree v)) (divides-state fusion (right_tree (node tree v)) (first_right (first_number_of tree v) (node tree v))))
    (λ i j li lj ij ji. (state_parts fusion (first_number_of tree v) (node tree v) node_v has_state).quiet i j (loop i li) (loop j lj) ij ji))
  where
    some : 0 < operations (node tree v)
    some = (size_bounds tree v v_in).0

    node_v : is_leaf (node tree v) ≡ false
    node_v = node_of_some (node tree v) some

    number : root_number (first_number_of tree v) (node tree v) ≡ v
    number = omega (arith, range_end tree v v_in)

    same : fused_at_root fusion (first_number_of tree v) (node tree v) ≡ fused_at fusion v
    same = ap (fused_at fusion) number

    at_node : state fusion (first_number_of tree v) (node tree v) ≡ cut (fused_at_root fusion (first_number_of tree v) (node tree v)) (operands_joined fusion (first_number_of tree v) (node tree v))
    at_node = state-node fusion (first_number_of tree v) (node tree v) node_v

    loop : IsWithin (fused_at fusion v) (loops (node tree v))
    loop i m = fused_within_loops tree fusion (first_number_of tree v) (node tree v) fits (stands-node tree v v_in) some i (ap (λ s. has s i) same ∙ m)
