-- The listed choices of a node are all its steps, and the first choice that is not covered is the first step that is not.
use Rattle.std.proofs.Common.{◌&&◌, zero, suc, Option, Some, None, IfSome, eqb, bit_and, refl, ◌≤◌, ◌≡◌, ◌↔◌, ℕ, ◌+◌, ◌-◌, ◌<◌, List, length, get_or, sym, ap, ◌∙◌, subst, inl, inr, arith}
use Rattle.std.specs.Prelude.{IsTrue}
use Rattle.std.specs.Int.{bit_at}
use Rattle.std.specs.List.{All, Any}
use Rattle.std.proofs.lemmas.Bool.{cases_lt, cases_Bool, false≢true, true≢false}
use Rattle.std.proofs.lemmas.Nat.Bits.{same_from_bits, bit_at-lt}
use Rattle.std.proofs.lemmas.List.{get_or_default}
use Rattle.std.proofs.lemmas.List.Elements.{All-weaker}
use Rattle.tce_space.specs.IndexSet.{IsIndexSet, has, meet, IsWithin, minus}
use Rattle.tce_space.proofs.IndexSetLaws.{has-meet, and_lt}
use Rattle.tce_space.specs.Space.{IndexSpace, volume_of}
use Rattle.tce_tree.specs.ContractionTree.{ContractionTree, node_dims, node_loops, operations}
use Rattle.tce_tree.specs.FlatTree.{left_of, right_of, IsBefore}
use Rattle.tce_tree.specs.declared.node.Operand.{Operand}
use Rattle.tce_tree.specs.declared.node.Operand.TheVariants.{Leaf, Constant, Node}
use Rattle.tce_tree.proofs.Operands.{left_before, right_before}
use Rattle.tce_fusion.specs.Relation.{HasNoConflict, Allows}
use Rattle.tce_fusion.specs.Row.{Row, leaf_row, rows_at, StandsFor, rows_joined, step_relation, StandsForStep}
use Rattle.tce_fusion.specs.Cover.{operand_rows, right_operand_rows, left_rows, right_rows, StepsCovered, NodeCovered, RootBelow}
use Rattle.tce_fusion.specs.Choice.{Choice, AreChoices, ChoiceCovered, PairCovered, PairsCovered, IsFirstUncoveredPair, IsBelow, IsFirstLowPair}
use Rattle.tce_fusion.specs.FirstStep.{AreJoined, IsBareStep, PairPrecedes, IsFirstBareStep, IsFirstBelow}

module _ (space : IndexSpace) (tree : ContractionTree) (outer v : ℕ) (choices : List Choice) (rows : List Row) (listed : AreChoices space tree v choices) where
  -- a choice's step is that of its set
  step_of_choice : (left right : Row) (c : Choice) (fused : ℕ) → c.fused ≡ fused → c.size ≡ volume_of space (minus (node_dims tree v) c.fused)
      → Any (StandsFor outer (step_relation left right c.fused) (left.cost + right.cost + c.size)) rows → Any (StandsForStep space tree outer v left right fused) rows
  step_of_choice left right c fused is size found =
      subst (λ s. Any (StandsForStep space tree outer v left right s) rows) is
      (subst (λ n. Any (StandsFor outer (step_relation left right c.fused) (left.cost + right.cost + n)) rows) size found)

  pub steps_from_choices : (left right : Row) → All (ChoiceCovered (node_loops tree v) outer left right rows) choices → StepsCovered space tree outer v rows left right
  steps_from_choices left right covered fused within allowed =
      let found = listed.complete fused within in
      let size : found.1.size ≡ volume_of space (minus (node_dims tree v) found.1.fused) =
      subst (λ c. c.size ≡ volume_of space (minus (node_dims tree v) c.fused)) found.3 (listed.sound found.0 found.1 found.2).1 in
      let here : ChoiceCovered (node_loops tree v) outer left right rows found.1 = subst (ChoiceCovered (node_loops tree v) outer left right rows) found.3 (covered found.0 found.1 found.2) in
      step_of_choice left right found.1 fused found.4 size (here (subst (Allows (node_loops tree v) (rows_joined left right)) (sym found.4) allowed))

  pub choices_from_steps : (left right : Row) → StepsCovered space tree outer v rows left right → All (ChoiceCovered (node_loops tree v) outer left right rows) choices
  choices_from_steps left right covered k d low allowed =
      let at = listed.sound k d low in
      subst (λ n. Any (StandsFor outer (step_relation left right (get_or choices k d).fused) (left.cost + right.cost + n)) rows) (sym at.1) (covered (get_or choices k d).fused at.0 allowed)

pub choices_are_steps : (space : IndexSpace) (tree : ContractionTree) (tables : List (List Row)) (outer v : ℕ) (choices : List Choice) → AreChoices space tree v choices
    → PairsCovered (node_loops tree v) outer choices (rows_at tables v) (left_rows tree tables v) (right_rows tree tables v) ↔ NodeCovered space tree tables outer v
choices_are_steps space tree tables outer v choices listed = (
  (λ covered. All-weaker (λ l. All (PairCovered (node_loops tree v) outer choices (rows_at tables v) l) (right_rows tree tables v))
      (λ l. All (λ r. HasNoConflict (node_loops tree v) (rows_joined l r) → StepsCovered space tree outer v (rows_at tables v) l r) (right_rows tree tables v))
      (λ l at_left. All-weaker (PairCovered (node_loops tree v) outer choices (rows_at tables v) l)
      (λ r. HasNoConflict (node_loops tree v) (rows_joined l r) → StepsCovered space tree outer v (rows_at tables v) l r)
      (λ r pair quiet. steps_from_choices space tree outer v choices (rows_at tables v) listed l r (pair quiet)) (right_rows tree tables v) at_left)
      (left_rows tree tables v) covered),
  (λ covered. All-weaker (λ l. All (λ r. HasNoConflict (node_loops tree v) (rows_joined l r) → StepsCovered space tree outer v (rows_at tables v) l r) (right_rows tree tables v))
      (λ l. All (PairCovered (node_loops tree v) outer choices (rows_at tables v) l) (right_rows tree tables v))
      (λ l at_left. All-weaker (λ r. HasNoConflict (node_loops tree v) (rows_joined l r) → StepsCovered space tree outer v (rows_at tables v) l r)
      (PairCovered (node_loops tree v) outer choices (rows_at tables v) l)
      (λ r pair quiet. choices_from_steps space tree outer v choices (rows_at tables v) listed l r (pair quiet)) (right_rows tree tables v) at_left)
      (left_rows tree tables v) covered),
)

-- what all elements have, the one at a place has
at_place : {X : Type 0} (P : X → Type 0) (xs : List X) (k : ℕ) (d x : X) → k < length xs → get_or xs k d ≡ x → All P xs → P x
at_place P xs k d x low is all = subst P is (all k d low)

pub covered_leaves_no_step : (space : IndexSpace) (tree : ContractionTree) (tables : List (List Row)) (outer v : ℕ) → NodeCovered space tree tables outer v
    → (l r : ℕ) (x y : Row) (fused : ℕ) → IsBareStep space tree tables outer v l r x y fused → ⊥
covered_leaves_no_step space tree tables outer v covered l r x y fused step =
    let j = step.joined in
    let at_left = at_place (λ a. All (λ b. HasNoConflict (node_loops tree v) (rows_joined a b) → StepsCovered space tree outer v (rows_at tables v) a b) (right_rows tree tables v))
    (left_rows tree tables v) l leaf_row x j.left_inside j.left_is covered in
    let at_both = at_place (λ b. HasNoConflict (node_loops tree v) (rows_joined x b) → StepsCovered space tree outer v (rows_at tables v) x b) (right_rows tree tables v) r leaf_row y j.right_inside j.right_is at_left in
    step.bare (at_both j.quiet fused step.within step.allowed)

-- ---- the first step

module _ (space : IndexSpace) (tree : ContractionTree) (tables : List (List Row)) (outer v : ℕ) (choices : List Choice) (left right : Row) (choice : Choice) (listed : AreChoices space tree v choices)
    (pair : IsFirstUncoveredPair (node_loops tree v) outer choices (rows_at tables v) (left_rows tree tables v) (right_rows tree tables v) left right choice) where
  pair_joined : AreJoined tree tables v pair.left_place pair.right_place left right
  pair_joined = record {
    left_inside = pair.left_inside;
    right_inside = pair.right_inside;
    left_is = get_or_default (left_rows tree tables v) pair.left_place leaf_row left pair.left_inside ∙ pair.left_is;
    right_is = get_or_default (right_rows tree tables v) pair.right_place leaf_row right pair.right_inside ∙ pair.right_is;
    quiet = pair.first.quiet;
  }

  sound_here : IsWithin choice.fused (node_dims tree v) × (choice.size ≡ volume_of space (minus (node_dims tree v) choice.fused))
  sound_here =
      subst (λ c. IsWithin c.fused (node_dims tree v) × (c.size ≡ volume_of space (minus (node_dims tree v) c.fused))) pair.first.choice_is (listed.sound pair.first.place choice pair.first.inside)

  pair_bare : IsBareStep space tree tables outer v pair.left_place pair.right_place left right choice.fused
  pair_bare = record {
    joined = pair_joined;
    within = sound_here.0;
    allowed = pair.first.allowed;
    bare = λ found. pair.first.bare (subst (λ n. Any (StandsFor outer (step_relation left right choice.fused) (left.cost + right.cost + n)) (rows_at tables v)) (sym sound_here.1) found);
  }

  -- a pair that is covered has no such step
  covered_pair : (l r : ℕ) (x y : Row) (s : ℕ) → PairCovered (node_loops tree v) outer choices (rows_at tables v) x y → IsBareStep space tree tables outer v l r x y s → ⊥
  covered_pair l r x y s covered step =
      step.bare (steps_from_choices space tree outer v choices (rows_at tables v) listed x y (covered step.joined.quiet) s step.within step.allowed)

  earlier_left : (l r : ℕ) (x y : Row) (s : ℕ) → l < pair.left_place → IsBareStep space tree tables outer v l r x y s → ⊥
  earlier_left l r x y s before step =
      let at_left = subst (λ a. All (PairCovered (node_loops tree v) outer choices (rows_at tables v) a) (right_rows tree tables v)) step.joined.left_is (pair.earlier_lefts l leaf_row (omega arith) before) in
      covered_pair l r x y s (at_place (PairCovered (node_loops tree v) outer choices (rows_at tables v) x) (right_rows tree tables v) r leaf_row y step.joined.right_inside step.joined.right_is at_left) step

  same_left : (l : ℕ) (x : Row) → l ≡ pair.left_place → get_or (left_rows tree tables v) l leaf_row ≡ x → left ≡ x
  same_left l x is at = sym pair_joined.left_is ∙ ap (λ k. get_or (left_rows tree tables v) k leaf_row) (sym is) ∙ at

  same_right : (r : ℕ) (y : Row) → r ≡ pair.right_place → get_or (right_rows tree tables v) r leaf_row ≡ y → right ≡ y
  same_right r y is at = sym pair_joined.right_is ∙ ap (λ k. get_or (right_rows tree tables v) k leaf_row) (sym is) ∙ at

  earlier_right : (l r : ℕ) (x y : Row) (s : ℕ) → l ≡ pair.left_place → r < pair.right_place → IsBareStep space tree tables outer v l r x y s → ⊥
  earlier_right l r x y s is before step =
      let at_right = subst (PairCovered (node_loops tree v) outer choices (rows_at tables v) left) step.joined.right_is (pair.earlier_rights r leaf_row (omega arith) before) in
      covered_pair l r x y s (subst (λ a. PairCovered (node_loops tree v) outer choices (rows_at tables v) a y) (same_left l x is step.joined.left_is) at_right) step

  -- a lesser set is an earlier choice
  lesser_place : (k : ℕ) (c : Choice) → k < length choices → get_or choices k c ≡ c → c.fused < choice.fused → k < pair.first.place
  lesser_place k c low is less =
      elim (cases_lt k pair.first.place) [
        | inl before ↦ before
        | inr after ↦ elim (cases_lt pair.first.place k) [
          | inl later ↦
              let up = listed.ascending pair.first.place k choice later low in
              let here : (get_or choices pair.first.place choice).fused ≡ choice.fused = ap (λ t. t.fused) pair.first.choice_is in
              let there : (get_or choices k choice).fused ≡ c.fused = ap (λ t. t.fused) (get_or_default choices k choice c low ∙ is) in
              absurd (omega (arith, up, here, there, less))
          | inr same ↦
              let place_is : k ≡ pair.first.place = omega arith in
              let here : c.fused ≡ choice.fused = ap (λ t. t.fused) (sym is ∙ get_or_default choices k c choice low ∙ ap (λ p. get_or choices p choice) place_is ∙ pair.first.choice_is) in
              absurd (omega (arith, here, less))
        ]
      ]

  earlier_choice : (s : ℕ) → s < choice.fused → IsWithin s (node_dims tree v) → Allows (node_loops tree v) (rows_joined left right) s
      → Any (StandsForStep space tree outer v left right s) (rows_at tables v)
  earlier_choice s less within allowed =
      let found = listed.complete s within in
      let before = lesser_place found.0 found.1 found.2 found.3 (omega (arith, found.4)) in
      let size : found.1.size ≡ volume_of space (minus (node_dims tree v) found.1.fused) =
      subst (λ c. c.size ≡ volume_of space (minus (node_dims tree v) c.fused)) found.3 (listed.sound found.0 found.1 found.2).1 in
      let here : ChoiceCovered (node_loops tree v) outer left right (rows_at tables v) found.1 =
      subst (ChoiceCovered (node_loops tree v) outer left right (rows_at tables v)) found.3 (pair.first.earlier found.0 found.1 (omega arith) before) in
      step_of_choice space tree outer v choices (rows_at tables v) listed left right found.1 s found.4 size
      (here (subst (Allows (node_loops tree v) (rows_joined left right)) (sym found.4) allowed))

  earlier_set : (l r : ℕ) (x y : Row) (s : ℕ) → left ≡ x → right ≡ y → s < choice.fused → IsBareStep space tree tables outer v l r x y s → ⊥
  earlier_set l r x y s is_left is_right less step =
      step.bare (subst (λ b. Any (StandsForStep space tree outer v x b s) (rows_at tables v)) is_right (subst (λ a. Any (StandsForStep space tree outer v a right s) (rows_at tables v)) is_left
      (earlier_choice s less step.within
      (subst (λ b. Allows (node_loops tree v) (rows_joined left b) s) (sym is_right) (subst (λ a. Allows (node_loops tree v) (rows_joined a y) s) (sym is_left) step.allowed)))))

  pub first_choice_is_first_step : IsFirstBareStep space tree tables outer v left right choice.fused
  first_choice_is_first_step = record {
    left_place = pair.left_place;
    right_place = pair.right_place;
    is = pair_bare;
    first = λ l r x y s order step. elim order [
      | inl before ↦ elim before [
        | inl lower ↦ earlier_left l r x y s lower step
        | inr beside ↦ earlier_right l r x y s beside.0 beside.1 step
      ]
      | inr same ↦ earlier_set l r x y s (same_left l x same.0 step.joined.left_is) (same_right r y same.1 step.joined.right_is) same.2 step
    ];
  }

-- ---- the first sum below a total

module _ (tree : ContractionTree) (tables : List (List Row)) (total : ℕ) (left right : Row)
    (pair : IsFirstLowPair (node_loops tree (operations tree - 1)) total (left_rows tree tables (operations tree - 1)) (right_rows tree tables (operations tree - 1)) left right) where
  low_joined : AreJoined tree tables (operations tree - 1) pair.left_place pair.right_place left right
  low_joined = record {
    left_inside = pair.left_inside;
    right_inside = pair.right_inside;
    left_is = get_or_default (left_rows tree tables (operations tree - 1)) pair.left_place leaf_row left pair.left_inside ∙ pair.left_is;
    right_is = get_or_default (right_rows tree tables (operations tree - 1)) pair.right_place leaf_row right pair.right_inside ∙ pair.right_is;
    quiet = pair.quiet;
  }

  not_lower : (l r : ℕ) (x y : Row) → PairPrecedes l r pair.left_place pair.right_place → AreJoined tree tables (operations tree - 1) l r x y → total ≤ x.cost + y.cost
  not_lower l r x y order join =
      elim order [
        | inl before ↦
            let at_left = subst (λ a. All (IsBelow (node_loops tree (operations tree - 1)) total a) (right_rows tree tables (operations tree - 1))) join.left_is (pair.earlier_lefts l leaf_row (omega arith) before) in
            at_place (IsBelow (node_loops tree (operations tree - 1)) total x) (right_rows tree tables (operations tree - 1)) r leaf_row y join.right_inside join.right_is at_left join.quiet
        | inr beside ↦
            let same : left ≡ x = sym low_joined.left_is ∙ ap (λ k. get_or (left_rows tree tables (operations tree - 1)) k leaf_row) (sym beside.0) ∙ join.left_is in
            let at_right = subst (IsBelow (node_loops tree (operations tree - 1)) total left) join.right_is (pair.earlier_rights r leaf_row (omega arith) beside.1) in
            subst (λ a. IsBelow (node_loops tree (operations tree - 1)) total a y) same at_right join.quiet
      ]

  pub first_low_pair_is_first_below : IsFirstBelow tree tables total (left.cost + right.cost)
  first_low_pair_is_first_below = record {
    left_place = pair.left_place;
    right_place = pair.right_place;
    left = left;
    right = right;
    joined = low_joined;
    sum_is = refl;
    below = pair.low;
    first = λ l r x y order join. not_lower l r x y order join;
  }

pub bound_leaves_no_sum : (tree : ContractionTree) (tables : List (List Row)) (total n : ℕ) → RootBelow tree tables total → IsFirstBelow tree tables total n → ⊥
bound_leaves_no_sum tree tables total n bound low =
    let j = low.joined in
    let at_left = at_place (λ l. All (λ r. HasNoConflict (node_loops tree (operations tree - 1)) (rows_joined l r) → total ≤ l.cost + r.cost) (right_rows tree tables (operations tree - 1)))
    (left_rows tree tables (operations tree - 1)) low.left_place leaf_row low.left j.left_inside j.left_is bound in
    let at_both = at_place (λ r. HasNoConflict (node_loops tree (operations tree - 1)) (rows_joined low.left r) → total ≤ low.left.cost + r.cost) (right_rows tree tables (operations tree - 1))
    low.right_place leaf_row low.right j.right_inside j.right_is at_left in
    let h = at_both j.quiet in
    absurd (omega (arith, h, low.sum_is, low.below))

-- ---- parts of sets

-- numbers with the same members are the same
pub same_members : (a b : ℕ) → ((i : ℕ) → has a i ≡ has b i) → a ≡ b
unfolding has
same_members a b same = same_from_bits a b (λ i. same_bit (bit_at a i) (bit_at b i) (bit_at-lt a i) (bit_at-lt b i) (same i))
  where
    same_bit : (x y : ℕ) → x < 2 → y < 2 → eqb x 1 ≡ eqb y 1 → x ≡ y
    same_bit zero zero p q e = refl
    same_bit zero (suc zero) p q e = absurd (false≢true e)
    same_bit (suc zero) zero p q e = absurd (true≢false e)
    same_bit (suc zero) (suc zero) p q e = refl
    same_bit zero (suc (suc y)) p q e = absurd (omega arith)
    same_bit (suc zero) (suc (suc y)) p q e = absurd (omega arith)
    same_bit (suc (suc x)) y p q e = absurd (omega arith)

pub parts_are_index_sets : (part set : ℕ) → IsIndexSet set → IsWithin part set → IsIndexSet part
unfolding meet
parts_are_index_sets part set is_set within =
    let same : bit_and set part ≡ part = same_members (bit_and set part) part (λ i. has-meet set part i ∙ kept i (within i)) in
    let low = and_lt set part is_set in
    subst IsIndexSet same low
  where
    kept : (i : ℕ) → (IsTrue (has part i) → IsTrue (has set i)) → (has set i && has part i) ≡ has part i
    kept i g = elim (cases_Bool (has part i)) [
      | inl t ↦ rw (t, g t) refl
      | inr f ↦ elim (cases_Bool (has set i)) [ inl t ↦ rw (t, f) refl | inr e ↦ rw (e, f) refl ]
    ]

-- ---- earlier tables

operand_rows-same : (tables others : List (List Row)) (v : ℕ) (operand : Operand) → IsBefore v operand → ((u : ℕ) → u ≤ v → rows_at tables u ≡ rows_at others u)
    → operand_rows tables operand ≡ operand_rows others operand
operand_rows-same tables others v (Leaf reference) before same = refl
operand_rows-same tables others v (Constant number) before same = refl
operand_rows-same tables others v (Node u) before same = same u (omega (arith, before))

right_rows-same : (tables others : List (List Row)) (v : ℕ) (operand : Option Operand) → IfSome operand (IsBefore v) → ((u : ℕ) → u ≤ v → rows_at tables u ≡ rows_at others u)
    → right_operand_rows tables operand ≡ right_operand_rows others operand
right_rows-same tables others v None before same = refl
right_rows-same tables others v (Some operand) before same = operand_rows-same tables others v operand before same

pub later_tables_do_not_matter : (space : IndexSpace) (tree : ContractionTree) (tables others : List (List Row)) (outer v : ℕ) → v < operations tree
    → ((u : ℕ) → u ≤ v → rows_at tables u ≡ rows_at others u) → NodeCovered space tree tables outer v → NodeCovered space tree others outer v
later_tables_do_not_matter space tree tables others outer v v_in same covered =
    subst (λ rows. All (λ l. All (λ r. HasNoConflict (node_loops tree v) (rows_joined l r) → StepsCovered space tree outer v rows l r) (right_rows tree others v)) (left_rows tree others v)) (same v (omega arith))
    (subst (λ rs. All (λ l. All (λ r. HasNoConflict (node_loops tree v) (rows_joined l r) → StepsCovered space tree outer v (rows_at tables v) l r) rs) (left_rows tree others v))
    (right_rows-same tables others v (right_of tree v) (right_before tree v v_in) same)
    (subst (λ ls. All (λ l. All (λ r. HasNoConflict (node_loops tree v) (rows_joined l r) → StepsCovered space tree outer v (rows_at tables v) l r) (right_rows tree tables v)) ls)
    (operand_rows-same tables others v (left_of tree v) (left_before tree v v_in) same) covered))
