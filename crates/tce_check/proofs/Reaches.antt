-- From rows with one class to the steps for which they stand.
use Rattle.std.proofs.Common.{◌≡◌, ℕ, Bool, true, not, ◌&&◌, ◌||◌, false, ◌+◌, ◌-◌, ◌^◌, ◌<◌, ◌≤◌, ◌⊎◌, inl, inr, refl, sym, subst, arith, List, [], ◌∷◌, All, length, get_or, min, Option, Some, None, unwrap_or}
use Rattle.std.specs.Prelude.{IsTrue}
use Rattle.std.specs.List.{Any, AllWithin}
use Rattle.std.proofs.lemmas.Bool.{cases_Bool, cases_lt, false≢true, or_left}
use Rattle.std.proofs.lemmas.List.Elements.{All-contains}
use Rattle.tce_space.specs.IndexSet.{IsWithin, has}
use Rattle.tce_space.specs.Space.{IndexSpace}
use Rattle.tce_tree.specs.ContractionTree.{ContractionTree, operations, node_loops}
use Rattle.tce_fusion.specs.Relation.{Relation, above, none, cut, Allows}
use Rattle.tce_fusion.specs.Row.{Row, StandsFor, rows_joined}
use Rattle.tce_nesting.specs.Ends.{IsTopOf, DoCross}
use Rattle.tce_nesting.specs.Choices.{AreChoices, LeavesSize}
use Rattle.tce_nesting.specs.declared.choice.Choice.{Choice}
use Rattle.tce_nesting.proofs.SubsetLists.{dims_within}
use Rattle.tce_check.specs.declared.parts.PartCost.{PartCost}
use Rattle.tce_check.specs.Joint.{IsJointOf}
use Rattle.tce_check.specs.Tops.{AreTops}
use Rattle.tce_check.specs.Reach.{IsCostOf, IsLowered, IsFloor, AreFloors, ReachesChoice, ReachesAll, IsReach, IsReached, IsNoCost, AreBoundFloors}
use Rattle.tce_check.specs.Verdict.{StepCovered}
use Rattle.tce_check.proofs.Joints.{choice_at, no_choice}

-- ---- floors

floor_more : (outer : ℕ) (rows : List Row) (part a b : ℕ) → a ≤ b → IsFloor outer rows part a → IsFloor outer rows part b
floor_more outer rows part a b low floor small =
    let found = floor (omega arith) in
    (found.0, found.1, found.2, found.3, record { coarser = found.4.coarser; cheap = omega (arith, found.4.cheap, low) })

-- the cost of a row that is coarser than the part's nesting is a floor of it, where the one so far is not kept
pub floor_next : (outer : ℕ) (rows : List Row) (floor next : PartCost) (k : ℕ) (row : Row) → k < length rows → row ≡ get_or rows k row → IsFloor outer rows floor.part floor.cost
    → IsLowered outer row floor next → IsFloor outer rows next.part next.cost
floor_next outer rows floor next k row low is so_far (inl same) = subst (λ (f : PartCost). IsFloor outer rows f.part f.cost) (sym same) so_far
floor_next outer rows floor next k row low is so_far (inr (least, coarse)) =
    subst (λ (f : PartCost). IsFloor outer rows f.part f.cost) (sym least) (λ small. (k, row, low, sym is, record { coarser = coarse; cheap = omega arith }))

-- the bound is a floor of each part
pub bound_floors : (bound : Option ℕ) (cost : ℕ) (floors : List PartCost) → cost ≡ unwrap_or bound (2 ^ 128 - 1) → All (λ (floor : PartCost). floor.cost ≡ cost) floors
    → AreBoundFloors bound floors
bound_floors None cost floors is each outer rows bound k d low small = let at = each k d low in absurd (omega (arith, at, is, small))
bound_floors (Some least) cost floors is each outer rows bound k d low small =
    let at = each k d low in
    (bound.0, bound.1, bound.2, bound.3, record { coarser = λ i j p q h. absurd (false≢true (bound.4.coarser i j p q h)); cheap = omega (arith, bound.4.cheap, at, is) })

-- ---- what is left where a set is fused, above or below a part that is a top

one_above : (fi fj r : Bool) → (not fj && (fi || false)) ≡ true → (fi && (not fj || r)) ≡ true
one_above fi fj r h = grind arith

upper_of_one : (fi fj : Bool) → (not fj && (fi || false)) ≡ true → (fi ≡ true) × (fj ≡ false)
upper_of_one fi fj h = (grind arith, grind arith)

held_above : (fi fj r : Bool) → fi ≡ true → (fj ≡ true → r ≡ true) → (fi && (not fj || r)) ≡ true
held_above fi true r p f = let e = f refl in grind arith
held_above fi false r p f = grind arith

-- the set's own nesting is coarser than what is left
set_is_coarser : (fused : ℕ) (r : Relation) (i j : ℕ) → IsTrue (above (fused ∷ []) i j) → IsTrue (cut fused r i j)
set_is_coarser fused r i j h = one_above (has fused i) (has fused j) (r i j) h

-- and so is that of a top which is within the set
top_is_coarser : (loops fused part : ℕ) (r : Relation) → IsTopOf loops r part → IsWithin fused loops → IsWithin part fused → (i j : ℕ)
    → IsTrue (above (part ∷ []) i j) → IsTrue (cut fused r i j)
top_is_coarser loops fused part r top inner around i j h =
    let parts = upper_of_one (has part i) (has part j) h in
    held_above (has fused i) (has fused j) (r i j) (around i parts.0) (λ in_fused. top.upper i j parts.0 (inner j in_fused) parts.1)

-- a set that is allowed is within a top, or the top is within it
allowed_no_cross : (loops fused part : ℕ) (r : Relation) → IsTopOf loops r part → IsWithin fused loops → Allows loops r fused → DoCross fused part → ⊥
allowed_no_cross loops fused part r top inner allows cross = cross.0 (λ j in_fused. elim (cases_Bool (has part j)) [
  | inl held ↦ held
  | inr lacks ↦ absurd (cross.1 (λ i in_part. elim (cases_Bool (has fused i)) [
    | inl also ↦ also
    | inr out ↦ absurd (allows i j (top.within i in_part) out in_fused (top.upper i j in_part (inner j in_fused) lacks))
  ]))
])

-- ---- tops of two rows together

-- those of the left row
pub tops_of_left : (loops : ℕ) (left right : Row) (tops : List ℕ) → AreTops loops left tops → All (IsTopOf loops (rows_joined left right)) tops
tops_of_left loops left right tops are k d low =
    let top = are k d low in record {
      within = top.within;
      upper = λ i j in_top in_loops out. or_left (above left.classes i j) (above right.classes i j) (top.upper i j in_top in_loops out);
    }

-- and those of their join
pub tops_of_joint : (loops : ℕ) (left right joint : Row) (tops : List ℕ) → IsJointOf loops left right joint → AreTops loops joint tops
    → All (IsTopOf loops (rows_joined left right)) tops
tops_of_joint loops left right joint tops join are k d low =
    let top = are k d low in record {
      within = top.within;
      upper = λ i j in_top in_loops out. subst IsTrue (join.classes.relation i j (top.within i in_top) in_loops) (top.upper i j in_top in_loops out);
    }

-- ---- steps

-- a row that is coarser than a step and costs no more stands for it
step_by_floor : (outer part reach fused size : ℕ) (rows : List Row) (left right : Row)
    → ((i j : ℕ) → IsTrue (above (part ∷ []) i j) → IsTrue (cut fused (rows_joined left right) i j)) → reach + size < 2 ^ 128 - 1
    → reach ≤ left.cost + right.cost → IsFloor outer rows part (reach + size)
    → Any (StandsFor outer (cut fused (rows_joined left right)) (left.cost + right.cost + size)) rows
step_by_floor outer part reach fused size rows left right coarse small low floor =
    let found = floor small in (
      found.0,
      found.1,
      found.2,
      found.3,
      record { coarser = λ i j p q h. coarse i j (found.4.coarser i j p q h); cheap = omega (arith, found.4.cheap, low) },
    )

-- the step of a choice
step_of_reach : (space : IndexSpace) (tree : ContractionTree) (outer v : ℕ) (rows : List Row) (left right : Row) (reach : PartCost) (choice : Choice) → v < operations tree
    → LeavesSize space tree v choice → choice.size ≤ 2 ^ 90 → left.cost < 2 ^ 96 → right.cost < 2 ^ 96 → reach.cost ≤ left.cost + right.cost
    → IsTopOf (node_loops tree v) (rows_joined left right) reach.part → ReachesChoice outer rows reach choice → StepCovered space tree outer v rows left right choice.fused
step_of_reach space tree outer v rows left right reach choice inside size small ll rl low top tells within allows =
    let loops = node_loops tree v in
    let inner : IsWithin choice.fused loops = λ i h. dims_within tree v inside i (within i h) in
    let below : reach.cost + choice.size < 2 ^ 128 - 1 = omega (arith, small, ll, rl, low) in
    subst (λ n. Any (StandsFor outer (cut choice.fused (rows_joined left right)) (left.cost + right.cost + n)) rows) size
    (elim tells [
      | inl (here, floor) ↦
          step_by_floor outer choice.fused reach.cost choice.fused choice.size rows left right (set_is_coarser choice.fused (rows_joined left right)) below low floor
      | inr (inl (around, floor)) ↦
          step_by_floor outer reach.part reach.cost choice.fused choice.size rows left right
          (top_is_coarser loops choice.fused reach.part (rows_joined left right) top inner around) below low floor
      | inr (inr cross) ↦ absurd (allowed_no_cross loops choice.fused reach.part (rows_joined left right) top inner allows cross)
    ])

-- what reaches all choices is a reach
reach_is : (space : IndexSpace) (tree : ContractionTree) (outer v : ℕ) (rows : List Row) (choices : List Choice) (reach : PartCost) → v < operations tree
    → AreChoices space tree v choices → All (λ (choice : Choice). choice.size ≤ 2 ^ 90) choices → IsReached outer rows choices reach → IsReach space tree outer v rows reach
reach_is space tree outer v rows choices reach inside are sizes reached left right top ll rl low = elim reached [
  | inl no_cost ↦ absurd (omega (arith, no_cost, low, ll, rl))
  | inr tells ↦ λ fused within allows.
      let at = choice_at space tree v fused choices no_choice are within in
      subst (StepCovered space tree outer v rows left right) at.2
      (step_of_reach space tree outer v rows left right reach (get_or choices at.0 no_choice) inside (are.sizes at.0 no_choice at.1) (sizes at.0 no_choice at.1) ll rl low top
      (tells at.0 no_choice at.1)) within allows
]

pub reaches_are : (space : IndexSpace) (tree : ContractionTree) (outer v : ℕ) (rows : List Row) (choices : List Choice) (reaches : List PartCost) → v < operations tree
    → AreChoices space tree v choices → All (λ (choice : Choice). choice.size ≤ 2 ^ 90) choices → All (IsReached outer rows choices) reaches
    → All (IsReach space tree outer v rows) reaches
reaches_are space tree outer v rows choices reaches inside are sizes all k d low = reach_is space tree outer v rows choices (get_or reaches k d) inside are sizes (all k d low)

-- what floors tell of all choices is told of those of the rows
pub reached_by : (outer : ℕ) (rows : List Row) (floors reaches : List PartCost) (choices : List Choice) → AreFloors outer rows floors
    → All (λ (reach : PartCost). IsNoCost reach ⊎ ReachesAll floors choices reach) reaches → All (IsReached outer rows choices) reaches
reached_by outer rows floors reaches choices are all k d low = elim (all k d low) [
  | inl none ↦ inl none
  | inr tells ↦ inr (tells outer rows are)
]

-- ---- reaches that grow from choice to choice

reach_more : (outer : ℕ) (rows : List Row) (part a b : ℕ) (choice : Choice) → a ≤ b → ReachesChoice outer rows (record { part = part; cost = a }) choice
    → ReachesChoice outer rows (record { part = part; cost = b }) choice
reach_more outer rows part a b choice low (inl (here, floor)) = inl (here, floor_more outer rows choice.fused (a + choice.size) (b + choice.size) (omega (arith, low)) floor)
reach_more outer rows part a b choice low (inr (inl (around, floor))) = inr (inl (around, floor_more outer rows part (a + choice.size) (b + choice.size) (omega (arith, low)) floor))
reach_more outer rows part a b choice low (inr (inr cross)) = inr (inr cross)

pub all_more : (outer : ℕ) (rows : List Row) (part a b k : ℕ) (choices : List Choice) → a ≤ b → AllWithin (ReachesChoice outer rows (record { part = part; cost = a })) choices 0 k
    → AllWithin (ReachesChoice outer rows (record { part = part; cost = b })) choices 0 k
all_more outer rows part a b k choices low before n d from until = reach_more outer rows part a b (get_or choices n d) low (before n d from until)

pub reached_within : (outer : ℕ) (rows : List Row) (reach : PartCost) (choice : Choice) (floor : ℕ) → IsWithin choice.fused reach.part → floor ≤ reach.cost + choice.size
    → IsFloor outer rows choice.fused floor → ReachesChoice outer rows reach choice
reached_within outer rows reach choice floor within low is = inl (within, floor_more outer rows choice.fused floor (reach.cost + choice.size) low is)

pub reached_around : (outer : ℕ) (rows : List Row) (reach : PartCost) (choice : Choice) (floor : ℕ) → IsWithin reach.part choice.fused → floor ≤ reach.cost + choice.size
    → IsFloor outer rows reach.part floor → ReachesChoice outer rows reach choice
reached_around outer rows reach choice floor around low is = inr (inl (around, floor_more outer rows reach.part floor (reach.cost + choice.size) low is))

-- a cost that is kept with a part is a floor of it, and so is the greatest number
pub kept_floor : (outer : ℕ) (rows : List Row) (part cost : ℕ) (floors : List PartCost) → AreFloors outer rows floors
    → IsCostOf floors part cost → IsFloor outer rows part cost
kept_floor outer rows part cost floors are (inl greatest) = λ small. absurd (omega (arith, greatest, small))
kept_floor outer rows part cost floors are (inr inn) = All-contains (λ (f : PartCost). IsFloor outer rows f.part f.cost) floors (record { part = part; cost = cost }) are inn

-- and it is a reach where reaches are kept
pub kept_reach : (space : IndexSpace) (tree : ContractionTree) (outer v : ℕ) (rows : List Row) (part cost : ℕ) (reaches : List PartCost) → All (IsReach space tree outer v rows) reaches
    → IsCostOf reaches part cost → IsReach space tree outer v rows (record { part = part; cost = cost })
kept_reach space tree outer v rows part cost reaches are (inl greatest) = λ left right top ll rl low. absurd (omega (arith, greatest, low, ll, rl))
kept_reach space tree outer v rows part cost reaches are (inr inn) = All-contains (IsReach space tree outer v rows) reaches (record { part = part; cost = cost }) are inn

-- the lesser of two numbers is below what one of them is below
pub one_below : (a b least n : ℕ) → least ≡ min a b → least ≤ n → (a ≤ n) ⊎ (b ≤ n)
one_below a b least n is low = elim (cases_lt a b) [
  | inl less ↦ inl (omega (arith, is, low, less))
  | inr more ↦ inr (omega (arith, is, low, more))
]
