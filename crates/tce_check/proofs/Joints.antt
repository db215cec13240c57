-- From the classes of a join to the steps from the rows that are joined.
use Rattle.std.proofs.Common.{◌≡◌, ℕ, ◌+◌, ◌<◌, ◌≤◌, ◌↔◌, ◌⊎◌, inl, inr, sym, ap, ◌∙◌, subst, arith, List, All, Contains, length, map, get_or, Option, Some, None, IsSome}
use Rattle.std.specs.Prelude.{is_some}
use Rattle.std.specs.List.{Any}
use Rattle.std.specs.List.Sorted.{IsStrictlyIncreasing}
use Rattle.std.proofs.lemmas.Bool.{true≢false, cases_lt, cases_eq}
use Rattle.std.proofs.lemmas.List.{length-map, get_or-map}
use Rattle.std.proofs.lemmas.List.Elements.{All-contains}
use Rattle.std.proofs.lemmas.List.Kept.{AllPairs-from_increasing}
use Rattle.tce_space.specs.IndexSet.{IsWithin}
use Rattle.tce_space.specs.Space.{IndexSpace}
use Rattle.tce_tree.specs.ContractionTree.{ContractionTree, operations, node_dims, node_loops}
use Rattle.tce_fusion.specs.Relation.{Relation, above, none, IsCoarser, HasNoConflict}
use Rattle.tce_fusion.specs.Row.{Row, StandsFor, step_relation, step_cost, rows_joined}
use Rattle.tce_fusion.specs.Cover.{StepsCovered}
use Rattle.tce_fusion.specs.StateClasses.{IsNesting}
use Rattle.tce_nesting.specs.Classes.{restricted}
use Rattle.tce_nesting.specs.Laws.{TellsStep}
use Rattle.tce_nesting.proofs.NestingLaws.{joins_tell_steps}
use Rattle.tce_nesting.specs.declared.choice.Choice.{Choice}
use Rattle.tce_nesting.specs.Choices.{AreChoices, LeavesSize}
use Rattle.tce_nesting.proofs.SubsetLists.{dims_within}
use Rattle.tce_check.specs.Joint.{IsJointOf, ChoiceCovered, IsFirstUncovered, IsBound}
use Rattle.tce_check.specs.Verdict.{StepCovered, IsLeastUncovered}

-- what the join's classes tell of a set of the node's dims
told : (tree : ContractionTree) (v : ℕ) (left right joint : Row) (fused : ℕ) → v < operations tree
    → IsJointOf (node_loops tree v) left right joint → IsWithin fused (node_dims tree v)
    → TellsStep (node_loops tree v) fused (above left.classes) (above right.classes) joint.classes
told tree v left right joint fused inside join within =
    joins_tell_steps (node_loops tree v) fused (above left.classes) (above right.classes) joint.classes join.classes (λ i h. dims_within tree v inside i (within i h))

-- a row stands for a state by its relation and its cost alone
stands_same : (outer : ℕ) (r s : Relation) (m n : ℕ) (rows : List Row) → ((i j : ℕ) → r i j ≡ s i j) → m ≡ n → Any (StandsFor outer r m) rows → Any (StandsFor outer s n) rows
stands_same outer r s m n rows same equal found = (
  found.0,
  found.1,
  found.2,
  found.3,
  record { coarser = λ i j p q h. sym (same i j) ∙ found.4.coarser i j p q h; cheap = subst (λ x. found.1.cost ≤ x) equal found.4.cheap },
)

-- the cost of a row that puts no loop above another is a bound, where the one so far is not kept
pub bound_next : (outer : ℕ) (rows : List Row) (bound next : Option ℕ) (k : ℕ) (row : Row) → k < length rows → row ≡ get_or rows k row → IsBound outer rows bound
    → (next ≡ bound) ⊎ ((next ≡ Some row.cost) × IsCoarser outer (above row.classes) none) → IsBound outer rows next
bound_next outer rows bound next k row low is so_far (inl same) = subst (IsBound outer rows) (sym same) so_far
bound_next outer rows bound next k row low is so_far (inr (least, coarse)) =
    subst (IsBound outer rows) (sym least) (k, row, low, sym is, record { coarser = coarse; cheap = omega arith })

-- the cost of a choice's step is that of the step of its set
cost_of_choice : (space : IndexSpace) (tree : ContractionTree) (v : ℕ) (left right joint : Row) (choice : Choice) → IsJointOf (node_loops tree v) left right joint
    → LeavesSize space tree v choice → joint.cost + choice.size ≡ step_cost space tree v left right choice.fused
cost_of_choice space tree v left right joint choice join size = ap (λ x. x + choice.size) join.cost ∙ ap (λ x. left.cost + right.cost + x) size

-- where all states of a cost have a row, all steps from rows that cost no less have
pub steps_of_bound : (space : IndexSpace) (tree : ContractionTree) (outer v bound : ℕ) (rows : List Row) (left right : Row) → bound ≤ left.cost + right.cost
    → ((relation : Relation) → Any (StandsFor outer relation bound) rows) → StepsCovered space tree outer v rows left right
steps_of_bound space tree outer v bound rows left right low all fused within allows =
    let found = all (step_relation left right fused) in (
      found.0,
      found.1,
      found.2,
      found.3,
      record { coarser = found.4.coarser; cheap = omega (arith, found.4.cheap, low) },
    )

-- what covers the choice of a set covers the step
step_of_choice : (space : IndexSpace) (tree : ContractionTree) (outer v : ℕ) (rows : List Row) (left right joint : Row) (choice : Choice) → v < operations tree
    → IsJointOf (node_loops tree v) left right joint → LeavesSize space tree v choice → ChoiceCovered outer rows joint choice
    → StepCovered space tree outer v rows left right choice.fused
step_of_choice space tree outer v rows left right joint choice inside join size covered within allows =
    let tells = told tree v left right joint choice.fused inside join within in
    stands_same outer (above (restricted joint.classes choice.fused)) (step_relation left right choice.fused) (joint.cost + choice.size)
    (step_cost space tree v left right choice.fused) rows tells.cuts (cost_of_choice space tree v left right joint choice join size) (covered (tells.allows.1 allows))

-- the sets of choices
abbrev sets_of : List Choice → List ℕ
sets_of choices = map (λ (c : Choice). c.fused) choices

Contains-fused : (choices : List Choice) (choice : Choice) → Contains choices choice → Contains (sets_of choices) choice.fused
Contains-fused choices choice inn =
    (inn.0, rw length-map inn.1, get_or-map (λ (c : Choice). c.fused) choices inn.0 choice choice.fused inn.1 ∙ ap (λ (c : Choice). c.fused) inn.2)

-- the choice of a set, by its place
pub choice_at : (space : IndexSpace) (tree : ContractionTree) (v fused : ℕ) (choices : List Choice) (other : Choice) → AreChoices space tree v choices → IsWithin fused (node_dims tree v)
    → (k : ℕ) × (k < length choices) × ((get_or choices k other).fused ≡ fused)
choice_at space tree v fused choices other are within =
    let found = (are.sets.each fused).1 within in
    let low : found.0 < length choices = rw length-map at found.1 in
    (found.0, low, sym (get_or-map (λ (c : Choice). c.fused) choices found.0 other fused low) ∙ found.2)

-- of two choices that of the lesser set comes first
comes_first : (choices : List Choice) (other : Choice) (i j : ℕ) → IsStrictlyIncreasing (sets_of choices) → i < length choices → j < length choices
    → (get_or choices i other).fused < (get_or choices j other).fused → i < j
comes_first choices other i j ascend low high less = elim (cases_lt i j) [
  | inl below ↦ below
  | inr above ↦ elim (cases_eq i j) [
    | inl same ↦ absurd (omega (arith, less, ap (λ k. (get_or choices k other).fused) same))
    | inr apart ↦
        let inner : i < length (sets_of choices) = rw length-map low in
        let order = AllPairs-from_increasing (sets_of choices) ascend j i 0 (omega (arith, above, apart)) inner in
        absurd (omega (arith, less, order, get_or-map (λ (c : Choice). c.fused) choices i other 0 low, get_or-map (λ (c : Choice). c.fused) choices j other 0 high))
  ]
]

pub no_choice : Choice
no_choice = record { fused = 0; size = 0 }

-- where all choices are covered, all steps are
pub steps_of_choices : (space : IndexSpace) (tree : ContractionTree) (outer v : ℕ) (rows : List Row) (left right joint : Row) (choices : List Choice) → v < operations tree
    → IsJointOf (node_loops tree v) left right joint → AreChoices space tree v choices → All (ChoiceCovered outer rows joint) choices
    → StepsCovered space tree outer v rows left right
steps_of_choices space tree outer v rows left right joint choices inside join are covered fused within allows =
    let at = choice_at space tree v fused choices no_choice are within in
    subst (StepCovered space tree outer v rows left right) at.2
    (step_of_choice space tree outer v rows left right joint (get_or choices at.0 no_choice) inside join (are.sizes at.0 no_choice at.1) (covered at.0 no_choice at.1))
    within allows

-- the state that the first choice without a row leads to is the step of the least set without one
pub least_of_choices : (space : IndexSpace) (tree : ContractionTree) (outer v : ℕ) (rows : List Row) (left right joint : Row) (choices : List Choice) (choice : Choice) (state : Row)
    → v < operations tree → HasNoConflict (node_loops tree v) (rows_joined left right) → IsJointOf (node_loops tree v) left right joint → AreChoices space tree v choices
    → IsFirstUncovered outer rows joint choices choice → IsNesting state.classes → state.classes ≡ restricted joint.classes choice.fused → state.cost ≡ joint.cost + choice.size
    → IsLeastUncovered space tree outer v rows choice.fused state left right
least_of_choices space tree outer v rows left right joint choices choice state inside quiet join are first nesting classes_are cost_is =
    let inn : Contains choices choice = (first.place, first.inside, sym first.choice_is) in
    let size = All-contains (LeavesSize space tree v) choices choice are.sizes inn in
    let within : IsWithin choice.fused (node_dims tree v) = (are.sets.each choice.fused).0 (Contains-fused choices choice inn) in
    let tells = told tree v left right joint choice.fused inside join within in
    let cost = cost_of_choice space tree v left right joint choice join size in
    record {
      is = record {
        quiet = quiet;
        within = within;
        allowed = tells.allows.0 first.fails.allowed;
        relation_is = λ i j. ap (λ cs. above cs i j) classes_are ∙ tells.cuts i j;
        cost_is = cost_is ∙ cost;
      };
      nesting = nesting;
      uncovered = λ found. first.fails.uncovered (stands_same outer (step_relation left right choice.fused) (above (restricted joint.classes choice.fused))
          (step_cost space tree v left right choice.fused) (joint.cost + choice.size) rows (λ i j. sym (tells.cuts i j)) (sym cost) found);
      lesser = λ set below. lesser_set space tree outer v rows left right joint choices choice set inside join are first below;
    }
  where
    lesser_set : (space : IndexSpace) (tree : ContractionTree) (outer v : ℕ) (rows : List Row) (left right joint : Row) (choices : List Choice) (choice : Choice) (set : ℕ) → v < operations tree
        → IsJointOf (node_loops tree v) left right joint → AreChoices space tree v choices → IsFirstUncovered outer rows joint choices choice → set < choice.fused
        → StepCovered space tree outer v rows left right set
    lesser_set space tree outer v rows left right joint choices choice set inside join are first below within allows =
        let at = choice_at space tree v set choices choice are within in
        let less : (get_or choices at.0 choice).fused < (get_or choices first.place choice).fused =
        omega (arith, at.2, below, ap (λ (c : Choice). c.fused) first.choice_is) in
        let here = comes_first choices choice at.0 first.place are.sets.ascend at.1 first.inside less in
        subst (StepCovered space tree outer v rows left right) at.2
        (step_of_choice space tree outer v rows left right joint (get_or choices at.0 choice) inside join (are.sizes at.0 choice at.1) (first.earlier at.0 choice (omega arith) here))
        within allows

-- no state where two rows have a conflict
pub none_joined : (loops : ℕ) (x y left right : Row) (o : Option Row) → o ≡ None → x ≡ left → y ≡ right → (HasNoConflict loops (rows_joined x y) → ⊥)
    → IsSome o ↔ HasNoConflict loops (rows_joined left right)
none_joined loops x y left right o none same equal conflict = (
  λ some. absurd (true≢false (sym some ∙ ap is_some none)),
  λ quiet. absurd (conflict (subst (λ l. HasNoConflict loops (rows_joined l y)) (sym same) (subst (λ r. HasNoConflict loops (rows_joined left r)) (sym equal) quiet))),
)
