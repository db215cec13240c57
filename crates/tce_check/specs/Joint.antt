-- The steps from two rows that are joined, by the join's classes and choice by choice, and what stands for all states from a cost on.
use Rattle.std.specs.Prelude.{◌≡◌, ℕ, ◌+◌, ◌<◌, List, length, slice_index_or, Option, IfSome}
use Rattle.std.specs.List.{AllWithin, Any}
use Rattle.tce_fusion.specs.Relation.{above, none}
use Rattle.tce_fusion.specs.Row.{Row, StandsFor}
use Rattle.tce_nesting.specs.Classes.{restricted, IsJoinOf, AllowsSet}
use Rattle.tce_nesting.specs.declared.choice.Choice.{Choice}

-- the row has all loops as both rows put them above each other, and costs as much as both
pub record IsJointOf (loops : ℕ) (left right joint : Row) : Type 0 where
  pub classes : IsJoinOf loops (above left.classes) (above right.classes) joint.classes
  pub cost : joint.cost ≡ left.cost + right.cost

-- a row stands for the step that a joined state makes with the choice, if its classes allow the set
abbrev pub ChoiceCovered : ℕ → List Row → Row → Choice → Type 0
ChoiceCovered outer rows joint choice =
    AllowsSet (above joint.classes) choice.fused
    → Any (StandsFor outer (above (restricted joint.classes choice.fused)) (joint.cost + choice.size)) rows

-- the classes allow the set, and no row stands for the step
pub record ChoiceUncovered (outer : ℕ) (rows : List Row) (joint : Row) (choice : Choice) : Type 0 where
  pub allowed : AllowsSet (above joint.classes) choice.fused
  pub uncovered : ¬ Any (StandsFor outer (above (restricted joint.classes choice.fused)) (joint.cost + choice.size)) rows

-- this is the first choice whose step no row stands for
pub record IsFirstUncovered (outer : ℕ) (rows : List Row) (joint : Row) (choices : List Choice) (choice : Choice) : Type 0 where
  pub place : ℕ
  pub inside : place < length choices
  pub choice_is : choice ≡ slice_index_or choices place choice
  pub earlier : AllWithin (ChoiceCovered outer rows joint) choices 0 place
  pub fails : ChoiceUncovered outer rows joint choice

-- if there is a bound, a row of that cost stands for every state that costs no less
abbrev pub IsBound : ℕ → List Row → Option ℕ → Type 0
IsBound outer rows bound = IfSome bound (λ cost. Any (StandsFor outer none cost) rows)
