-- What neighbours among the choices have in common and together, by which they are told not to be allowed.
use Rattle.std.specs.Prelude.{ℕ, ◌<◌, ◌≤◌, List, length, slice_index_or}
use Rattle.tce_space.specs.IndexSet.{IsWithin}
use Rattle.tce_fusion.specs.Relation.{Relation}
use Rattle.tce_nesting.specs.Classes.{AllowsSet}
use Rattle.tce_nesting.specs.declared.choice.Choice.{Choice}
use Rattle.tce_nesting.specs.declared.stretches.Stretch.{Stretch}

-- the choice's set has what is common, and lies within all
pub record LiesBetween (common all : ℕ) (choice : Choice) : Type 0 where
  pub lower : IsWithin common choice.fused
  pub upper : IsWithin choice.fused all

-- this holds of each choice from a place on up to a later one
pub record IsStretch (choices : List Choice) (place : ℕ) (stretch : Stretch) : Type 0 where
  pub later : place < stretch.until
  pub inside : stretch.until ≤ length choices
  pub each : (k : ℕ) (x : Choice) → place ≤ k → k < stretch.until → LiesBetween stretch.common stretch.all (slice_index_or choices k x)

-- each choice has a stretch at its place
pub record AreStretches (choices : List Choice) (stretches : List Stretch) : Type 0 where
  pub count : length choices ≤ length stretches
  pub each : (k : ℕ) (s : Stretch) → k < length choices → IsStretch choices k (slice_index_or stretches k s)

-- what is a stretch wherever the first one is and the next one is behind it
abbrev pub IsTogether : Stretch → Stretch → Stretch → Type 0
IsTogether first next whole = (choices : List Choice) (k : ℕ) → IsStretch choices k first → IsStretch choices first.until next → IsStretch choices k whole

-- none of the sets between two is allowed
abbrev pub AllowsNone : Relation → ℕ → ℕ → Type 0
AllowsNone r common all = (fused : ℕ) → IsWithin common fused → IsWithin fused all → AllowsSet r fused → ⊥
