-- Laws of nestings and of their relations.
use Rattle.std.specs.Prelude.{◌≡◌, ◌↔◌, ℕ, List, IsTrue}
use Rattle.tce_space.specs.IndexSet.{IsWithin, has}
use Rattle.tce_fusion.specs.Relation.{Relation, above, joined, cut, Allows, IsCoarser}
use Rattle.tce_fusion.specs.StateClasses.{IsNesting, in_class}
use Rattle.tce_nesting.specs.Classes.{restricted, IsJoinOf, AllowsSet}

-- nestings that put the same indexes above each other are the same
abbrev pub NestingsAreTheirRelations : Type 0
NestingsAreTheirRelations = (a b : List ℕ) → IsNesting a → IsNesting b → ((i j : ℕ) → above a i j ≡ above b i j) → a ≡ b

-- a nesting that is cut to indexes of its classes has the cut of its relation
abbrev pub RestrictionsCut : Type 0
RestrictionsCut =
    (classes : List ℕ) (fused : ℕ) → ((i : ℕ) → IsTrue (has fused i) → IsTrue (in_class classes i))
    → (i j : ℕ) → above (restricted classes fused) i j ≡ cut fused (above classes) i j

-- the nesting of all loops tells of a set of them whether the joined relations allow it, and what they leave of it
pub record TellsStep (loops fused : ℕ) (r s : Relation) (classes : List ℕ) : Type 0 where
  pub allows : AllowsSet (above classes) fused ↔ Allows loops (joined r s) fused
  pub cuts : (i j : ℕ) → above (restricted classes fused) i j ≡ cut fused (joined r s) i j

abbrev pub JoinsTellSteps : Type 0
JoinsTellSteps =
    (loops fused : ℕ) (r s : Relation) (classes : List ℕ) → IsJoinOf loops r s classes → IsWithin fused loops → TellsStep loops fused r s classes

-- each relation is coarser than itself, what is coarser than a coarser one is coarser, and on fewer indexes all the more
pub record CoarserIsPreorder : Type 0 where
  pub itself : (indexes : ℕ) (r : Relation) → IsCoarser indexes r r
  pub chain : (indexes : ℕ) (r s t : Relation) → IsCoarser indexes r s → IsCoarser indexes s t → IsCoarser indexes r t
  pub fewer : (few many : ℕ) (r s : Relation) → IsWithin few many → IsCoarser many r s → IsCoarser few r s
