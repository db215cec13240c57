-- Nestings: lists of classes of indexes, outermost first.
use Rattle.std.specs.Prelude.{◌≡◌, ℕ, Bool, false, ◌||◌, List, [], ◌∷◌, IsTrue}
use Rattle.tce_space.specs.IndexSet.{IsIndexSet, has}
use Rattle.tce_fusion.specs.Relation.{Relation, above}

-- some class has the index
abbrev pub in_class : List ℕ → ℕ → Bool
in_class [] i = false
in_class (c ∷ cs) i = has c i || in_class cs i

-- the set has a member
abbrev pub IsInhabited : ℕ → Type 0
IsInhabited set = ((i : ℕ) → has set i ≡ false) → ⊥

-- disjoint sets with members
abbrev pub IsNesting : List ℕ → Type 0
IsNesting [] = Unit {0}
IsNesting (c ∷ cs) = IsIndexSet c × IsInhabited c × ((i : ℕ) → IsTrue (has c i) → in_class cs i ≡ false) × IsNesting cs

-- the classes have just the members of a set, and put just those above each other that the relation does
pub record AreClassesOf (set : ℕ) (r : Relation) (classes : List ℕ) : Type 0 where
  pub nesting : IsNesting classes
  pub placed : (i : ℕ) → in_class classes i ≡ has set i
  pub relation : (i j : ℕ) → above classes i j ≡ r i j
