-- Nestings as lists of classes, outermost first, and the relations between indexes that they stand for.
use Rattle.std.specs.Prelude.{◌≡◌, ℕ, false, not, ◌==◌, List, map, IsTrue}
use Rattle.std.specs.List.{filter}
use Rattle.tce_space.specs.IndexSet.{has, meet, empty}
use Rattle.tce_fusion.specs.Relation.{Relation, above, joined}
use Rattle.tce_fusion.specs.StateClasses.{in_class, IsInhabited}

-- each class cut to the fused set, and empty ones left out
abbrev pub restricted : List ℕ → ℕ → List ℕ
restricted classes fused = filter (λ c. not (c == empty)) (map (λ c. meet c fused) classes)

-- each loop has a class, and nothing else has; and a loop is above another where it is in either relation
pub record IsJoinOf (loops : ℕ) (r s : Relation) (classes : List ℕ) : Type 0 where
  pub placed : (i : ℕ) → in_class classes i ≡ has loops i
  pub relation : (i j : ℕ) → IsTrue (has loops i) → IsTrue (has loops j) → above classes i j ≡ joined r s i j

-- each index of the first set is above each of the second
abbrev pub AllAbove : Relation → ℕ → ℕ → Type 0
AllAbove r upper lower = (i j : ℕ) → IsTrue (has upper i) → IsTrue (has lower j) → IsTrue (r i j)

-- no index outside the set is above one inside
abbrev pub AllowsSet : Relation → ℕ → Type 0
AllowsSet r fused = (i j : ℕ) → has fused i ≡ false → IsTrue (has fused j) → IsTrue (r i j) → ⊥

-- the members of the rest that no other member is above, each of which is above all others
pub record AreOutermost (r : Relation) (rest first : ℕ) : Type 0 where
  pub within : (i : ℕ) → IsTrue (has first i) → IsTrue (has rest i)
  pub upper : (i j : ℕ) → IsTrue (has first i) → IsTrue (has rest j) → r i j ≡ not (has first j)
  pub lower : (i j : ℕ) → IsTrue (has rest i) → IsTrue (has first j) → r i j ≡ false
  pub inhabited : IsInhabited rest → IsInhabited first
