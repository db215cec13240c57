-- Upper parts of the outer loops.
use Rattle.std.specs.Prelude.{◌≡◌, ℕ, ◌%◌, List, false, IsTrue}
use Rattle.std.specs.List.{All, Any}
use Rattle.tce_space.specs.IndexSet.{IsIndexSet, IsWithin, has, empty}
use Rattle.tce_fusion.specs.Relation.{Relation}

-- each loop of the part is above all that are not of it; of these there is one, where the part is not empty
pub record IsUpperPart (outer : ℕ) (r : Relation) (part : ℕ) : Type 0 where
  pub number : IsIndexSet part
  pub within : IsWithin part outer
  pub upper : (i j : ℕ) → IsTrue (has part i) → IsTrue (has outer j) → has part j ≡ false → IsTrue (r i j)
  pub proper : IsWithin outer part → part ≡ empty

-- the remainder of each of the parts by 23, and nothing else
pub record AreMarksOf (parts : List ℕ) (marks : ℕ) : Type 0 where
  pub each : All (λ part. IsTrue (has marks (part % 23))) parts
  pub some : (mark : ℕ) → IsTrue (has marks mark) → Any (λ part. part % 23 ≡ mark) parts
