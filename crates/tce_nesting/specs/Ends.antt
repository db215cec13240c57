-- Parts of some loops that rows put above all others of them, by which conflicts are told, and runs of rows with the same ones.
use Rattle.std.specs.Prelude.{◌≡◌, ℕ, ◌+◌, ◌<◌, ◌≤◌, List, length, slice_index_or, IsTrue, false}
use Rattle.tce_space.specs.IndexSet.{IsWithin, has}
use Rattle.tce_fusion.specs.Relation.{Relation, above, HasNoConflict}
use Rattle.tce_fusion.specs.Row.{Row, rows_joined}
use Rattle.tce_nesting.specs.declared.ends.Ends.{Ends}
use Rattle.tce_nesting.specs.declared.runs.Run.{Run}

-- these of the loops are above all others of them
pub record IsTopOf (loops : ℕ) (r : Relation) (top : ℕ) : Type 0 where
  pub within : IsWithin top loops
  pub upper : (i j : ℕ) → IsTrue (has top i) → IsTrue (has loops j) → has top j ≡ false → IsTrue (r i j)

-- two such parts of the row
pub record AreEnds (loops : ℕ) (row : Row) (ends : Ends) : Type 0 where
  pub least : IsTopOf loops (above row.classes) ends.least
  pub largest : IsTopOf loops (above row.classes) ends.largest

-- each of two parts has a member that the other lacks
abbrev pub DoCross : ℕ → ℕ → Type 0
DoCross a b = (IsWithin a b → ⊥) × (IsWithin b a → ⊥)

-- rows with these ends have a conflict
abbrev pub HaveConflict : Ends → Ends → Type 0
HaveConflict left right = (loops : ℕ) (x y : Row) → AreEnds loops x left → AreEnds loops y right → HasNoConflict loops (rows_joined x y) → ⊥

-- the run of the row at a place alone
pub record IsAlone (loops : ℕ) (row : Row) (place : ℕ) (run : Run) : Type 0 where
  pub ends : AreEnds loops row run.ends
  pub cost : run.cost ≤ row.cost
  pub until : run.until ≡ place + 1

-- the ends are those of each row from a place on up to a later one, and none of these costs less
pub record IsRun (loops : ℕ) (rows : List Row) (place : ℕ) (run : Run) : Type 0 where
  pub later : place < run.until
  pub inside : run.until ≤ length rows
  pub each : (k : ℕ) (x : Row) → place ≤ k → k < run.until → AreEnds loops (slice_index_or rows k x) run.ends
  pub cost : (k : ℕ) (x : Row) → place ≤ k → k < run.until → run.cost ≤ (slice_index_or rows k x).cost

-- each row has a run at its place
pub record AreRuns (loops : ℕ) (rows : List Row) (runs : List Run) : Type 0 where
  pub count : length rows ≤ length runs
  pub each : (k : ℕ) (r : Run) → k < length rows → IsRun loops rows k (slice_index_or runs k r)

-- what is a run wherever the first one is and the next one is behind it
abbrev pub IsLonger : Run → Run → Run → Type 0
IsLonger first next run = (loops k : ℕ) (rows : List Row) → IsRun loops rows k first → IsRun loops rows (k + 1) next → IsRun loops rows k run
