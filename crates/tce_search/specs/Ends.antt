-- Runs of right candidates that left ones with the same ends need not be joined with.
use Rattle.std.specs.Prelude.{◌≡◌, ◌⊎◌, ℕ, ◌+◌, ◌<◌, ◌≤◌, List, length, slice_index_or}
use Rattle.std.specs.List.{All, Contains}
use Rattle.tce_fusion.specs.Relation.{HasNoConflict}
use Rattle.tce_fusion.specs.Row.{Row, rows_joined}
use Rattle.tce_nesting.specs.declared.ends.Ends.{Ends}
use Rattle.tce_nesting.specs.declared.runs.Run.{Run}
use Rattle.tce_nesting.specs.Ends.{AreEnds, AreRuns}
use Rattle.tce_search.specs.declared.starts.Rights.{Rights}
use Rattle.tce_search.specs.declared.starts.Starts.{Starts}
use Rattle.tce_search.specs.Laws.{rows_of}

-- the runs are those of the right candidates
abbrev pub KnowsRuns : ℕ → Rights → Type 0
KnowsRuns loops rights = AreRuns loops (rows_of rights.candidates.now) rights.runs.now

-- each row with the ends that costs no less and each of the run have a conflict, or cost the limit or more together
abbrev pub IsRuledOut : ℕ → Ends → ℕ → Run → Type 0
IsRuledOut limit ends cost run =
    (loops : ℕ) (x y : Row) → AreEnds loops x ends → cost ≤ x.cost → AreEnds loops y run.ends → run.cost ≤ y.cost
    → HasNoConflict loops (rows_joined x y) → x.cost + y.cost < limit → ⊥

-- a place lies in a run that starts at one of the places, or is ruled out
pub record IsSettled (limit : ℕ) (runs : List Run) (ends : Ends) (cost : ℕ) (places : List ℕ) (place : ℕ) : Type 0 where
  pub start : ℕ
  pub run : Run
  pub is : slice_index_or runs start run ≡ run
  pub from : start ≤ place
  pub until : place < run.until
  pub either : Contains places start ⊎ IsRuledOut limit ends cost run

-- the place of each right candidate does so
pub record AreStarts (rights : Rights) (starts : Starts) : Type 0 where
  pub inside : All (λ place. place < length rights.candidates.now) starts.places.items
  pub each : (k : ℕ) → k < length rights.candidates.now → IsSettled rights.limit rights.runs.now starts.ends starts.cost starts.places.items k

-- these are the ends of the row, which costs no less
pub record AreFor (loops : ℕ) (row : Row) (starts : Starts) : Type 0 where
  pub ends : AreEnds loops row starts.ends
  pub cost : starts.cost ≤ row.cost

-- they are for these ends, and for no more than the cost
pub record IsServed (starts : Starts) (ends : Ends) (cost : ℕ) : Type 0 where
  pub least : starts.ends.least ≡ ends.least
  pub largest : starts.ends.largest ≡ ends.largest
  pub cheap : starts.cost ≤ cost
