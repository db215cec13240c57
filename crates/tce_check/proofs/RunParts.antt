-- Runs of rows with the same ends.
use Rattle.std.proofs.Common.{◌≡◌, ℕ, ◌+◌, ◌^◌, ◌<◌, ◌≤◌, List, All, length, get_or, set, inl, inr, arith, sym, subst}
use Rattle.std.specs.List.{AllWithin}
use Rattle.std.proofs.lemmas.Bool.{cases_lt, cases_eq}
use Rattle.std.proofs.lemmas.List.{get_or-set_same, get_or-set_other}
use Rattle.tce_tree.specs.ContractionTree.{ContractionTree, node_loops}
use Rattle.tce_fusion.specs.Row.{Row}
use Rattle.tce_nesting.specs.declared.ends.Ends.{Ends}
use Rattle.tce_nesting.specs.declared.runs.Run.{Run}
use Rattle.tce_nesting.specs.Ends.{AreEnds, IsRun, HaveConflict}
use Rattle.tce_check.specs.Verdict.{WhereJoined}

-- a run each of whose rows has a conflict with a row
pub run_skipped : (tree : ContractionTree) (v place : ℕ) (P : Row → Row → Type 0) (rights : List Row) (left : Row) (own : Ends) (run : Run) → AreEnds (node_loops tree v) left own
    → IsRun (node_loops tree v) rights place run → HaveConflict own run.ends → AllWithin (WhereJoined tree v P left) rights 0 place → AllWithin (WhereJoined tree v P left) rights 0 run.until
run_skipped tree v place P rights left own run here is conflict before k d from low = elim (cases_lt k place) [
  | inl earlier ↦ before k d from earlier
  | inr later ↦ λ quiet. absurd (conflict (node_loops tree v) left (get_or rights k d) here (is.each k d later low) quiet)
]

-- runs from a place on
abbrev pub AreRunsFrom : ℕ → List Row → List Run → ℕ → Type 0
AreRunsFrom loops rows runs place = (k : ℕ) (r : Run) → place ≤ k → k < length rows → IsRun loops rows k (get_or runs k r)

-- and from the place before
pub runs_earlier : (loops k place : ℕ) (rows : List Row) (runs : List Run) (run : Run) → place ≡ k + 1 → k < length runs → IsRun loops rows k run → AreRunsFrom loops rows runs place
    → AreRunsFrom loops rows (set runs k run) k
runs_earlier loops k place rows runs run next low is later j r from inside = elim (cases_eq j k) [
  | inl at ↦
      subst (λ n. IsRun loops rows n (get_or (set runs k run) n r)) (sym at)
      (subst (IsRun loops rows k) (sym (get_or-set_same runs k run r low)) is)
  | inr other ↦ subst (IsRun loops rows j) (sym (get_or-set_other runs k j run r other)) (later j r (omega (arith, from, other, next)) inside)
]

-- a run whose rows cost so much with a row that rows stand for all steps
pub run_dear : (tree : ContractionTree) (v place : ℕ) (P : Row → Row → Type 0) (rights : List Row) (left : Row) (run : Run) → IsRun (node_loops tree v) rights place run
    → All (λ (row : Row). row.cost < 2 ^ 96) rights → ((right : Row) → right.cost < 2 ^ 96 → run.cost ≤ right.cost → P left right)
    → AllWithin (WhereJoined tree v P left) rights 0 place → AllWithin (WhereJoined tree v P left) rights 0 run.until
run_dear tree v place P rights left run is limit dear before k d from low = elim (cases_lt k place) [
  | inl earlier ↦ before k d from earlier
  | inr later ↦ λ quiet. dear (get_or rights k d) (limit k d (omega (arith, low, is.inside))) (is.cost k d later low)
]
