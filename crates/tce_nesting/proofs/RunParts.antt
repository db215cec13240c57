-- Runs of rows with the same ends.
use Rattle.std.proofs.Common.{◌≡◌, ℕ, ◌<◌, ◌≤◌, List, length, get_or, inl, inr, arith, sym, subst}
use Rattle.std.proofs.lemmas.Bool.{cases_eq}
use Rattle.std.proofs.lemmas.List.Elements.{at_read}
use Rattle.tce_fusion.specs.Relation.{above}
use Rattle.tce_fusion.specs.Row.{Row}
use Rattle.tce_nesting.specs.declared.runs.Run.{Run}
use Rattle.tce_nesting.specs.Ends.{IsTopOf, AreEnds, IsAlone, IsRun, AreRuns, IsLonger}

-- the run at a place
pub run_at : (loops k : ℕ) (rows : List Row) (runs : List Run) (run : Run) → AreRuns loops rows runs → k < length rows → run ≡ get_or runs k run → IsRun loops rows k run
run_at loops k rows runs run all low is = subst (IsRun loops rows k) (sym is) (all.each k run low)

-- the run of one row alone
pub run_alone : (loops k : ℕ) (rows : List Row) (x : Row) (run : Run) → k < length rows → x ≡ get_or rows k x → IsAlone loops x k run → IsRun loops rows k run
run_alone loops k rows x run low is alone = record {
  later = omega (arith, alone.until);
  inside = omega (arith, low, alone.until);
  each = λ j y from before.
      let at : k ≡ j = omega (arith, from, before, alone.until) in
      subst (λ n. AreEnds loops (get_or rows n y) run.ends) at (at_read rows (λ (z : Row). AreEnds loops z run.ends) k x low is alone.ends y);
  cost = λ j y from before.
      let at : k ≡ j = omega (arith, from, before, alone.until) in
      subst (λ n. run.cost ≤ (get_or rows n y).cost) at (at_read rows (λ (z : Row). run.cost ≤ z.cost) k x low is alone.cost y);
}

-- a run and the next one, where they have the same ends
pub run_longer : (first next run : Run) → first.ends.least ≡ next.ends.least → first.ends.largest ≡ next.ends.largest → run.ends ≡ first.ends → run.until ≡ next.until
    → run.cost ≤ first.cost → run.cost ≤ next.cost → IsLonger first next run
run_longer first next run least largest ends until cost_first cost_next loops k rows here there = record {
  later = omega (arith, there.later, until);
  inside = omega (arith, there.inside, until);
  each = λ j x from before. subst (AreEnds loops (get_or rows j x)) (sym ends) (elim (cases_eq j k) [
    | inl at ↦ here.each j x from (omega (arith, at, here.later))
    | inr other ↦
        let both = there.each j x (omega (arith, from, other)) (omega (arith, before, until)) in
        record {
          least = subst (IsTopOf loops (above (get_or rows j x).classes)) (sym least) both.least;
          largest = subst (IsTopOf loops (above (get_or rows j x).classes)) (sym largest) both.largest;
        }
  ]);
  cost = λ j x from before. elim (cases_eq j k) [
    | inl at ↦ let low = here.cost j x from (omega (arith, at, here.later)) in omega (arith, low, cost_first)
    | inr other ↦ let low = there.cost j x (omega (arith, from, other)) (omega (arith, before, until)) in omega (arith, low, cost_next)
  ];
}
