-- Runs of candidates with the same ends.
use Rattle.std.proofs.Common.{◌≡◌, ℕ, ◌+◌, ◌<◌, List, [], ◌∷◌, ◌++◌, length, get_or, set, inl, inr, arith, ◌∙◌, sym, ap, subst}
use Rattle.std.proofs.lemmas.Bool.{cases_eq}
use Rattle.std.proofs.lemmas.List.{get_or_append_left, get_or_push, get_or-set_same, get_or-set_other, length-set, length-map, get_or-map}
use Rattle.tce_fusion.specs.Row.{Row}
use Rattle.tce_nesting.specs.declared.runs.Run.{Run}
use Rattle.tce_nesting.specs.Ends.{IsRun, AreRuns}
use Rattle.tce_search.specs.declared.candidate.Candidate.{Candidate}
use Rattle.tce_search.specs.Laws.{rows_of}

-- as many rows as candidates
pub rows_count : (candidates : List Candidate) → length (rows_of candidates) ≡ length candidates
rows_count candidates = length-map candidates (λ (x : Candidate). x.row)

-- the row of the candidate at a place
pub row_at : (candidates : List Candidate) (k : ℕ) (x : Candidate) → k < length candidates → x ≡ get_or candidates k x → x.row ≡ get_or (rows_of candidates) k x.row
row_at candidates k x low is = ap (λ (y : Candidate). y.row) is ∙ sym (get_or-map (λ (y : Candidate). y.row) candidates k x x.row low)

-- one more run
pub runs_further : (loops n : ℕ) (rows : List Row) (old new : List Run) (last : Run) → new ≡ old ++ last ∷ [] → length old ≡ n → IsRun loops rows n last
    → ((k : ℕ) (r : Run) → k < n → IsRun loops rows k (get_or old k r)) → (k : ℕ) (r : Run) → k < n + 1 → IsRun loops rows k (get_or new k r)
runs_further loops n rows old new last grown count run each k r inside = elim (cases_eq k n) [
  | inl at ↦
      subst (λ m. IsRun loops rows m (get_or new m r)) (sym at)
      (subst (IsRun loops rows n) (sym (ap (λ l. get_or l n r) grown ∙ get_or_push old last r n count)) run)
  | inr other ↦
      let before : k < n = omega (arith, inside, other) in
      let within : k < length old = omega (arith, before, count) in
      subst (IsRun loops rows k) (sym (ap (λ l. get_or l k r) grown ∙ get_or_append_left old (last ∷ []) r k within)) (each k r before)
]

-- another run at a place
pub runs_set : (loops k : ℕ) (rows : List Row) (runs : List Run) (run : Run) → k < length runs → IsRun loops rows k run → AreRuns loops rows runs
    → AreRuns loops rows (set runs k run)
runs_set loops k rows runs run low is all = record {
  count = omega (arith, length-set runs k run, all.count);
  each = λ j r inside. elim (cases_eq j k) [
    | inl at ↦
        subst (λ n. IsRun loops rows n (get_or (set runs k run) n r)) (sym at)
        (subst (IsRun loops rows k) (sym (get_or-set_same runs k run r low)) is)
    | inr other ↦ subst (IsRun loops rows j) (sym (get_or-set_other runs k j run r other)) (all.each j r inside)
  ];
}
