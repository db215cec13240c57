-- Which runs are ruled out, run by run, and what is then left to be joined.
use Rattle.std.proofs.Common.{◌≡◌, ℕ, ◌+◌, ◌<◌, ◌≤◌, List, [], ◌∷◌, ◌++◌, length, get_or, inl, inr, arith, sym, subst}
use Rattle.std.specs.List.{AllWithin, Contains}
use Rattle.std.proofs.lemmas.Bool.{cases_lt}
use Rattle.std.proofs.lemmas.List.{get_or-map}
use Rattle.std.proofs.lemmas.List.Elements.{Contains-push, Contains-append_left, All-contains}
use Rattle.tce_fusion.specs.Relation.{above}
use Rattle.tce_fusion.specs.Row.{Row}
use Rattle.tce_nesting.specs.declared.ends.Ends.{Ends}
use Rattle.tce_nesting.specs.declared.runs.Run.{Run}
use Rattle.tce_nesting.specs.Ends.{IsTopOf, AreEnds, IsRun}
use Rattle.tce_search.specs.declared.candidate.Candidate.{Candidate}
use Rattle.tce_search.specs.declared.starts.Rights.{Rights}
use Rattle.tce_search.specs.declared.starts.Starts.{Starts}
use Rattle.tce_search.specs.Ends.{KnowsRuns, IsRuledOut, IsSettled, AreStarts, AreFor, IsServed}
use Rattle.tce_search.specs.Joins.{JoinCovered, RunCovered, AllCovered}
use Rattle.tce_search.specs.Laws.{rows_of}
use Rattle.tce_search.proofs.RunParts.{rows_count}

-- one more run
module _ (limit place : ℕ) (runs : List Run) (ends : Ends) (cost : ℕ) (places : List ℕ) (run : Run) (is : run ≡ get_or runs place run)
    (before : (k : ℕ) → k < place → IsSettled limit runs ends cost places k) where
  pub settled_out : IsRuledOut limit ends cost run → (k : ℕ) → k < run.until → IsSettled limit runs ends cost places k
  settled_out out k low = elim (cases_lt k place) [
    | inl earlier ↦ before k earlier
    | inr later ↦ record { start = place; run = run; is = sym is; from = later; until = low; either = inr out }
  ]

  pub settled_more : (new : List ℕ) → new ≡ places ++ place ∷ [] → (k : ℕ) → k < run.until → IsSettled limit runs ends cost new k
  settled_more new grown k low = elim (cases_lt k place) [
    | inl earlier ↦
        let there = before k earlier in
        record {
          start = there.start;
          run = there.run;
          is = there.is;
          from = there.from;
          until = there.until;
          either = elim there.either [
            | inl inn ↦ inl (subst (λ xs. Contains xs there.start) (sym grown) (Contains-append_left places (place ∷ []) there.start inn))
            | inr out ↦ inr out
          ];
        }
    | inr later ↦ record {
      start = place;
      run = run;
      is = sym is;
      from = later;
      until = low;
      either = inl (subst (λ xs. Contains xs place) (sym grown) (Contains-push places place));
    }
  ]

-- the starts of other left candidates with the same ends
pub are_for : (loops cost : ℕ) (row : Row) (starts : Starts) (ends : Ends) → AreEnds loops row ends → cost ≡ row.cost → IsServed starts ends cost → AreFor loops row starts
are_for loops cost row starts ends here is served = record {
  ends = record {
    least = subst (IsTopOf loops (above row.classes)) (sym served.least) here.least;
    largest = subst (IsTopOf loops (above row.classes)) (sym served.largest) here.largest;
  };
  cost = omega (arith, is, served.cheap);
}

-- what is said of a run's rows is said of its candidates
module _ (loops place : ℕ) (rights : List Candidate) (run : Run) (is : IsRun loops (rows_of rights) place run) where
  pub run_inside : run.until ≤ length rights
  run_inside = omega (arith, is.inside, rows_count rights)

  pub ends_in_run : (k : ℕ) (d : Candidate) → place ≤ k → k < run.until → AreEnds loops (get_or rights k d).row run.ends
  ends_in_run k d from low =
      subst (λ (y : Row). AreEnds loops y run.ends) (get_or-map (λ (x : Candidate). x.row) rights k d d.row (omega (arith, low, run_inside))) (is.each k d.row from low)

  pub cost_in_run : (k : ℕ) (d : Candidate) → place ≤ k → k < run.until → run.cost ≤ (get_or rights k d).row.cost
  cost_in_run k d from low =
      subst (λ (y : Row). run.cost ≤ y.cost) (get_or-map (λ (x : Candidate). x.row) rights k d d.row (omega (arith, low, run_inside))) (is.cost k d.row from low)

  -- the rest of a run with which a candidate costs the limit or more
  pub dear_skipped : (limit from : ℕ) (joins : List Candidate) (left : Candidate) → limit ≤ left.row.cost + run.cost
      → AllWithin (JoinCovered limit loops joins left) rights from place → AllWithin (JoinCovered limit loops joins left) rights from run.until
  dear_skipped limit from joins left dear before k d start low = elim (cases_lt k place) [
    | inl earlier ↦ before k d start earlier
    | inr later ↦ λ quiet cheap. absurd (let least = cost_in_run k d later low in omega (arith, dear, least, cheap))
  ]

-- the candidates of the run that starts at a place are covered
abbrev pub IsRunCovered : ℕ → List Candidate → Candidate → Rights → ℕ → Type 0
IsRunCovered loops joins left rights start = (r : Run) → RunCovered loops joins left rights start (get_or rights.runs.now start r).until

-- all are, where those of the runs are that are not ruled out
pub all_covered : (loops : ℕ) (joins : List Candidate) (left : Candidate) (rights : Rights) (starts : Starts) → KnowsRuns loops rights → AreStarts rights starts → AreFor loops left.row starts
    → ((k d : ℕ) → k < length starts.places.items → IsRunCovered loops joins left rights (get_or starts.places.items k d)) → AllCovered loops joins left rights
all_covered loops joins left rights starts all are own covered k d low =
    let place = are.each k low in
    elim place.either [
      | inl inn ↦ All-contains (IsRunCovered loops joins left rights) starts.places.items place.start covered inn place.run k d place.from (subst (λ (r : Run). k < r.until) (sym place.is) place.until)
      | inr out ↦ λ quiet cheap.
          let here = run_here place.start place.run place.is place.from place.until in
          absurd (out loops left.row (get_or rights.candidates.now k d).row own.ends own.cost (ends_in_run loops place.start rights.candidates.now place.run here k d place.from place.until)
          (cost_in_run loops place.start rights.candidates.now place.run here k d place.from place.until) quiet cheap)
    ]
  where
    run_here : (start : ℕ) (run : Run) → get_or rights.runs.now start run ≡ run → start ≤ k → k < run.until → IsRun loops (rows_of rights.candidates.now) start run
    run_here start run is from until =
        subst (IsRun loops (rows_of rights.candidates.now) start) is (all.each start run (omega (arith, from, low, rows_count rights.candidates.now)))
