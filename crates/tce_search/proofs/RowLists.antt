-- Tables that are filled row by row.
use Rattle.std.proofs.Common.{◌≡◌, ℕ, ◌+◌, ◌<◌, ◌≤◌, List, [], ◌∷◌, ◌++◌, map, take, set, length, get_or, sym, ap, ◌∙◌, arith}
use Rattle.std.proofs.lemmas.List.{append_assoc, length-map, get_or-set_same, set-set, map_more, ext_get_or}
use Rattle.tce_fusion.specs.Row.{Row, rows_at}
use Rattle.tce_search.specs.declared.candidate.Candidate.{Candidate}
use Rattle.tce_search.specs.Laws.{rows_of}
use Rattle.tce_search.specs.CandidateLists.{candidates_at, tables_of}
use Rattle.tce_search.proofs.Operands.{tables-at}

-- one row more
pub rows_more : (tables filled new : List (List Row)) (v k : ℕ) (candidates : List Candidate) (candidate : Candidate) → v < length tables → k < length candidates → candidate ≡ get_or candidates k candidate
    → filled ≡ set tables v (rows_at tables v ++ rows_of (take k candidates)) → new ≡ set filled v (rows_at filled v ++ candidate.row ∷ [])
    → new ≡ set tables v (rows_at tables v ++ rows_of (take (k + 1) candidates))
rows_more tables filled new v k candidates candidate inside low read is grown =
    let there : rows_at filled v ≡ rows_at tables v ++ rows_of (take k candidates) = ap (λ t. rows_at t v) is ∙ get_or-set_same tables v (rows_at tables v ++ rows_of (take k candidates)) [] inside in
    let next : rows_of (take k candidates) ++ candidate.row ∷ [] ≡ rows_of (take (k + 1) candidates) =
    ap (λ (c : Candidate). rows_of (take k candidates) ++ c.row ∷ []) read ∙ sym (map_more (λ (c : Candidate). c.row) candidates k candidate low) in
    grown
    ∙ ap (λ xs. set filled v (xs ++ candidate.row ∷ [])) there
    ∙ ap (λ t. set t v ((rows_at tables v ++ rows_of (take k candidates)) ++ candidate.row ∷ [])) is
    ∙ set-set tables v (rows_at tables v ++ rows_of (take k candidates)) ((rows_at tables v ++ rows_of (take k candidates)) ++ candidate.row ∷ [])
    ∙ ap (set tables v) (append_assoc (rows_at tables v) (rows_of (take k candidates)) (candidate.row ∷ []) ∙ ap (λ xs. rows_at tables v ++ xs) next)

-- the tables of the nodes before `v` are filled, and those from there on are empty
pub record AreFilled (found : List (List Candidate)) (tables : List (List Row)) (v : ℕ) : Type 0 where
  pub count : length tables ≡ length found
  pub done : (u : ℕ) → u < v → rows_at tables u ≡ rows_of (candidates_at found u)
  pub rest : (u : ℕ) → v ≤ u → rows_at tables u ≡ []

pub all_filled : (found : List (List Candidate)) (tables : List (List Row)) (v : ℕ) → length found ≤ v → AreFilled found tables v → tables ≡ tables_of found
all_filled found tables v all filled =
    let count : length tables ≡ length (map rows_of found) = rw length-map filled.count in
    ext_get_or [] tables (map rows_of found) count (λ u low. filled.done u (omega (arith, low, all, filled.count)) ∙ sym (tables-at found u))
