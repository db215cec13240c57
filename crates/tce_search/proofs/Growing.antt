-- One more list of candidates.
use Rattle.std.proofs.Common.{◌≡◌, ℕ, ◌<◌, List, [], ◌∷◌, ◌++◌, length, sym, ap, ◌∙◌, subst, inl, inr, arith}
use Rattle.std.proofs.lemmas.Bool.{cases_lt}
use Rattle.std.proofs.lemmas.List.{get_or_append_left, get_or_push, length_push}
use Rattle.std.specs.List.{All, Contains}
use Rattle.std.proofs.lemmas.List.Elements.{All-contains, All-weaker}
use Rattle.tce_space.specs.Space.{IndexSpace}
use Rattle.tce_tree.specs.ContractionTree.{ContractionTree, operations, node, node_loops}
use Rattle.tce_fusion.specs.Row.{rows_at}
use Rattle.tce_fusion.proofs.StateChoices.{later_tables_do_not_matter}
use Rattle.tce_search.specs.declared.candidate.Candidate.{Candidate}
use Rattle.tce_search.specs.Laws.{rows_of}
use Rattle.tce_search.specs.CandidateLists.{candidates_at, tables_of, Searched, with_next, IsKept, AreCandidates, AreKept, AreFound}
use Rattle.tce_search.proofs.Operands.{tables-at}

earlier : (found : List (List Candidate)) (more : List Candidate) (v : ℕ) → v < length found → candidates_at (found ++ more ∷ []) v ≡ candidates_at found v
earlier found more v low = get_or_append_left found (more ∷ []) [] v low

same_tables : (found : List (List Candidate)) (more : List Candidate) (v : ℕ) → v < length found → rows_at (tables_of found) v ≡ rows_at (tables_of (found ++ more ∷ [])) v
same_tables found more v low = tables-at found v ∙ ap rows_of (sym (earlier found more v low)) ∙ sym (tables-at (found ++ more ∷ []) v)

stay_found : (space : IndexSpace) (tree : ContractionTree) (least : ℕ) (found : List (List Candidate)) (more : List Candidate) (v : ℕ) → v < operations tree → v < length found
    → AreCandidates space tree least found v → AreCandidates space tree least (found ++ more ∷ []) v
stay_found space tree least found more v inside low are = record {
  kept = rw (earlier found more v low) are.kept;
  classes = rw (earlier found more v low) are.classes;
  covered = λ p is. later_tables_do_not_matter space tree (tables_of found) (tables_of (found ++ more ∷ [])) (node_loops tree p) v inside
      (λ u le. same_tables found more u (omega (arith, le, low))) (are.covered p is);
  apart = λ p is. rw (earlier found more v low) (are.apart p is);
}

-- what holds of each list so far, and of the next one, holds of each then
each_further : (P : List (List Candidate) → ℕ → Type 0) (found : List (List Candidate)) (more : List Candidate) (v : ℕ) → length found ≡ v
    → ((u : ℕ) → u < length found → P (found ++ more ∷ []) u) → P (found ++ more ∷ []) v → (u : ℕ) → u < length (found ++ more ∷ []) → P (found ++ more ∷ []) u
each_further P found more v next before last u under =
    let count = length_push found more in
    elim (cases_lt u (length found)) [
      | inl low ↦ before u low
      | inr high ↦
          let same : v ≡ u = omega (arith, count, next, under, high) in
          subst (P (found ++ more ∷ [])) same last
    ]

-- where the candidates so far are kept, and so are those of one more node
pub more_kept : (space : IndexSpace) (tree : ContractionTree) (found : Searched) (more : List Candidate) (v : ℕ) → length found.lists ≡ v → AreKept space tree found
    → All (IsKept space (node tree v) found.least) more → AreKept space tree (with_next found more)
more_kept space tree found more v next all here =
    each_further (λ lists u. All (IsKept space (node tree u) found.least) (candidates_at lists u)) found.lists more v next
    (λ u low. rw (earlier found.lists more u low) (all u low)) (rw (get_or_push found.lists more [] v next) here)

-- what some of the candidates of the next node are
pub some_kept : (space : IndexSpace) (tree : ContractionTree) (least v : ℕ) (found : List (List Candidate)) (more few : List Candidate) → length found ≡ v
    → AreCandidates space tree least (found ++ more ∷ []) v → All (Contains more) few → All (IsKept space (node tree v) least) few
some_kept space tree least v found more few next are among =
    let kept = subst (All (IsKept space (node tree v) least)) (get_or_push found more [] v next) are.kept in
    All-weaker (Contains more) (IsKept space (node tree v) least) (λ x inn. All-contains (IsKept space (node tree v) least) more x kept inn) few among

-- where those before are found, and one more is
pub one_more : (space : IndexSpace) (tree : ContractionTree) (found : Searched) (more : List Candidate) (v : ℕ) → length found.lists ≡ v → v < operations tree
    → AreFound space tree found → AreCandidates space tree found.least (found.lists ++ more ∷ []) v → AreFound space tree (with_next found more)
one_more space tree found more v next inside all here =
    each_further (AreCandidates space tree found.least) found.lists more v next
    (λ u low. stay_found space tree found.least found.lists more u (omega (arith, next, inside, low)) low (all u low)) here

-- what is found is kept
pub found_kept : (space : IndexSpace) (tree : ContractionTree) (found : Searched) → AreFound space tree found → AreKept space tree found
found_kept space tree found all v low = (all v low).kept

-- no list is any node's
pub none_kept : (space : IndexSpace) (tree : ContractionTree) (least : ℕ) → AreKept space tree (record { least = least; lists = [] })
none_kept space tree least v low = absurd (omega (arith, low))
