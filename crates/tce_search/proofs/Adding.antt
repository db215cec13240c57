-- Putting what two candidates are together behind a list, or leaving it out.
use Rattle.std.proofs.Common.{◌≡◌, ℕ, ◌+◌, ◌⊎◌, inl, List, [], ◌∷◌, ◌++◌, sym, ◌∙◌, subst, arith}
use Rattle.std.specs.List.{All, AllPairs, Any, Contains}
use Rattle.std.proofs.lemmas.List.Elements.{All-weaker, All-contains_itself}
use Rattle.std.proofs.lemmas.List.Quantifiers.{Any-push, all_pairs_push}
use Rattle.tce_fusion.specs.Relation.{above}
use Rattle.tce_fusion.specs.Row.{Row, StandsFor, rows_joined}
use Rattle.tce_search.specs.Steps.{IsRowJoin}
use Rattle.tce_search.specs.declared.candidate.Candidate.{Candidate}
use Rattle.tce_search.specs.Candidates.{Stands, StandForAll}
use Rattle.tce_search.specs.Groups.{LeavesOpen}
use Rattle.tce_search.specs.Joins.{JoinCovered}
use Rattle.tce_search.proofs.Quantifiers.{Any-weaker, Any-append_left, none_has}

-- where nothing is added, each candidate was there
pub all_there : (Q : Candidate → Type 0) (list : List Candidate) → All (λ x. Contains list x ⊎ Q x) list
all_there Q list = All-weaker (Contains list) (λ x. Contains list x ⊎ Q x) (λ x inn. inl inn) list (All-contains_itself list)

module _ (outer : ℕ) (left right : Candidate) (row : Row) (joins : IsRowJoin outer left.row right.row row) where
  abbrev both : Candidate → Type 0
  both = Stands outer (rows_joined left.row right.row) (left.row.cost + right.row.cost)

  -- what stands for the joined row stands for both together
  pub covered_before : (limit : ℕ) (list : List Candidate) → Any (Stands outer (above row.classes) row.cost) list → JoinCovered limit outer list left right
  covered_before limit list found quiet low =
      Any-weaker (Stands outer (above row.classes) row.cost) both
      (λ x s. record { coarser = λ i j p q h. sym (joins.classes.relation i j p q) ∙ s.coarser i j p q h; cheap = omega (arith, s.cheap, joins.cost) })
      list found

  -- so does a candidate with this row, which is put behind the others
  pub covered_now : (limit : ℕ) (old new : List Candidate) (last : Candidate) → last.row ≡ row → new ≡ old ++ last ∷ [] → JoinCovered limit outer new left right
  covered_now limit old new last same is quiet low =
      let stands : StandsFor outer (rows_joined left.row right.row) (left.row.cost + right.row.cost) row =
      record { coarser = λ i j p q h. sym (joins.classes.relation i j p q) ∙ h; cheap = omega (arith, joins.cost) } in
      subst (Any both) (sym is)
      (Any-push both old last (subst (StandsFor outer (rows_joined left.row right.row) (left.row.cost + right.row.cost)) (sym same) stands))

-- the others stand for what they stood for
pub others_stand : (outer : ℕ) (old new : List Candidate) (last : Candidate) → new ≡ old ++ last ∷ [] → StandForAll outer old new
others_stand outer old new last is relation limit found =
    subst (Any (Stands outer relation limit)) (sym is) (Any-append_left (Stands outer relation limit) old (last ∷ []) found)

-- none stands for a later one, where none stands for the last one
pub open_later : (outer : ℕ) (old new : List Candidate) (last : Candidate) → new ≡ old ++ last ∷ [] → (Any (Stands outer (above last.row.classes) last.row.cost) old → ⊥)
    → AllPairs (LeavesOpen outer) old → AllPairs (LeavesOpen outer) new
open_later outer old new last is none pairs =
    subst (AllPairs (LeavesOpen outer)) (sym is)
    (all_pairs_push (LeavesOpen outer) old last pairs (none_has (Stands outer (above last.row.classes) last.row.cost) old none))
