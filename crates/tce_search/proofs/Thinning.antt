-- Candidates that are taken from the end of a list, and kept where none that was kept stands for them.
use Rattle.std.proofs.Common.{◌≡◌, ℕ, ◌⊎◌, inl, inr, arith, sym, subst, List, [], ◌∷◌, ◌++◌, get_or, reverse}
use Rattle.std.specs.List.{All, AllPairs, Any, Contains}
use Rattle.std.proofs.lemmas.List.Elements.{All-nil, All-push, All-weaker, All-contains_itself}
use Rattle.std.proofs.lemmas.List.Quantifiers.{Any-push, all_pairs_push}
use Rattle.tce_fusion.specs.Relation.{Relation, above}
use Rattle.tce_search.specs.declared.candidate.Candidate.{Candidate}
use Rattle.tce_search.specs.Candidates.{Stands, StandForAll, AreApart}
use Rattle.tce_search.specs.Groups.{LeavesOpen}
use Rattle.tce_search.proofs.Quantifiers.{Any-nil, Any-weaker, Any-append_left, Any-push_cases, none_has, All-front, All-last, AllPairs-front, AllPairs-last, All-reversed, Any-reversed}
use Rattle.tce_search.proofs.Standing.{stands_through}

-- what is left and what is kept stand for as much as all; none that is left stands for one that is kept, and of those that are kept none for another
pub record IsThinned (outer : ℕ) (all rest kept : List Candidate) : Type 0 where
  pub others : (relation : Relation) (limit : ℕ) → Any (Stands outer relation limit) all → Any (Stands outer relation limit) rest ⊎ Any (Stands outer relation limit) kept
  pub later : AllPairs (LeavesOpen outer) rest
  pub between : All (λ x. All (LeavesOpen outer x) kept) rest
  pub apart : AllPairs (AreApart outer) kept
  pub left : All (Contains all) rest
  pub origin : All (Contains all) kept

pub thinned_none : (outer : ℕ) (all : List Candidate) → AllPairs (LeavesOpen outer) all → IsThinned outer all all []
thinned_none outer all later = record {
  others = λ r n found. inl found;
  later = later;
  between = All-weaker (Contains all) (λ x. All (LeavesOpen outer x) []) (λ x inn. All-nil (LeavesOpen outer x)) all (All-contains_itself all);
  apart = λ i j d order low. absurd (omega arith);
  left = All-contains_itself all;
  origin = All-nil (Contains all);
}

-- some candidate that is kept stands for the last one's state
pub thinned_drop : (outer : ℕ) (all old rest kept : List Candidate) (last : Candidate) → old ≡ rest ++ last ∷ [] → Any (Stands outer (above last.row.classes) last.row.cost) kept → IsThinned outer all old kept → IsThinned outer all rest kept
thinned_drop outer all old rest kept last is covered thinned =
    let here = subst (λ xs. IsThinned outer all xs kept) is thinned in
    record {
      others = λ r n found. elim (here.others r n found) [
        | inl left ↦ elim (Any-push_cases (Stands outer r n) rest last left) [
          | inl stays ↦ inl stays
          | inr gone ↦ inr (Any-weaker (Stands outer (above last.row.classes) last.row.cost) (Stands outer r n) (λ y h. stands_through outer r n last y gone h) kept covered)
        ]
        | inr there ↦ inr there
      ];
      later = AllPairs-front (LeavesOpen outer) rest last here.later;
      between = All-front (λ x. All (LeavesOpen outer x) kept) rest last here.between;
      apart = here.apart;
      left = All-front (Contains all) rest last here.left;
      origin = here.origin;
    }

-- none does, and it is kept
pub thinned_keep : (outer : ℕ) (all old rest kept new : List Candidate) (last : Candidate) → old ≡ rest ++ last ∷ [] → new ≡ kept ++ last ∷ [] → (Any (Stands outer (above last.row.classes) last.row.cost) kept → ⊥) → IsThinned outer all old kept → IsThinned outer all rest new
thinned_keep outer all old rest kept new last is grown none thinned =
    let here = subst (λ xs. IsThinned outer all xs kept) is thinned in
    let stands = Stands outer (above last.row.classes) last.row.cost in
    let others_open = none_has stands kept none in
    let below = AllPairs-last (LeavesOpen outer) rest last here.later in
    subst (λ xs. IsThinned outer all rest xs) (sym grown) (record {
      others = λ r n found. elim (here.others r n found) [
        | inl left ↦ elim (Any-push_cases (Stands outer r n) rest last left) [
          | inl stays ↦ inl stays
          | inr gone ↦ inr (Any-push (Stands outer r n) kept last gone)
        ]
        | inr there ↦ inr (Any-append_left (Stands outer r n) kept (last ∷ []) there)
      ];
      later = AllPairs-front (LeavesOpen outer) rest last here.later;
      between = λ k d low. All-push (LeavesOpen outer (get_or rest k d)) kept last (All-front (λ x. All (LeavesOpen outer x) kept) rest last here.between k d low) (below k d low);
      apart = all_pairs_push (AreApart outer) kept last here.apart (λ k d low. (All-last (λ x. All (LeavesOpen outer x) kept) rest last here.between k d low, others_open k d low));
      left = All-front (Contains all) rest last here.left;
      origin = All-push (Contains all) kept last here.origin (All-last (Contains all) rest last here.left);
    })

-- those that are kept are put in the other order, where none is left
pub thinned_others : (outer : ℕ) (all rest kept new : List Candidate) → rest ≡ [] → new ≡ reverse kept → IsThinned outer all rest kept → StandForAll outer all new
thinned_others outer all rest kept new none is thinned r n found = elim (thinned.others r n found) [
  | inl left ↦ absurd (Any-nil (Stands outer r n) (subst (Any (Stands outer r n)) none left))
  | inr there ↦ Any-reversed (Stands outer r n) kept new is there
]

pub thinned_origin : (outer : ℕ) (all rest kept new : List Candidate) → new ≡ reverse kept → IsThinned outer all rest kept → All (Contains all) new
thinned_origin outer all rest kept new is thinned = All-reversed (Contains all) kept new is thinned.origin
