-- Lists that have grown by what a candidate and others are together, step by step.
use Rattle.std.proofs.Common.{◌≡◌, ℕ, ◌<◌, ◌⊎◌, List, length, get_or, inl, inr, refl, sym, subst}
use Rattle.std.specs.List.{All, AllPairs, Any, Contains}
use Rattle.std.proofs.lemmas.List.Elements.{All-weaker, All-contains_itself}
use Rattle.tce_search.specs.declared.candidate.Candidate.{Candidate}
use Rattle.tce_search.specs.declared.starts.Rights.{Rights}
use Rattle.tce_search.specs.Candidates.{StandForAll}
use Rattle.tce_search.specs.Groups.{Listed, LeavesOpen}
use Rattle.tce_search.specs.Joins.{IsJoinBelow, HasGrownBy}
use Rattle.tce_search.proofs.Covers.{from_earlier}
use Rattle.tce_search.specs.Joins.{Grows}
use Rattle.tce_search.proofs.CandidatesGrowing.{grows_further}

module _ (left : Candidate) (rights : Rights) where
  -- a candidate was there, or is what two are together
  abbrev IsFrom : ℕ → List Candidate → Candidate → Type 0
  IsFrom outer old x = Contains old x ⊎ Any (λ (right : Candidate). IsJoinBelow rights.limit outer left right x) rights.candidates.now

  pub grown_none : (list : Listed) → HasGrownBy left rights list list
  grown_none list = record {
    outer = refl;
    others = λ r n found. found;
    later = λ pairs. pairs;
    origin = All-weaker (Contains list.candidates) (IsFrom list.outer list.candidates) (λ x inn. inl inn) list.candidates (All-contains_itself list.candidates);
  }

  pub grown_further : (start old new : Listed) → HasGrownBy left rights start old → HasGrownBy left rights old new → HasGrownBy left rights start new
  grown_further start old new first second =
      let one : Grows start old = record { outer = first.outer; others = first.others; later = first.later } in
      let other : Grows old new = record { outer = second.outer; others = second.others; later = second.later } in
      let both = grows_further start old new one other in
      record {
        outer = both.outer;
        others = both.others;
        later = both.later;
        origin = from_earlier (IsFrom start.outer start.candidates) (λ (x : Candidate). Any (λ (right : Candidate). IsJoinBelow rights.limit start.outer left right x) rights.candidates.now) old.candidates new.candidates
            (subst (λ o. All (IsFrom o old.candidates) new.candidates) first.outer second.origin) (λ x join. inr join) first.origin;
      }

  -- by what one of the others adds
  pub grown_by_one : (old new : Listed) (k : ℕ) (right : Candidate) → k < length rights.candidates.now → right ≡ get_or rights.candidates.now k right → new.outer ≡ old.outer → StandForAll old.outer old.candidates new.candidates
      → (AllPairs (LeavesOpen old.outer) old.candidates → AllPairs (LeavesOpen old.outer) new.candidates)
      → All (λ (x : Candidate). Contains old.candidates x ⊎ IsJoinBelow rights.limit old.outer left right x) new.candidates → HasGrownBy left rights old new
  grown_by_one old new k right low is outer others later origin = record {
    outer = outer;
    others = others;
    later = later;
    origin = All-weaker (λ (x : Candidate). Contains old.candidates x ⊎ IsJoinBelow rights.limit old.outer left right x) (IsFrom old.outer old.candidates)
        (λ x h. elim h [ inl there ↦ inl there | inr join ↦ inr (k, right, low, sym is, join) ]) new.candidates origin;
  }
