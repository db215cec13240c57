-- Lists of candidates that grow, step by step.
use Rattle.std.proofs.Common.{◌≡◌, ℕ, ◌∙◌, refl, sym, subst}
use Rattle.std.specs.List.{AllPairs, Any}
use Rattle.tce_fusion.specs.Relation.{Relation}
use Rattle.tce_search.specs.Candidates.{Stands, StandForAll}
use Rattle.tce_search.specs.Groups.{Listed, LeavesOpen}
use Rattle.tce_search.specs.Joins.{Grows}

pub grows_none : (list : Listed) → Grows list list
grows_none list = record { outer = refl; others = λ r n found. found; later = λ pairs. pairs }

pub grows_from : (start old new : Listed) → old.outer ≡ start.outer → Grows old new → StandForAll start.outer old.candidates new.candidates
grows_from start old new same grows = subst (λ o. StandForAll o old.candidates new.candidates) same grows.others

pub grows_further : (start old new : Listed) → Grows start old → Grows old new → Grows start new
grows_further start old new first second = record {
  outer = second.outer ∙ first.outer;
  others = λ r n found. grows_from start old new first.outer second r n (first.others r n found);
  later = λ pairs. subst (λ o. AllPairs (LeavesOpen o) old.candidates → AllPairs (LeavesOpen o) new.candidates) first.outer second.later (first.later pairs);
}

pub stands_later : (relation : Relation) (limit : ℕ) (old new : Listed) → Grows old new → Any (Stands old.outer relation limit) old.candidates → Any (Stands new.outer relation limit) new.candidates
stands_later relation limit old new grows found =
    subst (λ o. Any (Stands o relation limit) new.candidates) (sym grows.outer) (grows.others relation limit found)
