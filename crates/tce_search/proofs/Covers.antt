-- What stays covered while a table of candidates grows, and where its candidates come from.
use Rattle.std.proofs.Common.{◌≡◌, ℕ, ◌+◌, ◌<◌, ◌⊎◌, inl, inr, sym, subst, List, length, get_or}
use Rattle.std.specs.List.{All, AllWithin, Contains}
use Rattle.std.proofs.lemmas.List.Elements.{All-weaker, All-contains}
use Rattle.tce_fusion.specs.Relation.{above}
use Rattle.tce_fusion.specs.Row.{Row}
use Rattle.tce_nesting.specs.Classes.{restricted}
use Rattle.tce_nesting.specs.declared.choice.Choice.{Choice}
use Rattle.tce_search.specs.declared.candidate.Candidate.{Candidate}
use Rattle.tce_search.specs.Candidates.{StandForAll, ChoiceCovered, PairCovered}

pub choice_later : (outer : ℕ) (joined : Row) (old new : List Candidate) (choice : Choice) → StandForAll outer old new → ChoiceCovered outer joined old choice → ChoiceCovered outer joined new choice
choice_later outer joined old new choice later covered allowed = later (above (restricted joined.classes choice.fused)) (joined.cost + choice.size) (covered allowed)

pub choices_later : (outer : ℕ) (joined : Row) (old new : List Candidate) (choices : List Choice) (k : ℕ) → StandForAll outer old new
    → AllWithin (ChoiceCovered outer joined old) choices 0 k → AllWithin (ChoiceCovered outer joined new) choices 0 k
choices_later outer joined old new choices k later covered i d low high = choice_later outer joined old new (get_or choices i d) later (covered i d low high)

-- a pair that is covered stays so where the candidates stand for as much
pub pair_later : (loops outer : ℕ) (choices : List Choice) (old new : List Candidate) (left right : Candidate) → StandForAll outer old new
    → PairCovered loops outer choices old left right → PairCovered loops outer choices new left right
pair_later loops outer choices old new left right later covered quiet =
    let here = covered quiet in
    record { joined = here.joined; joins = here.joins; each = All-weaker (ChoiceCovered outer here.joined old) (ChoiceCovered outer here.joined new) (λ choice h. choice_later outer here.joined old new choice later h) choices here.each }

-- so do all pairs
pub pairs_later : (loops outer : ℕ) (choices : List Choice) (old new lefts rights : List Candidate) → StandForAll outer old new
    → All (λ left. All (PairCovered loops outer choices old left) rights) lefts → All (λ left. All (PairCovered loops outer choices new left) rights) lefts
pairs_later loops outer choices old new lefts rights later covered =
    All-weaker (λ left. All (PairCovered loops outer choices old left) rights) (λ left. All (PairCovered loops outer choices new left) rights)
    (λ left all. All-weaker (PairCovered loops outer choices old left) (PairCovered loops outer choices new left) (λ right h. pair_later loops outer choices old new left right later h) rights all) lefts covered

-- each candidate was there, or has the one property or the other; and those that were there have the latter
pub from_earlier : (P Q : Candidate → Type 0) (mid new : List Candidate) → All (λ x. Contains mid x ⊎ Q x) new → ((x : Candidate) → Q x → P x) → All P mid → All P new
from_earlier P Q mid new origin turns earlier =
    All-weaker (λ x. Contains mid x ⊎ Q x) P (λ x h. elim h [ inl there ↦ All-contains P mid x earlier there | inr new_one ↦ turns x new_one ]) new origin

-- an element that was read is one of the list
pub read_contains : {X : Type 0} (xs : List X) (k : ℕ) (x : X) → k < length xs → x ≡ get_or xs k x → Contains xs x
read_contains xs k x low is = (k, low, sym is)

-- what all elements have, at one that was read
pub item_of : {X : Type 0} (P : X → Type 0) (xs : List X) (k : ℕ) (x : X) → k < length xs → x ≡ get_or xs k x → All P xs → P x
item_of P xs k x low is all = subst P (sym is) (all k x low)
