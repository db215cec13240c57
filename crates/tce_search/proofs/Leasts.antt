-- The least fusion so far, where one more pair of candidates is looked at.
use Rattle.std.proofs.Common.{◌≡◌, ◌⊎◌, ℕ, ◌+◌, ◌<◌, ◌≤◌, Option, Some, None, List, length, get_or, inl, inr, sym, subst}
use Rattle.std.specs.Prelude.{IfSome}
use Rattle.std.specs.List.{All, AllWithin, Contains}
use Rattle.std.proofs.lemmas.List.Elements.{All-from_all_within, AllWithin-more, AllWithin-upto, at_read}
use Rattle.tce_search.specs.declared.candidate.Candidate.{Candidate}
use Rattle.tce_search.specs.Candidates.{LeavesRoom, HaveRoom}
use Rattle.tce_search.specs.Root.{IsMadeOf, IsMadeOfSome, IsAtMost, IsBound}
use Rattle.tce_search.specs.declared.root.WholeFusion.{WholeFusion}

pub holds_read : (P : Candidate → Type 0) (xs : List Candidate) (k : ℕ) (x : Candidate) → All P xs → k < length xs → x ≡ get_or xs k x → P x
holds_read P xs k x all low is = subst P (sym is) (all k x low)

pub room_read : (lefts rights : List Candidate) (i j : ℕ) (left right : Candidate) → HaveRoom lefts rights → i < length lefts → left ≡ get_or lefts i left
    → j < length rights → right ≡ get_or rights j right → LeavesRoom left right
room_read lefts rights i j left right room low is inner at =
    holds_read (LeavesRoom left) rights j right (holds_read (λ (x : Candidate). All (LeavesRoom x) rights) lefts i left room low is) inner at

-- what is a bound stays one, where the least fusion takes no more than before
module _ (loops : ℕ) (old new : Option WholeFusion) (kept : (limit : ℕ) → IsAtMost old limit → IsAtMost new limit) where
  bound_kept : (left right : Candidate) → IsBound loops old left right → IsBound loops new left right
  bound_kept left right bound quiet = kept (left.row.cost + right.row.cost) (bound quiet)

  pub within_kept : (left : Candidate) (rights : List Candidate) (k : ℕ) → AllWithin (IsBound loops old left) rights 0 k → AllWithin (IsBound loops new left) rights 0 k
  within_kept left rights k before j d from low = bound_kept left (get_or rights j d) (before j d from low)

  pub earlier_kept : (lefts rights : List Candidate) (k : ℕ) → AllWithin (λ left. All (IsBound loops old left) rights) lefts 0 k
      → AllWithin (λ left. All (IsBound loops new left) rights) lefts 0 k
  earlier_kept lefts rights k before j d from low i e inside = bound_kept (get_or lefts j d) (get_or rights i e) (before j d from low i e inside)

-- what two more candidates make is made of some two
pub made_further : (loops : ℕ) (old new : Option WholeFusion) (lefts rights : List Candidate) (left right : Candidate) → Contains lefts left → Contains rights right
    → IfSome new (λ whole. (old ≡ Some whole) ⊎ IsMadeOf loops left right whole) → IfSome old (IsMadeOfSome loops lefts rights) → IfSome new (IsMadeOfSome loops lefts rights)
made_further loops old None lefts rights left right from_left from_right made before = tt
made_further loops old (Some whole) lefts rights left right from_left from_right made before = elim made [
  | inl same ↦ subst (λ o. IfSome o (IsMadeOfSome loops lefts rights)) same before
  | inr now ↦ record { left = left; right = right; from_left = from_left; from_right = from_right; made = now }
]

pub all_passed : (P : Candidate → Type 0) (xs : List Candidate) (k : ℕ) → length xs ≤ k → AllWithin P xs 0 k → All P xs
all_passed P xs k end before = All-from_all_within P xs (AllWithin-upto P xs 0 k (length xs) end before)

pub one_more_read : (P : Candidate → Type 0) (xs : List Candidate) (k : ℕ) (x : Candidate) → k < length xs → x ≡ get_or xs k x → AllWithin P xs 0 k → P x → AllWithin P xs 0 (k + 1)
one_more_read P xs k x low is before here = AllWithin-more P xs 0 k before (at_read xs P k x low is here)
