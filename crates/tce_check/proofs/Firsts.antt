-- First places where something fails, as loops find them, and that there is one at most.
use Rattle.std.proofs.Common.{◌≡◌, ℕ, zero, suc, ◌+◌, ◌-◌, ◌<◌, ◌≤◌, false, List, [], ◌∷◌, ◌++◌, length, get_or, inl, inr, subst, arith, All}
use Rattle.std.specs.List.{AllWithin}
use Rattle.std.specs.Prelude.{IsTrue}
use Rattle.std.proofs.lemmas.Bool.{cases_order, false≢true}
use Rattle.std.proofs.lemmas.List.Elements.{All-head, All-tail, All-from_all_within, AllWithin-upto, AllWithin-more, at_read}
use Rattle.tce_check.specs.First.{IsFirst, First, FirstPair}

-- the element that a loop reads, where those before it hold
pub first_at : {X : Type 0} (Holds Fails : X → Type 0) (xs : List X) (k : ℕ) (x : X) → k < length xs → x ≡ get_or xs k x → AllWithin Holds xs 0 k → Fails x
    → First Holds Fails xs
first_at Holds Fails [] k x low is before bad = absurd (omega arith)
first_at Holds Fails (y ∷ ys) zero x low is before bad = inl (subst Fails is bad)
first_at Holds Fails (y ∷ ys) (suc k) x low is before bad =
    inr (before 0 y (omega arith) (omega arith), first_at Holds Fails ys k x (omega arith) is (λ m d from to. before (suc m) d (omega arith) (omega arith)) bad)

-- what holds of each element that a loop has read, at its end and after one more
pub all_read : {X : Type 0} (Holds : X → Type 0) (xs : List X) (k : ℕ) → length xs ≡ k → AllWithin Holds xs 0 k → All Holds xs
all_read Holds xs k end before = All-from_all_within Holds xs (AllWithin-upto Holds xs 0 k (length xs) (omega arith) before)

pub one_more : {X : Type 0} (Holds : X → Type 0) (xs : List X) (k : ℕ) (x : X) → k < length xs → x ≡ get_or xs k x → AllWithin Holds xs 0 k → Holds x
    → AllWithin Holds xs 0 (k + 1)
one_more Holds xs k x low is before here = AllWithin-more Holds xs 0 k before (at_read xs Holds k x low is here)

pub all_passed : {X : Type 0} (Holds : X → Type 0) (xs : List X) (k : ℕ) → length xs ≤ k → AllWithin Holds xs 0 k → All Holds xs
all_passed Holds xs k end before = All-from_all_within Holds xs (AllWithin-upto Holds xs 0 k (length xs) end before)

-- fewer are left behind a later place
pub fewer_left : (count place next : ℕ) → place < next → next ≤ count → count - next < count - place
fewer_left count place next later inside = omega (arith, later, inside)

pub one_less : (count place : ℕ) → place < count → count - (place + 1) < count - place
one_less count place inside = omega (arith, inside)

-- what is not told needs nothing
pub untold : {P : Type 0} → IsTrue false → P
untold told = absurd (false≢true told)

-- no element fails where all hold
pub first_not_all : {X : Type 0} (Holds Fails : X → Type 0) → ((x : X) → Holds x → Fails x → ⊥) → (xs : List X) → First Holds Fails xs → All Holds xs → ⊥
first_not_all Holds Fails apart [] none all = none
first_not_all Holds Fails apart (x ∷ xs) (inl bad) all = apart x (All-head Holds x xs all) bad
first_not_all Holds Fails apart (x ∷ xs) (inr (good, rest)) all = first_not_all Holds Fails apart xs rest (All-tail Holds x xs all)

-- two first elements are one
pub first_meets : {X R : Type 0} (Holds Fails Breaks : X → Type 0) → ((x : X) → Holds x → Fails x → ⊥) → ((x : X) → Holds x → Breaks x → ⊥)
    → ((x : X) → Fails x → Breaks x → R) → (xs : List X) → First Holds Fails xs → First Holds Breaks xs → R
first_meets Holds Fails Breaks p q both [] none other = absurd none
first_meets Holds Fails Breaks p q both (x ∷ xs) (inl bad) (inl broken) = both x bad broken
first_meets Holds Fails Breaks p q both (x ∷ xs) (inl bad) (inr (good, rest)) = absurd (p x good bad)
first_meets Holds Fails Breaks p q both (x ∷ xs) (inr (good, rest)) (inl broken) = absurd (q x good broken)
first_meets Holds Fails Breaks p q both (x ∷ xs) (inr (good, rest)) (inr (fine, more)) = first_meets Holds Fails Breaks p q both xs rest more

pub pair_not_all : {X : Type 0} (Holds Fails : X → X → Type 0) → ((x y : X) → Holds x y → Fails x y → ⊥) → (lefts rights : List X) → FirstPair Holds Fails lefts rights
    → All (λ left. All (Holds left) rights) lefts → ⊥
pair_not_all {X} Holds Fails apart lefts rights =
    first_not_all (λ (left : X). All (Holds left) rights) (λ (left : X). First (Holds left) (Fails left) rights)
    (λ x all bad. first_not_all (Holds x) (Fails x) (apart x) rights bad all) lefts

pub pair_meets : {X R : Type 0} (Holds Fails Breaks : X → X → Type 0) → ((x y : X) → Holds x y → Fails x y → ⊥) → ((x y : X) → Holds x y → Breaks x y → ⊥)
    → ((x y : X) → Fails x y → Breaks x y → R) → (lefts rights : List X) → FirstPair Holds Fails lefts rights → FirstPair Holds Breaks lefts rights → R
pair_meets {X} Holds Fails Breaks p q both lefts rights =
    first_meets (λ (left : X). All (Holds left) rights) (λ (left : X). First (Holds left) (Fails left) rights) (λ (left : X). First (Holds left) (Breaks left) rights)
    (λ x all bad. first_not_all (Holds x) (Fails x) (p x) rights bad all)
    (λ x all bad. first_not_all (Holds x) (Breaks x) (q x) rights bad all)
    (λ x bad broken. first_meets (Holds x) (Fails x) (Breaks x) (p x) (q x) (both x) rights bad broken) lefts

pub number_meets : (count : ℕ) (Holds Fails Breaks : ℕ → Type 0) → ((v : ℕ) → Holds v → Fails v → ⊥) → ((v : ℕ) → Holds v → Breaks v → ⊥)
    → (v w : ℕ) → IsFirst count Holds Fails v → IsFirst count Holds Breaks w → v ≡ w
number_meets count Holds Fails Breaks p q v w first other = elim (cases_order v w) [
  | inl same ↦ same
  | inr (inl below) ↦ absurd (p v (other.earlier v below) first.fails)
  | inr (inr above) ↦ absurd (q w (first.earlier w above) other.fails)
]

-- of two lists, one behind the other
pub first_front : {X : Type 0} (Holds Fails : X → Type 0) (xs ys : List X) → First Holds Fails xs → First Holds Fails (xs ++ ys)
first_front Holds Fails [] ys none = absurd none
first_front Holds Fails (x ∷ xs) ys (inl bad) = inl bad
first_front Holds Fails (x ∷ xs) ys (inr (good, rest)) = inr (good, first_front Holds Fails xs ys rest)

pub first_back : {X : Type 0} (Holds Fails : X → Type 0) (xs ys : List X) → All Holds xs → First Holds Fails ys → First Holds Fails (xs ++ ys)
first_back Holds Fails [] ys all first = first
first_back Holds Fails (x ∷ xs) ys all first = inr (All-head Holds x xs all, first_back Holds Fails xs ys (All-tail Holds x xs all) first)
