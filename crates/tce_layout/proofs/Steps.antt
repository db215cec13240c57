-- Row-major steps over the members of a set.
use Rattle.std.proofs.Common.{◌≡◌, ℕ, zero, suc, ◌+◌, ◌-◌, ◌*◌, ◌<◌, ◌≤◌, true, false, List, ◌∷◌, map, filter, length, slice_set, sum_by, refl, sym, ap, ap₂, ◌∙◌, subst, inl, inr, arith, le_trans, mul_comm, length-set, get_or-set_same, get_or-set_other}
use Rattle.std.specs.List.{range_with_len}
use Rattle.std.specs.Prelude.{slice_index}
use Rattle.std.proofs.lemmas.Bool.{cases_Bool, cases_eq}
use Rattle.std.proofs.lemmas.List.Sums.{sum_by-cons}
use Rattle.tce_space.specs.Box.{product, place}
use Rattle.tce_space.specs.IndexSet.{has, members, volume}
use Rattle.tce_space.specs.Space.{IndexSpace, extent_at, volume_of}
use Rattle.tce_space.proofs.Products.{le_times, fold-product}
use Rattle.tce_layout.specs.Layout.{members_from, step_of}
use Rattle.tce_layout.specs.Places.{steps_to}

-- one member more in front, or none
pub from_yes : (set k : ℕ) → k < 24 → has set k ≡ true → members_from set k ≡ k ∷ members_from set (k + 1)
from_yes set k l h = ap (λ n. filter (has set) (range_with_len k n)) next ∙ (rw h refl)
  where
    next : 24 - k ≡ suc (24 - (k + 1))
    next = omega arith

pub from_no : (set k : ℕ) → k < 24 → has set k ≡ false → members_from set k ≡ members_from set (k + 1)
from_no set k l h = ap (λ n. filter (has set) (range_with_len k n)) next ∙ (rw h refl)
  where
    next : 24 - k ≡ suc (24 - (k + 1))
    next = omega arith

-- how many places there are over the members from `k` on
abbrev pub size_from : (ℕ → ℕ) → ℕ → ℕ → ℕ
size_from extent set k = product (map extent (members_from set k))

pub size_yes : (extent : ℕ → ℕ) (set k : ℕ) → k < 24 → has set k ≡ true → size_from extent set k ≡ extent k * size_from extent set (k + 1)
size_yes extent set k l h = ap (λ is. product (map extent is)) (from_yes set k l h)

pub size_no : (extent : ℕ → ℕ) (set k : ℕ) → k < 24 → has set k ≡ false → size_from extent set k ≡ size_from extent set (k + 1)
size_no extent set k l h = ap (λ is. product (map extent is)) (from_no set k l h)

pub size-all : (extent : ℕ → ℕ) (set : ℕ) → size_from extent set 0 ≡ volume extent set
unfolding volume members
size-all extent set = sym (fold-product extent (members_from set 0) 1 ∙ one (size_from extent set 0))
  where
    one : (n : ℕ) → 1 * n ≡ n
    one n = omega arith

-- the sizes grow to that of the whole
pub size_within : (extent : ℕ → ℕ) (set k : ℕ) → ((i : ℕ) → has set i ≡ true → 0 < extent i) → k ≤ 24 → size_from extent set k ≤ volume extent set
size_within extent set zero some l = omega (arith, size-all extent set)
size_within extent set (suc k) some l =
    elim (cases_Bool (has set k)) [
      | inl t ↦
          le_trans (subst (λ n. size_from extent set n ≤ size_from extent set k) (add-one' k)
          (subst (λ n. size_from extent set (k + 1) ≤ n) (sym (size_yes extent set k l t)) (le_times (extent k) (size_from extent set (k + 1)) (some k t))))
          (size_within extent set k some (omega arith))
      | inr t ↦
          let same : size_from extent set (suc k) ≡ size_from extent set k = ap (size_from extent set) (sym (add-one' k)) ∙ sym (size_no extent set k l t) in
          omega (arith, same, size_within extent set k some (omega arith))
    ]
  where
    add-one' : (n : ℕ) → n + 1 ≡ suc n
    add-one' n = omega arith

-- the place at the numbers of the members from `k` on
abbrev place_from : (ℕ → ℕ) → (ℕ → ℕ) → List ℕ → ℕ
place_from extent numbers is = place (map extent is) (map numbers is)

steps_from : (space : IndexSpace) (set : ℕ) (numbers : ℕ → ℕ) (steps : List ℕ) → ((i : ℕ) → i < 24 → slice_index steps i ≡ step_of space set i) → (n k : ℕ) → k + n ≡ 24
    → sum_by (λ i. slice_index steps i * numbers i) (range_with_len k n) ≡ place_from (extent_at space) numbers (filter (has set) (range_with_len k n))
unfolding step_of
steps_from space set numbers steps f zero k e = refl
steps_from space set numbers steps f (suc n) k e =
    let rest : 24 - (k + 1) ≡ n = omega arith in
    let step = f k (omega arith) in
    elim (cases_Bool (has set k)) [
      | inl t ↦ rw t
          (sum_by-cons (λ i. slice_index steps i * numbers i) k (range_with_len (k + 1) n)
          ∙ ap₂ (λ x y. x + y)
          (ap (λ s. s * numbers k) (step ∙ (rw t refl)) ∙ mul_comm (product (map (extent_at space) (members_from set (k + 1)))) (numbers k)
          ∙ ap (λ m. numbers k * product (map (extent_at space) (filter (has set) (range_with_len (k + 1) m)))) rest)
          (steps_from space set numbers steps f n (k + 1) (omega arith)))
      | inr t ↦ rw t
          (sum_by-cons (λ i. slice_index steps i * numbers i) k (range_with_len (k + 1) n)
          ∙ nothing (slice_index steps k) (numbers k) (sum_by (λ i. slice_index steps i * numbers i) (range_with_len (k + 1) n)) (step ∙ (rw t refl))
          ∙ steps_from space set numbers steps f n (k + 1) (omega arith))
    ]
  where
    nothing : (s x y : ℕ) → s ≡ 0 → s * x + y ≡ y
    nothing s x y e = ap (λ z. z * x + y) e ∙ omega arith

-- the steps lead to the row-major place
pub steps-place : (space : IndexSpace) (set : ℕ) (numbers : ℕ → ℕ) (steps : List ℕ) → ((i : ℕ) → i < 24 → slice_index steps i ≡ step_of space set i)
    → steps_to steps numbers ≡ place (map (extent_at space) (members set)) (map numbers (members set))
unfolding steps_to members
steps-place space set numbers steps f = steps_from space set numbers steps f 24 0 refl

pub members-size : (space : IndexSpace) (set : ℕ) → product (map (extent_at space) (members set)) ≡ volume_of space set
unfolding members
members-size space set = size-all (extent_at space) set

-- the steps that stand are those of the members from `k` on, and the others are 0 so far
pub record StepsFrom (space : IndexSpace) (set k : ℕ) (steps : List ℕ) : Type 0 where
  pub indexes : length steps ≡ 24
  pub done : (i : ℕ) → k ≤ i → i < 24 → slice_index steps i ≡ step_of space set i
  pub left : (i : ℕ) → i < k → slice_index steps i ≡ 0

pub steps_yes : (space : IndexSpace) (set k size : ℕ) (steps : List ℕ) → k < 24 → has set k ≡ true → size ≡ size_from (extent_at space) set (k + 1)
    → StepsFrom space set (k + 1) steps → StepsFrom space set k (slice_set steps k size)
unfolding step_of
steps_yes space set k size steps l t e from = record {
  indexes = length-set steps k size ∙ from.indexes;
  done = λ i a b. elim (cases_eq i k) [
    | inl q ↦ rw q (get_or-set_same steps k size 0 (omega (arith, from.indexes)) ∙ e ∙ (rw t refl))
    | inr q ↦ get_or-set_other steps k i size 0 q ∙ from.done i (omega arith) b
  ];
  left = λ i a. get_or-set_other steps k i size 0 (λ r. omega arith) ∙ from.left i (omega arith);
}

pub steps_no : (space : IndexSpace) (set k : ℕ) (steps : List ℕ) → has set k ≡ false → StepsFrom space set (k + 1) steps → StepsFrom space set k steps
unfolding step_of
steps_no space set k steps t from = record {
  indexes = from.indexes;
  done = λ i a b. elim (cases_eq i k) [
    | inl q ↦ rw q (from.left k (omega arith) ∙ (rw t refl))
    | inr q ↦ from.done i (omega arith) b
  ];
  left = λ i a. from.left i (omega arith);
}

-- one turn of the loop that goes down from 24 to 0
pub size_turn : (extent : ℕ → ℕ) (set i size x : ℕ) → 0 < i → i ≤ 24 → has set (i - 1) ≡ true → x ≡ extent (i - 1) → size ≡ size_from extent set i
    → size * x ≡ size_from extent set (i - 1)
size_turn extent set i size x some l t e s =
    mul_comm size x ∙ ap₂ (λ a b. a * b) e (s ∙ ap (size_from extent set) (sym back)) ∙ sym (size_yes extent set (i - 1) (omega arith) t)
  where
    back : i - 1 + 1 ≡ i
    back = omega arith

pub size_kept : (extent : ℕ → ℕ) (set i size : ℕ) → 0 < i → i ≤ 24 → has set (i - 1) ≡ false → size ≡ size_from extent set i → size ≡ size_from extent set (i - 1)
size_kept extent set i size some l t s = s ∙ ap (size_from extent set) (sym back) ∙ sym (size_no extent set (i - 1) (omega arith) t)
  where
    back : i - 1 + 1 ≡ i
    back = omega arith

pub steps_turn : (space : IndexSpace) (set i size : ℕ) (steps : List ℕ) → 0 < i → i ≤ 24 → has set (i - 1) ≡ true → size ≡ size_from (extent_at space) set i
    → StepsFrom space set i steps → StepsFrom space set (i - 1) (slice_set steps (i - 1) size)
steps_turn space set i size steps some l t s from =
    steps_yes space set (i - 1) size steps (omega arith) t (s ∙ ap (size_from (extent_at space) set) (sym back)) (subst (λ k. StepsFrom space set k steps) (sym back) from)
  where
    back : i - 1 + 1 ≡ i
    back = omega arith

pub steps_kept : (space : IndexSpace) (set i : ℕ) (steps : List ℕ) → 0 < i → has set (i - 1) ≡ false → StepsFrom space set i steps → StepsFrom space set (i - 1) steps
steps_kept space set i steps some t from = steps_no space set (i - 1) steps t (subst (λ k. StepsFrom space set k steps) (sym back) from)
  where
    back : i - 1 + 1 ≡ i
    back = omega arith
