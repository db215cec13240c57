-- The members of a set, in order.
use Rattle.std.proofs.Common.{◌≡◌, ℕ, zero, suc, ◌+◌, ◌<◌, Bool, true, false, cond, IsTrue, ◌↔◌, List, [], ◌∷◌, filter, get_or, Contains, inl, inr, refl, sym, ap, ◌∙◌, subst, arith, All}
use Rattle.std.specs.List.{range_with_len}
use Rattle.std.specs.List.Sorted.{IsStrictlyIncreasing}
use Rattle.std.proofs.lemmas.Bool.{cases_Bool}
use Rattle.std.proofs.lemmas.List.{get_or_default}
use Rattle.std.proofs.lemmas.List.Elements.{filter_passes, All-contains}
use Rattle.std.proofs.lemmas.List.FromFn.{get_or-range_with_len, length-range_with_len}
use Rattle.std.proofs.lemmas.List.Kept.{IsStrictlyIncreasing-filter}
use Rattle.tce_space.specs.IndexSet.{IsIndexSet, has, members, set_of}
use Rattle.tce_space.specs.Laws.{SetsAreTheirMembers}
use Rattle.tce_space.proofs.IndexSetLaws.{same_set, has_below, set_of_lt, has-set_of}

-- what passes the test is kept
Contains-filter : (p : ℕ → Bool) (xs : List ℕ) (x : ℕ) → Contains xs x → p x ≡ true → Contains (filter p xs) x
Contains-filter p [] x (k, l, e) t = absurd (omega arith)
Contains-filter p (y ∷ ys) x (zero, l, e) t =
    let first : p y ≡ true = ap p e ∙ t in
    subst (λ (b : Bool). Contains (cond b (y ∷ filter p ys) (filter p ys)) x) (sym first) (0, omega arith, e)
Contains-filter p (y ∷ ys) x (suc k, l, e) t =
    let (j, m, f) = Contains-filter p ys x (k, omega arith, e) t in
    elim (cases_Bool (p y)) [
      | inl kept ↦ subst (λ (b : Bool). Contains (cond b (y ∷ filter p ys) (filter p ys)) x) (sym kept) (suc j, omega (arith, m), f)
      | inr left ↦ subst (λ (b : Bool). Contains (cond b (y ∷ filter p ys) (filter p ys)) x) (sym left) (j, m, f)
    ]

same_test : (a b : Bool) → IsTrue a ↔ IsTrue b → a ≡ b
same_test true b h = sym (h.0 refl)
same_test false true h = h.1 refl
same_test false false h = refl

listed : (a i : ℕ) → IsIndexSet a → Contains (members a) i ↔ IsTrue (has a i)
unfolding members
listed a i is = (
  (λ c. All-contains (λ x. has a x ≡ true) (filter (has a) (range_with_len 0 24)) i (filter_passes (has a) (range_with_len 0 24)) c),
  (λ t.
      let small : i < 24 = has_below a i is t in
      let at : get_or (range_with_len 0 24) i i ≡ i = get_or-range_with_len 0 24 i i small ∙ omega arith in
      Contains-filter (has a) (range_with_len 0 24) i (i, omega (arith, small, length-range_with_len 0 24), at) t),
)

ascend : (a : ℕ) → IsStrictlyIncreasing (members a)
unfolding members
ascend a =
    IsStrictlyIncreasing-filter (has a) (range_with_len 0 24) (λ k h.
    let here : get_or (range_with_len 0 24) k 0 ≡ 0 + k = get_or-range_with_len 0 24 k 0 (omega (arith, h, length-range_with_len 0 24)) in
    let next : get_or (range_with_len 0 24) (k + 1) 0 ≡ 0 + (k + 1) = get_or-range_with_len 0 24 (k + 1) 0 (omega (arith, h, length-range_with_len 0 24)) in
    omega (arith, here, next))

pub sets_are_their_members : SetsAreTheirMembers
sets_are_their_members = record {
  same = λ a b p q h. same_set a b p q (λ i l. same_test (has a i) (has b i) (h i));
  listed = listed;
  ascend = ascend;
}

-- the list of a set's members has that set
pub set_of_members : (set : ℕ) → IsIndexSet set → set_of (members set) ≡ set
set_of_members set is =
    sets_are_their_members.same (set_of (members set)) set (set_of_lt (members set)) is
    (λ i. (
      (λ h. (sets_are_their_members.listed set i is).0 ((has-set_of (members set) i (low set is)).0 h)),
      (λ h. (has-set_of (members set) i (low set is)).1 ((sets_are_their_members.listed set i is).1 h)),
    ))
  where
    low : (set : ℕ) → IsIndexSet set → All (λ x. x < 24) (members set)
    low set is k d l = has_below set (get_or (members set) k d) is ((sets_are_their_members.listed set (get_or (members set) k d) is).0 (k, l, get_or_default (members set) k (get_or (members set) k d) d l))
