-- Steps along the classes of a nesting.
use Rattle.std.proofs.Common.{◌≡◌, ℕ, suc, ◌+◌, ◌<◌, Bool, true, false, not, ◌&&◌, ◌||◌, ◌⊎◌, ◌↔◌, inl, inr, refl, arith, ◌∙◌, sym, ap, subst, List, [], ◌∷◌, ◌++◌, length, get_or, drop}
use Rattle.std.specs.Prelude.{IsTrue}
use Rattle.std.proofs.Math.Seq.{drop-cons}
use Rattle.std.proofs.lemmas.Bool.{cases_Bool, false≢true, both_ways, or_cases, or_parts, or_from, or_left, or_right, and_parts, and_from, not-true, not_from_false}
use Rattle.tce_space.specs.IndexSet.{IsIndexSet, has}
use Rattle.tce_fusion.specs.Relation.{Relation, above, IsCoarser}
use Rattle.tce_fusion.specs.StateClasses.{in_class, IsNesting, IsInhabited}
use Rattle.tce_nesting.specs.Classes.{AllAbove}

-- what is above, at the first class
pub above-cons : (c : ℕ) (cs : List ℕ) (i j : ℕ) → IsTrue (above (c ∷ cs) i j) → (has c j ≡ false) × ((IsTrue (has c i)) ⊎ IsTrue (above cs i j))
above-cons c cs i j h =
    let parts = and_parts (not (has c j)) (has c i || above cs i j) h in
    (not-true (has c j) parts.0, or_cases (has c i) (above cs i j) parts.1)

pub above-first : (c : ℕ) (cs : List ℕ) (i j : ℕ) → has c j ≡ false → IsTrue (has c i) → IsTrue (above (c ∷ cs) i j)
above-first c cs i j out inn = and_from (not (has c j)) (has c i || above cs i j) (not_from_false (has c j) out) (or_left (has c i) (above cs i j) inn)

pub above-later : (c : ℕ) (cs : List ℕ) (i j : ℕ) → has c j ≡ false → IsTrue (above cs i j) → IsTrue (above (c ∷ cs) i j)
above-later c cs i j out rest = and_from (not (has c j)) (has c i || above cs i j) (not_from_false (has c j) out) (or_right (has c i) (above cs i j) rest)

false_left : (x y : Bool) → (x || y) ≡ false → x ≡ false
false_left x y h = (or_parts x y h).0

false_right : (x y : Bool) → (x || y) ≡ false → y ≡ false
false_right x y h = (or_parts x y h).1

-- ---- allowed

-- no index outside the fused set is above one inside that is not reached yet
abbrev pub AllowsBeyond : ℕ → ℕ → List ℕ → Type 0
AllowsBeyond fused reached cs = (i j : ℕ) → has fused i ≡ false → IsTrue (has fused j) → has reached j ≡ false → IsTrue (above cs i j) → ⊥

pub allows_further : (fused reached wider c : ℕ) (cs : List ℕ) → ((i : ℕ) → has wider i ≡ (has reached i || has c i)) → ((i : ℕ) → IsTrue (has c i) → IsTrue (has fused i)) → AllowsBeyond fused reached (c ∷ cs) ↔ AllowsBeyond fused wider cs
allows_further fused reached wider c cs union within = (λ h. forth h, λ h. back h)
  where
    forth : AllowsBeyond fused reached (c ∷ cs) → AllowsBeyond fused wider cs
    forth h i j out inn far x =
        let near : (has reached j || has c j) ≡ false = sym (union j) ∙ far in
        h i j out inn (false_left (has reached j) (has c j) near) (above-later c cs i j (false_right (has reached j) (has c j) near) x)

    back : AllowsBeyond fused wider cs → AllowsBeyond fused reached (c ∷ cs)
    back h i j out inn far x =
        let parts = above-cons c cs i j x in
        elim parts.1 [
          | inl here ↦ both_ways (has fused i) out (within i here)
          | inr later ↦ h i j out inn (union j ∙ or_from (has reached j) (has c j) far parts.0) later
        ]

pub allows_stop : (fused reached wider c : ℕ) (cs : List ℕ) → ((i : ℕ) → has wider i ≡ (has reached i || has c i)) → (((i : ℕ) → IsTrue (has c i) → IsTrue (has fused i)) → ⊥) → ((i : ℕ) → IsTrue (has fused i) → IsTrue (has wider i)) ↔ AllowsBeyond fused reached (c ∷ cs)
allows_stop fused reached wider c cs union beyond = (λ h. forth h, λ h. back h)
  where
    forth : ((i : ℕ) → IsTrue (has fused i) → IsTrue (has wider i)) → AllowsBeyond fused reached (c ∷ cs)
    forth h i j out inn far x =
        let parts = above-cons c cs i j x in
        both_ways (has wider j) (union j ∙ or_from (has reached j) (has c j) far parts.0) (h j inn)

    back : AllowsBeyond fused reached (c ∷ cs) → (i : ℕ) → IsTrue (has fused i) → IsTrue (has wider i)
    back h j inn = elim (cases_Bool (has wider j)) [
      | inl x ↦ x
      | inr far ↦
          let near : (has reached j || has c j) ≡ false = sym (union j) ∙ far in
          absurd (beyond (λ i ci. elim (cases_Bool (has fused i)) [
            | inl y ↦ y
            | inr out ↦ absurd (h i j out inn (false_left (has reached j) (has c j) near) (above-first c cs i j (false_right (has reached j) (has c j) near) ci))
          ]))
    ]

-- ---- all above

pub separates_further : (upper waiting lower c : ℕ) (cs : List ℕ) → ((i : ℕ) → has waiting i ≡ (has upper i && not (has c i))) → ((i : ℕ) → IsTrue (has lower i) → IsTrue (has c i) → ⊥) → AllAbove (above (c ∷ cs)) upper lower ↔ AllAbove (above cs) waiting lower
separates_further upper waiting lower c cs minus apart = (λ h. forth h, λ h. back h)
  where
    out : (j : ℕ) → IsTrue (has lower j) → has c j ≡ false
    out j lj = elim (cases_Bool (has c j)) [ inl x ↦ absurd (apart j lj x) | inr x ↦ x ]

    forth : AllAbove (above (c ∷ cs)) upper lower → AllAbove (above cs) waiting lower
    forth h i j wi lj =
        let inn = and_parts (has upper i) (not (has c i)) (sym (minus i) ∙ wi) in
        elim (above-cons c cs i j (h i j inn.0 lj)).1 [
          | inl here ↦ absurd (both_ways (has c i) (not-true (has c i) inn.1) here)
          | inr later ↦ later
        ]

    back : AllAbove (above cs) waiting lower → AllAbove (above (c ∷ cs)) upper lower
    back h i j ui lj = elim (cases_Bool (has c i)) [
      | inl here ↦ above-first c cs i j (out j lj) here
      | inr other ↦ above-later c cs i j (out j lj) (h i j (minus i ∙ and_from (has upper i) (not (has c i)) ui (not_from_false (has c i) other)) lj)
    ]

pub separates_stop : (upper lower c : ℕ) (cs : List ℕ) → (((i : ℕ) → IsTrue (has lower i) → IsTrue (has c i) → ⊥) → ⊥) → ((i : ℕ) → has upper i ≡ false) ↔ AllAbove (above (c ∷ cs)) upper lower
separates_stop upper lower c cs meets = (λ h i j ui lj. absurd (both_ways (has upper i) (h i) ui), λ h i. empty h i)
  where
    empty : AllAbove (above (c ∷ cs)) upper lower → (i : ℕ) → has upper i ≡ false
    empty h i = elim (cases_Bool (has upper i)) [
      | inl ui ↦ absurd (meets (λ j lj cj. both_ways (has c j) (above-cons c cs i j (h i j ui lj)).0 cj))
      | inr x ↦ x
    ]

pub separates_end : (upper lower : ℕ) (none_up none_low : Bool) → IsTrue none_up ↔ ((i : ℕ) → has upper i ≡ false) → IsTrue none_low ↔ ((i : ℕ) → has lower i ≡ false) → IsTrue (none_up || none_low) ↔ AllAbove (above []) upper lower
separates_end upper lower none_up none_low up low = (λ h. forth h, λ h. back h)
  where
    forth : IsTrue (none_up || none_low) → AllAbove (above []) upper lower
    forth h i j ui lj = elim (or_cases none_up none_low h) [
      | inl x ↦ absurd (both_ways (has upper i) (up.0 x i) ui)
      | inr x ↦ absurd (both_ways (has lower j) (low.0 x j) lj)
    ]

    back : AllAbove (above []) upper lower → IsTrue (none_up || none_low)
    back h = elim (cases_Bool none_up) [
      | inl x ↦ or_left none_up none_low x
      | inr some ↦ or_right none_up none_low (low.1 (λ j. elim (cases_Bool (has lower j)) [
        | inl lj ↦ absurd (both_ways none_up some (up.1 (λ i. elim (cases_Bool (has upper i)) [
          | inl ui ↦ absurd (false≢true (h i j ui lj))
          | inr y ↦ y
        ])))
        | inr y ↦ y
      ]))
    ]

-- ---- coarser

pub coarser_further : (below rest upper c : ℕ) (cs : List ℕ) (r : Relation) → ((i : ℕ) → has upper i ≡ (has c i && has below i)) → ((i : ℕ) → has rest i ≡ (has below i && not (has c i))) → IsCoarser below (above (c ∷ cs)) r ↔ (AllAbove r upper rest × IsCoarser rest (above cs) r)
coarser_further below rest upper c cs r meet minus = (λ h. (λ i j. first h i j, λ i j. second h i j), λ h. back h)
  where
    in_rest : (i : ℕ) → IsTrue (has rest i) → IsTrue (has below i) × (has c i ≡ false)
    in_rest i h = let parts = and_parts (has below i) (not (has c i)) (sym (minus i) ∙ h) in (parts.0, not-true (has c i) parts.1)

    first : IsCoarser below (above (c ∷ cs)) r → AllAbove r upper rest
    first h i j ui rj =
        let inn = and_parts (has c i) (has below i) (sym (meet i) ∙ ui) in
        let at_j = in_rest j rj in
        h i j inn.1 at_j.0 (above-first c cs i j at_j.1 inn.0)

    second : IsCoarser below (above (c ∷ cs)) r → IsCoarser rest (above cs) r
    second h i j ri rj x =
        let at_j = in_rest j rj in
        h i j (in_rest i ri).0 at_j.0 (above-later c cs i j at_j.1 x)

    back : AllAbove r upper rest × IsCoarser rest (above cs) r → IsCoarser below (above (c ∷ cs)) r
    back h i j bi bj x =
        let parts = above-cons c cs i j x in
        let rj : IsTrue (has rest j) = minus j ∙ and_from (has below j) (not (has c j)) bj (not_from_false (has c j) parts.0) in
        elim (cases_Bool (has c i)) [
          | inl ci ↦ h.0 i j (meet i ∙ and_from (has c i) (has below i) ci bi) rj
          | inr fi ↦ elim parts.1 [
            | inl ci ↦ absurd (both_ways (has c i) fi ci)
            | inr later ↦ h.1 i j (minus i ∙ and_from (has below i) (not (has c i)) bi (not_from_false (has c i) fi)) rj later
          ]
        ]

-- the same while the classes are gone through
module _ (loops below rest upper c : ℕ) (cs later : List ℕ) (all r : Relation) (meet : (i : ℕ) → has upper i ≡ (has c i && has below i))
    (minus : (i : ℕ) → has rest i ≡ (has below i && not (has c i))) (here : later ≡ c ∷ cs) (before : IsCoarser loops all r ↔ IsCoarser below (above later) r) where
  pub coarser_next : AllAbove r upper rest → IsCoarser loops all r ↔ IsCoarser rest (above cs) r
  coarser_next first =
      let step = coarser_further below rest upper c cs r meet minus in (
        λ h. (step.0 (subst (λ xs. IsCoarser below (above xs) r) here (before.0 h))).1,
        λ h. before.1 (subst (λ xs. IsCoarser below (above xs) r) (sym here) (step.1 (first, h))),
      )

  pub coarser_never : (AllAbove r upper rest → ⊥) → IsCoarser loops all r → ⊥
  coarser_never none h =
      let step = coarser_further below rest upper c cs r meet minus in
      none (step.0 (subst (λ xs. IsCoarser below (above xs) r) here (before.0 h))).0

pub coarser_end : (below : ℕ) (r : Relation) → IsCoarser below (above []) r
coarser_end below r i j bi bj x = absurd (false≢true x)

-- ---- steps of loops over the classes

pub drop-item : (cs : List ℕ) (k x : ℕ) → k < length cs → x ≡ get_or cs k x → drop k cs ≡ x ∷ drop (k + 1) cs
drop-item cs k x low is =
    let next : suc k ≡ k + 1 = omega arith in
    drop-cons cs k x low ∙ ap (λ y. y ∷ drop (suc k) cs) (sym is) ∙ ap (λ n. x ∷ drop n cs) next

pub iff_trans : {A B C : Type 0} → A ↔ B → B ↔ C → A ↔ C
iff_trans f g = (λ a. g.0 (f.0 a), λ c. f.1 (g.1 c))

pub iff_sym : {A B : Type 0} → A ↔ B → B ↔ A
iff_sym f = (f.1, f.0)

-- a common part that is not empty, and one that is
pub meets_from : (s t common : ℕ) (empty : Bool) → ((i : ℕ) → has common i ≡ (has s i && has t i)) → IsTrue empty ↔ ((i : ℕ) → has common i ≡ false) → empty ≡ false → ((i : ℕ) → IsTrue (has s i) → IsTrue (has t i) → ⊥) → ⊥
meets_from s t common empty meet says some apart =
    both_ways empty some (says.1 (λ i. elim (cases_Bool (has common i)) [
      | inl x ↦ let parts = and_parts (has s i) (has t i) (sym (meet i) ∙ x) in absurd (apart i parts.0 parts.1)
      | inr x ↦ x
    ]))

pub apart_from : (s t common : ℕ) (empty : Bool) → ((i : ℕ) → has common i ≡ (has s i && has t i)) → IsTrue empty ↔ ((i : ℕ) → has common i ≡ false) → IsTrue empty → (i : ℕ) → IsTrue (has s i) → IsTrue (has t i) → ⊥
apart_from s t common empty meet says none i si ti =
    both_ways (has common i) (says.0 none i) (meet i ∙ and_from (has s i) (has t i) si ti)

-- ---- one more class

pub in_class-push : (cs : List ℕ) (c i : ℕ) → in_class (cs ++ c ∷ []) i ≡ (in_class cs i || has c i)
in_class-push [] c i = or_nothing (has c i)
  where
    or_nothing : (x : Bool) → (x || false) ≡ (false || x)
    or_nothing true = refl
    or_nothing false = refl
in_class-push (d ∷ cs) c i = ap (λ t. has d i || t) (in_class-push cs c i) ∙ or_group (has d i) (in_class cs i) (has c i)
  where
    or_group : (x y z : Bool) → (x || (y || z)) ≡ ((x || y) || z)
    or_group true y z = refl
    or_group false y z = refl

pub IsNesting-push : (cs : List ℕ) (c : ℕ) → IsNesting cs → IsIndexSet c → IsInhabited c → ((i : ℕ) → IsTrue (has c i) → in_class cs i ≡ false) → IsNesting (cs ++ c ∷ [])
IsNesting-push [] c nesting limit some apart = (limit, some, (λ i h. refl), tt)
IsNesting-push (d ∷ cs) c nesting limit some apart = (
  nesting.0,
  nesting.1,
  (λ i h. in_class-push cs c i ∙ or_from (in_class cs i) (has c i) (nesting.2 i h) (out i h)),
  IsNesting-push cs c nesting.3 limit some (λ i h. (or_parts (has d i) (in_class cs i) (apart i h)).1),
)
  where
    out : (i : ℕ) → IsTrue (has d i) → has c i ≡ false
    out i h = elim (cases_Bool (has c i)) [
      | inl x ↦ absurd (both_ways (has d i) (or_parts (has d i) (in_class cs i) (apart i x)).0 h)
      | inr x ↦ x
    ]
