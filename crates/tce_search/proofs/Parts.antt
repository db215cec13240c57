-- Upper parts of the outer loops, class by class.
use Rattle.std.proofs.Common.{◌≡◌, ℕ, Bool, true, false, not, ◌&&◌, ◌||◌, ◌⊎◌, inl, inr, refl, arith, ◌∙◌, sym, ap, subst, List, [], ◌∷◌, ◌++◌, eqb, eqb-true, eq-eqb}
use Rattle.std.specs.Prelude.{IsTrue}
use Rattle.std.specs.List.{Contains}
use Rattle.std.proofs.lemmas.Bool.{cases_Bool, both_ways}
use Rattle.std.proofs.lemmas.List.Elements.{Contains-append_left}
use Rattle.tce_space.specs.IndexSet.{IsIndexSet, IsWithin, has, minus}
use Rattle.tce_space.proofs.IndexSetLaws.{has-empty, has-minus, minus_lt, same_set}
use Rattle.tce_fusion.specs.Relation.{Relation, above}
use Rattle.tce_nesting.proofs.Classes.{above-cons}
use Rattle.tce_search.specs.Parts.{IsUpperPart}

-- each of the outer loops that a reached set has not is below those that it has; the rest of the classes tells what it is above else
pub record IsReachedPart (outer : ℕ) (classes rest : List ℕ) (reached : ℕ) : Type 0 where
  pub number : IsIndexSet reached
  pub within : IsWithin reached outer
  pub upper : (i j : ℕ) → IsTrue (has outer i) → IsTrue (has outer j) → has reached j ≡ false → above classes i j ≡ (has reached i || above rest i j)
  pub proper : IsWithin outer reached → reached ≡ 0

-- a part has what is reached, and the rest of the classes puts its other loops above those that are not of it
pub record IsBeyond (outer : ℕ) (rest : List ℕ) (reached part : ℕ) : Type 0 where
  pub within : IsWithin reached part
  pub upper : (i j : ℕ) → IsTrue (has part i) → has reached i ≡ false → IsTrue (has outer j) → has part j ≡ false → IsTrue (above rest i j)

-- what is reached is an upper part
pub reached_is_upper : (outer : ℕ) (classes rest : List ℕ) (reached : ℕ) → IsReachedPart outer classes rest reached → IsUpperPart outer (above classes) reached
reached_is_upper outer classes rest reached is = record {
  number = is.number;
  within = is.within;
  upper = λ i j p q low. is.upper i j (is.within i p) q low ∙ ap (λ b. b || above rest i j) p;
  proper = is.proper;
}

wider_upper : (reached_i outer_i c_i c_j rest : Bool) → outer_i ≡ true → c_j ≡ false → (reached_i || (not c_j && (c_i || rest))) ≡ ((reached_i || (c_i && outer_i)) || rest)
wider_upper reached_i outer_i c_i c_j rest p q = grind arith

left_low : (reached_j outer_j c_j : Bool) → (reached_j || (c_j && outer_j)) ≡ false → outer_j ≡ true → (reached_j ≡ false) × (c_j ≡ false)
left_low reached_j outer_j c_j low p = grind arith

-- one more class
pub reached_further : (outer : ℕ) (classes rest : List ℕ) (c reached wider : ℕ) → IsIndexSet wider → ((i : ℕ) → has wider i ≡ (has reached i || (has c i && has outer i))) → (IsWithin outer wider → ⊥)
    → IsReachedPart outer classes (c ∷ rest) reached → IsReachedPart outer classes rest wider
reached_further outer classes rest c reached wider number members proper is = record {
  number = number;
  within = λ i h. within i (sym (members i) ∙ h);
  upper = λ i j p q low.
      let parts = left_low (has reached j) (has outer j) (has c j) (sym (members j) ∙ low) q in
      is.upper i j p q parts.0 ∙ wider_upper (has reached i) (has outer i) (has c i) (has c j) (above rest i j) p parts.1 ∙ ap (λ b. b || above rest i j) (sym (members i));
  proper = λ all. absurd (proper all);
}
  where
    either : (a b d : Bool) → (a || (b && d)) ≡ true → (a ≡ true) ⊎ (d ≡ true)
    either a b d h = grind arith

    within : (i : ℕ) → (has reached i || (has c i && has outer i)) ≡ true → IsTrue (has outer i)
    within i h = elim (either (has reached i) (has c i) (has outer i) h) [ inl p ↦ is.within i p | inr q ↦ q ]

-- a part that lies within what it has reached is that
pub same_part : (outer : ℕ) (r : Relation) (reached part : ℕ) → IsIndexSet reached → IsUpperPart outer r part → IsWithin reached part → IsWithin part reached → part ≡ reached
same_part outer r reached part number is there back = same_set part reached is.number number (λ i _. same i)
  where
    same : (i : ℕ) → has part i ≡ has reached i
    same i = elim (cases_Bool (has part i)) [
      | inl held ↦ held ∙ sym (back i held)
      | inr lacks ↦ elim (cases_Bool (has reached i)) [ inl held ↦ absurd (both_ways (has part i) lacks (there i held)) | inr low ↦ lacks ∙ sym low ]
    ]

module _ (outer : ℕ) (r : Relation) (rest : List ℕ) (c reached wider part : ℕ) (number : IsIndexSet reached)
    (members : (i : ℕ) → has wider i ≡ (has reached i || (has c i && has outer i))) (is : IsUpperPart outer r part) (beyond : IsBeyond outer (c ∷ rest) reached part) where
  left_over : (i : ℕ) → has (minus part reached) i ≡ true → (has part i ≡ true) × (has reached i ≡ false)
  left_over i h = parts (has part i) (has reached i) (sym (has-minus part reached i) ∙ h)
    where
      parts : (a b : Bool) → (a && not b) ≡ true → (a ≡ true) × (b ≡ false)
      parts a b p = grind arith

  nothing_left : ((i : ℕ) → has (minus part reached) i ≡ false) → (minus part reached) ≡ 0
  nothing_left none = same_set (minus part reached) 0 (minus_lt part reached is.number) (omega arith) (λ i _. none i ∙ sym (has-empty i))

  within_reached : (minus part reached) ≡ 0 → IsWithin part reached
  within_reached none i p = elim (cases_Bool (has reached i)) [
    | inl held ↦ held
    | inr lacks ↦ absurd (both_ways (has 0 i) (has-empty i) (ap (λ s. has s i) (sym none) ∙ has-minus part reached i ∙ both (has part i) (has reached i) p lacks))
  ]
    where
      both : (a b : Bool) → a ≡ true → b ≡ false → (a && not b) ≡ true
      both a b p q = grind arith

  -- where some loop of the part is left, the class has no outer loop that is not of the part
  class_within : ((minus part reached) ≡ 0 → ⊥) → (i : ℕ) → has c i ≡ true → has outer i ≡ true → has part i ≡ true
  class_within some i in_c in_outer = elim (cases_Bool (has part i)) [
    | inl held ↦ held
    | inr lacks ↦ absurd (some (nothing_left (λ x. elim (cases_Bool (has (minus part reached) x)) [
      | inl left ↦ absurd (both_ways (has c i) (above-cons c rest x i (beyond.upper x i (left_over x left).0 (left_over x left).1 in_outer lacks)).0 in_c)
      | inr right ↦ right
    ])))
  ]

  wider_within : ((minus part reached) ≡ 0 → ⊥) → IsWithin wider part
  wider_within some i h = elim (either (has reached i) (has c i) (has outer i) (sym (members i) ∙ h)) [
    | inl p ↦ beyond.within i p
    | inr q ↦ class_within some i q.0 q.1
  ]
    where
      either : (a b d : Bool) → (a || (b && d)) ≡ true → (a ≡ true) ⊎ ((b ≡ true) × (d ≡ true))
      either a b d h = grind arith

  wider_upper_part : (i j : ℕ) → IsTrue (has part i) → has wider i ≡ false → IsTrue (has outer j) → has part j ≡ false → IsTrue (above rest i j)
  wider_upper_part i j p low q lacks =
      let parts = left_low (has reached i) (has outer i) (has c i) (sym (members i) ∙ low) (is.within i p) in
      elim (above-cons c rest i j (beyond.upper i j p parts.0 q lacks)).1 [
        | inl in_c ↦ absurd (both_ways (has c i) parts.1 in_c)
        | inr later ↦ later
      ]

  pub beyond_further : (part ≡ reached) ⊎ IsBeyond outer rest wider part
  beyond_further = elim (cases_Bool (eqb (minus part reached) 0)) [
    | inl none ↦ inl (same_part outer r reached part number is beyond.within (within_reached (eqb-true (minus part reached) 0 none)))
    | inr some ↦ inr (record {
      within = wider_within (λ none. both_ways (eqb (minus part reached) 0) some (eq-eqb (minus part reached) 0 none));
      upper = wider_upper_part;
    })
  ]

-- no class is left
pub beyond_end : (outer : ℕ) (r : Relation) (reached part : ℕ) → IsIndexSet reached → IsUpperPart outer r part → IsBeyond outer [] reached part → part ≡ reached
beyond_end outer r reached part number is beyond = same_part outer r reached part number is beyond.within within
  where
    within : IsWithin part reached
    within i p = elim (cases_Bool (has reached i)) [
      | inl held ↦ held
      | inr lacks ↦
          let empty = is.proper (λ j q. elim (cases_Bool (has part j)) [ inl held ↦ held | inr low ↦ absurd (both_ways false refl (beyond.upper i j p lacks q low)) ]) in
          absurd (both_ways (has 0 i) (has-empty i) (ap (λ s. has s i) (sym empty) ∙ p))
    ]

-- each upper part is among those that are listed, or has what is reached
abbrev pub AreSeen : ℕ → List ℕ → List ℕ → ℕ → List ℕ → Type 0
AreSeen outer classes rest reached parts = (part : ℕ) → IsUpperPart outer (above classes) part → Contains parts part ⊎ IsBeyond outer rest reached part

-- each upper part is listed
abbrev pub AreAll : ℕ → List ℕ → List ℕ → Type 0
AreAll outer classes parts = (part : ℕ) → IsUpperPart outer (above classes) part → Contains parts part

contains_same : (parts : List ℕ) (a b : ℕ) → a ≡ b → Contains parts b → Contains parts a
contains_same parts a b same inn = subst (Contains parts) (sym same) inn

pub seen_further : (outer c reached wider : ℕ) (classes rest parts more : List ℕ) → IsIndexSet reached → ((i : ℕ) → has wider i ≡ (has reached i || (has c i && has outer i))) → more ≡ parts ++ wider ∷ []
    → Contains parts reached → AreSeen outer classes (c ∷ rest) reached parts → AreSeen outer classes rest wider more
seen_further outer c reached wider classes rest parts more number members grown last seen part is = elim (seen part is) [
  | inl inn ↦ inl (longer part inn)
  | inr beyond ↦ elim (beyond_further outer (above classes) rest c reached wider part number members is beyond) [
    | inl same ↦ inl (longer part (contains_same parts part reached same last))
    | inr further ↦ inr further
  ]
]
  where
    longer : (x : ℕ) → Contains parts x → Contains more x
    longer x inn = subst (λ xs. Contains xs x) (sym grown) (Contains-append_left parts (wider ∷ []) x inn)

-- all outer loops are reached
pub seen_stop : (outer c reached wider : ℕ) (classes rest parts : List ℕ) → IsIndexSet reached → ((i : ℕ) → has wider i ≡ (has reached i || (has c i && has outer i))) → IsWithin outer wider
    → Contains parts reached → Contains parts 0 → AreSeen outer classes (c ∷ rest) reached parts → AreAll outer classes parts
seen_stop outer c reached wider classes rest parts number members full last empty seen part is = elim (seen part is) [
  | inl inn ↦ inn
  | inr beyond ↦ elim (beyond_further outer (above classes) rest c reached wider part number members is beyond) [
    | inl same ↦ contains_same parts part reached same last
    | inr further ↦ contains_same parts part 0 (is.proper (λ i h. further.within i (full i h))) empty
  ]
]

pub seen_end : (outer reached : ℕ) (classes parts : List ℕ) → IsIndexSet reached → Contains parts reached → AreSeen outer classes [] reached parts → AreAll outer classes parts
seen_end outer reached classes parts number last seen part is = elim (seen part is) [
  | inl inn ↦ inn
  | inr beyond ↦ contains_same parts part reached (beyond_end outer (above classes) reached part number is beyond) last
]

pub members_of : (outer c both reached wider : ℕ) → ((i : ℕ) → has both i ≡ (has c i && has outer i)) → ((i : ℕ) → has wider i ≡ (has reached i || has both i)) → (i : ℕ) → has wider i ≡ (has reached i || (has c i && has outer i))
members_of outer c both reached wider meets joins i = joins i ∙ ap (λ b. has reached i || b) (meets i)

-- what is coarser has no other upper parts
pub upper_of_coarser : (outer : ℕ) (r s : Relation) (part : ℕ) → ((i j : ℕ) → IsTrue (has outer i) → IsTrue (has outer j) → IsTrue (r i j) → IsTrue (s i j)) → IsUpperPart outer r part → IsUpperPart outer s part
upper_of_coarser outer r s part coarser is = record {
  number = is.number;
  within = is.within;
  upper = λ i j p q low. coarser i j (is.within i p) q (is.upper i j p q low);
  proper = is.proper;
}
