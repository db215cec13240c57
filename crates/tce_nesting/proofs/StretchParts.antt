-- Stretches of choices, and what they tell of the sets that are allowed.
use Rattle.std.proofs.Common.{◌≡◌, ℕ, Bool, ◌&&◌, ◌||◌, true, false, ◌+◌, ◌<◌, ◌≤◌, List, length, get_or, set, inl, inr, arith, sym, subst, ◌∙◌}
use Rattle.std.specs.List.{AllWithin}
use Rattle.std.proofs.lemmas.Bool.{cases_Bool, both_ways, cases_lt, cases_eq}
use Rattle.std.proofs.lemmas.List.{get_or-set_same, get_or-set_other}
use Rattle.tce_space.specs.IndexSet.{IsWithin, has}
use Rattle.tce_fusion.specs.Relation.{above}
use Rattle.tce_nesting.specs.declared.choice.Choice.{Choice}
use Rattle.tce_nesting.specs.declared.stretches.Stretch.{Stretch}
use Rattle.tce_nesting.specs.Classes.{AllowsSet}
use Rattle.tce_nesting.specs.Ends.{IsTopOf}
use Rattle.tce_nesting.specs.Stretches.{IsStretch, IsTogether, AllowsNone}

-- what holds of each choice whose set is not allowed, where a stretch has no other ones
pub stretch_passed : (P : Choice → Type 0) (place : ℕ) (classes : List ℕ) (choices : List Choice) (stretch : Stretch) → IsStretch choices place stretch
    → AllowsNone (above classes) stretch.common stretch.all → ((x : Choice) → (AllowsSet (above classes) x.fused → ⊥) → P x)
    → AllWithin P choices 0 place → AllWithin P choices 0 stretch.until
stretch_passed P place classes choices stretch is none holds before k d from low = elim (cases_lt k place) [
  | inl earlier ↦ before k d from earlier
  | inr later ↦
      let between = is.each k d later low in
      holds (get_or choices k d) (λ allowed. none (get_or choices k d).fused between.lower between.upper allowed)
]

-- two stretches, one behind the other
pub stretches_together : (first next : Stretch) (common all : ℕ) → ((i : ℕ) → has common i ≡ (has first.common i && has next.common i))
    → ((i : ℕ) → has all i ≡ (has first.all i || has next.all i)) → IsTogether first next (record { common = common; all = all; until = next.until })
stretches_together first next common all meets joins choices k here there = record {
  later = omega (arith, here.later, there.later);
  inside = there.inside;
  each = λ j x from before. elim (cases_lt j first.until) [
    | inl earlier ↦
        let between = here.each j x from earlier in
        record {
          lower = λ i h. between.lower i (left (has first.common i) (has next.common i) (sym (meets i) ∙ h));
          upper = λ i h. joins i ∙ or_left (has first.all i) (has next.all i) (between.upper i h);
        }
    | inr later ↦
        let between = there.each j x later before in
        record {
          lower = λ i h. between.lower i (right (has first.common i) (has next.common i) (sym (meets i) ∙ h));
          upper = λ i h. joins i ∙ or_right (has first.all i) (has next.all i) (between.upper i h);
        }
  ];
}
  where
    left : (x y : Bool) → (x && y) ≡ true → x ≡ true
    left x y h = grind arith

    right : (x y : Bool) → (x && y) ≡ true → y ≡ true
    right x y h = grind arith

    or_left : (x y : Bool) → x ≡ true → (x || y) ≡ true
    or_left x y h = grind arith

    or_right : (x y : Bool) → y ≡ true → (x || y) ≡ true
    or_right x y h = grind arith

-- stretches from a place on
abbrev pub AreStretchesFrom : List Choice → List Stretch → ℕ → Type 0
AreStretchesFrom choices stretches place = (k : ℕ) (s : Stretch) → place ≤ k → k < length choices → IsStretch choices k (get_or stretches k s)

-- and from the place before
pub stretches_earlier : (k place : ℕ) (choices : List Choice) (stretches : List Stretch) (stretch : Stretch) → place ≡ k + 1 → k < length stretches → IsStretch choices k stretch
    → AreStretchesFrom choices stretches place → AreStretchesFrom choices (set stretches k stretch) k
stretches_earlier k place choices stretches stretch next low is later j s from inside = elim (cases_eq j k) [
  | inl at ↦
      subst (λ n. IsStretch choices n (get_or (set stretches k stretch) n s)) (sym at)
      (subst (IsStretch choices k) (sym (get_or-set_same stretches k stretch s low)) is)
  | inr other ↦ subst (IsStretch choices j) (sym (get_or-set_other stretches k j stretch s other)) (later j s (omega (arith, from, other, next)) inside)
]

-- loops above others that reach beyond all of the sets and lack one that is in each
pub none_between : (loops top lower common all : ℕ) (classes : List ℕ) → IsTopOf loops (above classes) top → ((i : ℕ) → has lower i ≡ (has common i && has loops i))
    → (IsWithin top all → ⊥) → (IsWithin lower top → ⊥) → AllowsNone (above classes) common all
none_between loops top lower common all classes is meets not_here not_there fused low high allowed = not_here (λ i in_top. elim (cases_Bool (has all i)) [
  | inl held ↦ held
  | inr lacks ↦ absurd (not_there (λ j in_lower. elim (cases_Bool (has top j)) [
    | inl held ↦ held
    | inr below ↦
        let both = parts (has common j) (has loops j) (sym (meets j) ∙ in_lower) in
        absurd (allowed i j (outside i lacks) (low j both.0) (is.upper i j in_top both.1 below))
  ]))
])
  where
    parts : (x y : Bool) → (x && y) ≡ true → (x ≡ true) × (y ≡ true)
    parts x y h = grind arith

    outside : (i : ℕ) → has all i ≡ false → has fused i ≡ false
    outside i lacks = elim (cases_Bool (has fused i)) [
      | inl held ↦ absurd (both_ways (has all i) lacks (high i held))
      | inr out ↦ out
    ]
