-- Nestings cut to a set.
use Rattle.std.proofs.Common.{◌≡◌, ℕ, ◌≤◌, Bool, true, false, cond, not, ◌&&◌, ◌||◌, eqb, inl, inr, refl, arith, ◌∙◌, sym, ap, List, [], ◌∷◌, ◌++◌, length, map, eqb-true}
use Rattle.std.specs.Prelude.{IsTrue}
use Rattle.std.specs.List.{filter}
use Rattle.std.proofs.lemmas.Bool.{cases_Bool, and_parts}
use Rattle.std.proofs.lemmas.List.{map-append}
use Rattle.std.proofs.lemmas.List.Elements.{filter-append}
use Rattle.tce_space.specs.IndexSet.{has, meet, empty}
use Rattle.tce_space.proofs.IndexSetLaws.{has-meet, has-empty}
use Rattle.tce_fusion.specs.Relation.{above}
use Rattle.tce_fusion.specs.StateClasses.{in_class}
use Rattle.tce_nesting.specs.Classes.{restricted}

-- one more class whose part has members
pub restricted-push : (cs : List ℕ) (c fused : ℕ) → eqb (meet c fused) 0 ≡ false → restricted (cs ++ c ∷ []) fused ≡ restricted cs fused ++ meet c fused ∷ []
restricted-push cs c fused some =
    ap (filter (λ (k : ℕ). not (eqb k empty))) (map-append (λ (k : ℕ). meet k fused) cs (c ∷ []))
    ∙ filter-append (λ (k : ℕ). not (eqb k empty)) (map (λ (k : ℕ). meet k fused) cs) (meet c fused ∷ [])
    ∙ ap (λ (b : Bool). restricted cs fused ++ cond (not b) (meet c fused ∷ []) []) some

-- one more class whose part has none
pub restricted-skip : (cs : List ℕ) (c fused : ℕ) → eqb (meet c fused) 0 ≡ true → restricted (cs ++ c ∷ []) fused ≡ restricted cs fused
restricted-skip cs c fused none =
    ap (filter (λ (k : ℕ). not (eqb k empty))) (map-append (λ (k : ℕ). meet k fused) cs (c ∷ []))
    ∙ filter-append (λ (k : ℕ). not (eqb k empty)) (map (λ (k : ℕ). meet k fused) cs) (meet c fused ∷ [])
    ∙ ap (λ (b : Bool). restricted cs fused ++ cond (not b) (meet c fused ∷ []) []) none
    ∙ nothing (restricted cs fused)
  where
    nothing : (xs : List ℕ) → xs ++ [] ≡ xs
    nothing [] = refl
    nothing (x ∷ xs) = ap (λ ys. x ∷ ys) (nothing xs)

-- an empty part has no member of the class
no_member : (c fused i : ℕ) → eqb (meet c fused) 0 ≡ true → (has c i && has fused i) ≡ false
no_member c fused i none = sym (has-meet c fused i) ∙ ap (λ set. has set i) (eqb-true (meet c fused) 0 none) ∙ has-empty i

kept_class : (c t f : Bool) → ((c && f) || (t && f)) ≡ ((c || t) && f)
kept_class c t f = grind arith

left_class : (c t f : Bool) → (c && f) ≡ false → (t && f) ≡ ((c || t) && f)
left_class c t f h = grind arith

kept_above : (ci cj fi fj ti t : Bool) → (not (cj && fj) && ((ci && fi) || (ti && fi && (not fj || t)))) ≡ ((ci || ti) && fi && (not fj || (not cj && (ci || t))))
kept_above ci cj fi fj ti t = grind arith

left_above : (ci cj fi fj ti t : Bool) → (ci && fi) ≡ false → (cj && fj) ≡ false → (ti && fi && (not fj || t)) ≡ ((ci || ti) && fi && (not fj || (not cj && (ci || t))))
left_above ci cj fi fj ti t g h = grind arith

pub in_class-restricted : (cs : List ℕ) (fused i : ℕ) → in_class (restricted cs fused) i ≡ (in_class cs i && has fused i)
in_class-restricted [] fused i = refl
in_class-restricted (c ∷ cs) fused i = elim (cases_Bool (eqb (meet c fused) 0)) [
  | inl none ↦ rw (none, in_class-restricted cs fused i) (left_class (has c i) (in_class cs i) (has fused i) (no_member c fused i none))
  | inr some ↦ rw (some, has-meet c fused i, in_class-restricted cs fused i) (kept_class (has c i) (in_class cs i) (has fused i))
]

pub above-restricted : (cs : List ℕ) (fused i j : ℕ) → above (restricted cs fused) i j ≡ (in_class cs i && has fused i && (not (has fused j) || above cs i j))
above-restricted [] fused i j = refl
above-restricted (c ∷ cs) fused i j = elim (cases_Bool (eqb (meet c fused) 0)) [
  | inl none ↦
      rw (none, above-restricted cs fused i j)
      (left_above (has c i) (has c j) (has fused i) (has fused j) (in_class cs i) (above cs i j) (no_member c fused i none) (no_member c fused j none))
  | inr some ↦
      rw (some, has-meet c fused i, has-meet c fused j, above-restricted cs fused i j)
      (kept_above (has c i) (has c j) (has fused i) (has fused j) (in_class cs i) (above cs i j))
]

pub length-restricted : (cs : List ℕ) (fused : ℕ) → length (restricted cs fused) ≤ length cs
length-restricted [] fused = omega arith
length-restricted (c ∷ cs) fused = elim (cases_Bool (eqb (meet c fused) 0)) [
  | inl none ↦ rw none (omega (arith, length-restricted cs fused))
  | inr some ↦ rw some (omega (arith, length-restricted cs fused))
]

-- what is left of a class is apart from what is left of those before it
pub part_apart : (before : List ℕ) (c part fused : ℕ) → ((i : ℕ) → has part i ≡ (has c i && has fused i)) → ((i : ℕ) → IsTrue (has c i) → in_class before i ≡ false)
    → (i : ℕ) → IsTrue (has part i) → in_class (restricted before fused) i ≡ false
part_apart before c part fused members apart i h =
    in_class-restricted before fused i ∙ ap (λ t. t && has fused i) (apart i (and_parts (has c i) (has fused i) (sym (members i) ∙ h)).0)
