-- Steps of the searches for what is above an index, and for the members of a set that no other member is above.
use Rattle.std.proofs.Common.{◌≡◌, ℕ, true, false, not, ◌&&◌, ◌||◌, ◌∙◌, sym, ap, inl, inr, List, [], ◌∷◌}
use Rattle.std.specs.Prelude.{IsTrue}
use Rattle.std.proofs.lemmas.Bool.{cases_Bool, both_ways, and_parts, and_from}
use Rattle.tce_space.specs.IndexSet.{has}
use Rattle.tce_fusion.specs.Relation.{above}
use Rattle.tce_fusion.specs.StateClasses.{IsInhabited}
use Rattle.tce_nesting.specs.Classes.{AreOutermost}

-- ---- at the first of the classes

pub above-lower : (c : ℕ) (cs : List ℕ) (i j : ℕ) → has c j ≡ true → above (c ∷ cs) i j ≡ false
above-lower c cs i j here = ap (λ t. not t && (has c i || above cs i j)) here

pub above-upper : (c : ℕ) (cs : List ℕ) (i j : ℕ) → has c j ≡ false → has c i ≡ true → above (c ∷ cs) i j ≡ true
above-upper c cs i j out here = ap (λ t. not t && (has c i || above cs i j)) out ∙ ap (λ t. t || above cs i j) here

pub above-neither : (c : ℕ) (cs : List ℕ) (i j : ℕ) → has c j ≡ false → has c i ≡ false → above (c ∷ cs) i j ≡ above cs i j
above-neither c cs i j out other = ap (λ t. not t && (has c i || above cs i j)) out ∙ ap (λ t. t || above cs i j) other

-- ---- the outermost members

-- the same members of the set are above each other
abbrev pub AgreeIn : ℕ → List ℕ → List ℕ → Type 0
AgreeIn rest classes later = (i j : ℕ) → IsTrue (has rest i) → IsTrue (has rest j) → above classes i j ≡ above later i j

-- the first class that has members of the set
pub outermost_here : (classes cs : List ℕ) (c rest part : ℕ) → AgreeIn rest classes (c ∷ cs) → ((i : ℕ) → has part i ≡ (has c i && has rest i)) → IsInhabited part
    → AreOutermost (above classes) rest part
outermost_here classes cs c rest part agree meet some = record {
  within = λ i inn. (parts i inn).1;
  upper = λ i j inn rj. agree i j (parts i inn).1 rj ∙ upper i j (parts i inn).0 ∙ sym (ap (λ t. not t) (meet j ∙ in_rest j rj));
  lower = λ i j ri inn. agree i j ri (parts j inn).1 ∙ above-lower c cs i j (parts j inn).0;
  inhabited = λ _. some;
}
  where
    parts : (i : ℕ) → IsTrue (has part i) → IsTrue (has c i) × IsTrue (has rest i)
    parts i inn = and_parts (has c i) (has rest i) (sym (meet i) ∙ inn)

    upper : (i j : ℕ) → IsTrue (has c i) → above (c ∷ cs) i j ≡ not (has c j)
    upper i j here = elim (cases_Bool (has c j)) [
      | inl inn ↦ above-lower c cs i j inn ∙ sym (ap (λ t. not t) inn)
      | inr out ↦ above-upper c cs i j out here ∙ sym (ap (λ t. not t) out)
    ]

    in_rest : (j : ℕ) → IsTrue (has rest j) → (has c j && has rest j) ≡ has c j
    in_rest j rj = elim (cases_Bool (has c j)) [
      | inl inn ↦ and_from (has c j) (has rest j) inn rj ∙ sym inn
      | inr out ↦ ap (λ t. t && has rest j) out ∙ sym out
    ]

-- a class without members of the set
pub outermost_later : (classes cs : List ℕ) (c rest part : ℕ) → AgreeIn rest classes (c ∷ cs) → ((i : ℕ) → has part i ≡ (has c i && has rest i)) → ((i : ℕ) → has part i ≡ false)
    → AgreeIn rest classes cs
outermost_later classes cs c rest part agree meet none i j ri rj = agree i j ri rj ∙ above-neither c cs i j (outside j rj) (outside i ri)
  where
    outside : (k : ℕ) → IsTrue (has rest k) → has c k ≡ false
    outside k rk = elim (cases_Bool (has c k)) [
      | inl inn ↦ absurd (both_ways (has part k) (none k) (meet k ∙ and_from (has c k) (has rest k) inn rk))
      | inr out ↦ out
    ]

-- no class has members of the set
pub outermost_all : (classes : List ℕ) (rest : ℕ) → AgreeIn rest classes [] → AreOutermost (above classes) rest rest
outermost_all classes rest agree = record {
  within = λ i inn. inn;
  upper = λ i j ri rj. agree i j ri rj ∙ sym (ap (λ t. not t) rj);
  lower = λ i j ri rj. agree i j ri rj;
  inhabited = λ some. some;
}
