-- What a reader answers.
use Rattle.std.specs.Prelude.{◌≡◌, ◌↔◌, ℕ, List, map, Option, option_map}
use Rattle.std.specs.declared.option.Option.TheVariants.{Some}
use Rattle.std.specs.Borrow.{Bor}
use Rattle.arrayvec.specs.ArrayVec.{ArrayVec}

-- the value is given exactly where it is the one that is meant
abbrev pub GivesExactly : {A : Type 0} → Option A → (A → Type 0) → Type 0
GivesExactly {A} answer IsMeant = (value : A) → (answer ≡ Some value) ↔ IsMeant value

-- the texts that are borrowed
abbrev pub texts : List (Bor (List ℕ)) → List (List ℕ)
texts borrowed = map (λ (b : Bor (List ℕ)). b.now) borrowed

-- the elements of a vector, where there is one
abbrev pub items_if_some : {A : Type 0} → Option (ArrayVec A) → Option (List A)
items_if_some {A} answer = option_map (λ (v : ArrayVec A). v.items) answer

-- the texts of a vector, where there is one
abbrev pub texts_if_some : Option (ArrayVec (Bor (List ℕ))) → Option (List (List ℕ))
texts_if_some answer = option_map (λ (v : ArrayVec (Bor (List ℕ))). texts v.items) answer
