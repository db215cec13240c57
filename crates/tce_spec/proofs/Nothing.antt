-- What holds where a column finds nothing.
use Rattle.std.proofs.Common.{◌≡◌, ℕ, List, ◌++◌, Bool, true, false, not, Option, Some, None, refl, sym, ◌∙◌, cond}
use Rattle.std.specs.Option.{option_or}
use Rattle.tce_spec.specs.Places.{Place, first_at}
use Rattle.tce_spec.proofs.Joined.{first_joined}

pub none_or : {A : Type 0} (a b : Option A) → option_or a b ≡ None → (a ≡ None) × (b ≡ None)
none_or None b h = (refl, h)
none_or (Some x) b h = absurd (some_none x h)
  where
    some_none : {A : Type 0} (x : A) → Some x ≡ None → ⊥
    some_none x h = cc

pub none_joined : (found : Place → Option (List ℕ)) (xs ys : List Place) → first_at found (xs ++ ys) ≡ None
    → (first_at found xs ≡ None) × (first_at found ys ≡ None)
none_joined found xs ys h = none_or (first_at found xs) (first_at found ys) (sym (first_joined found xs ys) ∙ h)

-- a search that finds nothing
pub none_found : {A : Type 0} (b : Bool) (x : A) (rest : Option A) → cond b (Some x) rest ≡ None → (b ≡ false) × (rest ≡ None)
none_found true x rest h = absurd (some_none x h)
  where
    some_none : {A : Type 0} (x : A) → Some x ≡ None → ⊥
    some_none x h = cc
none_found false x rest h = (refl, h)

pub from_not : (b : Bool) → not b ≡ false → b ≡ true
from_not true h = refl
from_not false h = cc
