-- Columns over two formulas, one behind the other.
use Rattle.std.proofs.Common.{◌≡◌, ℕ, List, [], ◌∷◌, ◌++◌, Bool, true, false, ◌&&◌, Option, Some, None, refl, ap, ◌∙◌}
use Rattle.std.specs.Option.{option_or}
use Rattle.std.specs.List.{list_all}
use Rattle.tce_spec.specs.Places.{Place, first_at}

and_assoc : (a b c : Bool) → a && (b && c) ≡ (a && b) && c
and_assoc true b c = refl
and_assoc false b c = refl

pub all_joined : (p : List ℕ → Bool) (xs ys : List (List ℕ)) → list_all p (xs ++ ys) ≡ (list_all p xs && list_all p ys)
all_joined p [] ys = refl
all_joined p (x ∷ xs) ys = ap (λ b. p x && b) (all_joined p xs ys) ∙ and_assoc (p x) (list_all p xs) (list_all p ys)

or_assoc : (a b c : Option (List ℕ)) → option_or a (option_or b c) ≡ option_or (option_or a b) c
or_assoc None b c = refl
or_assoc (Some x) b c = refl

pub first_joined : (found : Place → Option (List ℕ)) (xs ys : List Place)
    → first_at found (xs ++ ys) ≡ option_or (first_at found xs) (first_at found ys)
first_joined found [] ys = refl
first_joined found (x ∷ xs) ys = ap (option_or (found x)) (first_joined found xs ys) ∙ or_assoc (found x) (first_at found xs) (first_at found ys)
