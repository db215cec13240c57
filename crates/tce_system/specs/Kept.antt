-- Tables of values by name.
use Rattle.std.specs.Prelude.{◌≡◌, ◌≢◌, ℕ, List}
use Rattle.std.specs.HashMap.{HashMap, get_by_text}
use Rattle.std.specs.declared.string.String.{String}

-- what stands under all names but one stays
abbrev pub KeepsOthers : {X Y S : Type 0} → HashMap (String Y) X S → HashMap (String Y) X S → List ℕ → Type 0
KeepsOthers old new name = (other : List ℕ) → other ≢ name → get_by_text new other ≡ get_by_text old other
