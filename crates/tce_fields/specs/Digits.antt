-- How the text of a number begins.
use Rattle.std.specs.Prelude.{ℕ, Bool, false, List, [], ◌∷◌, nat_le, ◌&&◌}
use Rattle.tce_space.specs.Name.{is_digit}

-- a digit alone, or a digit from 1 to 9 with more behind it
abbrev pub starts_as_number : List ℕ → Bool
starts_as_number [] = false
starts_as_number (d ∷ []) = is_digit d
starts_as_number (d ∷ e ∷ ds) = nat_le 49 d && nat_le d 57
