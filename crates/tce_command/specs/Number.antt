-- How a decimal number begins.
use Rattle.std.specs.Prelude.{ℕ, ◌&&◌, Bool, false, nat_le, List, [], ◌∷◌, ◌≡◌, ◌≢◌, ◌<◌, ◌^◌, Option, MatchOption}
use Rattle.std.specs.Fmt.{decimal}

-- the text is `0`, or begins with a digit from 1 to 9
abbrev pub starts_as_number : List ℕ → Bool
starts_as_number [] = false
starts_as_number (b ∷ []) = nat_le 48 b && nat_le b 57
starts_as_number (b ∷ c ∷ bs) = nat_le 49 b && nat_le b 57

-- the number below 2^64 whose digits these are, or nothing where they are those of none
abbrev pub ReadsNumber : List ℕ → Option ℕ → Type 0
ReadsNumber digits read = MatchOption read ((n : ℕ) → n < 2 ^ 64 → digits ≢ decimal n) (λ n. digits ≡ decimal n)
