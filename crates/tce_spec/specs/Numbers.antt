-- The numbers of a specification, as texts of digits of any length.
use Rattle.std.specs.Prelude.{ℕ, ◌+◌, ◌-◌, ◌*◌, ◌^◌, ◌==◌, ◌&&◌, not, Bool, false, nat_lt, nat_le, List, [], ◌∷◌, length, fold, Option, ◌≡◌, true, MatchOption}
use Rattle.std.specs.declared.option.Option.TheVariants.{Some, None}

-- the number of these digits
abbrev pub value_of : List ℕ → ℕ
value_of digits = fold (λ n d. 10 * n + (d - 48)) 0 digits

-- a 0 with a digit behind it
abbrev pub leads_with_zero : List ℕ → Bool
leads_with_zero [] = false
leads_with_zero (d ∷ ds) = d == 48 && nat_lt 0 (length ds)

-- a number of a range is from 1 to 2 ^ 32 - 1, with no leading 0
abbrev pub is_range_number : List ℕ → Bool
is_range_number digits = not (leads_with_zero digits) && nat_lt 0 (value_of digits) && nat_lt (value_of digits) (2 ^ 32)

-- the number of a range is given exactly where the digits are one
abbrev pub GivesRangeNumber : List ℕ → Option ℕ → Type 0
GivesRangeNumber digits result =
    MatchOption result (is_range_number digits ≡ false) (λ n. (is_range_number digits ≡ true) × (n ≡ value_of digits))

-- an extent, and an edge that is not above it where one is given
abbrev pub is_range_size : List ℕ → Option (List ℕ) → Bool
is_range_size extent None = is_range_number extent
is_range_size extent (Some edge) = is_range_number extent && (is_range_number edge && nat_le (value_of edge) (value_of extent))

-- the edge, which is 1 where none is given
abbrev pub edge_of : Option (List ℕ) → ℕ
edge_of None = 1
edge_of (Some edge) = value_of edge
