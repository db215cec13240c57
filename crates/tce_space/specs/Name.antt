-- Names of ranges, indexes and tensors, as lists of bytes.
use Rattle.std.specs.Prelude.{ℕ, ◌&&◌, ◌||◌, ◌==◌, not, Bool, false, nat_le, List, [], ◌∷◌, length, codes}
use Rattle.std.specs.List.{list_all, list_any}
use Rattle.std.specs.Str.{bytes_eq}

-- A to Z and a to z
abbrev pub is_letter : ℕ → Bool
is_letter b = (nat_le 65 b && nat_le b 90) || (nat_le 97 b && nat_le b 122)

-- 0 to 9
abbrev pub is_digit : ℕ → Bool
is_digit b = nat_le 48 b && nat_le b 57

-- a letter, a digit or `_`
abbrev pub is_word_byte : ℕ → Bool
is_word_byte b = is_letter b || is_digit b || b == 95

-- the words with a meaning of their own
abbrev pub is_keyword : List ℕ → Bool
is_keyword w = list_any (bytes_eq w) (codes "range" ∷ codes "tile" ∷ codes "index" ∷ codes "tensor" ∷ codes "sum" ∷ [])

abbrev pub starts_with_letter : List ℕ → Bool
starts_with_letter [] = false
starts_with_letter (b ∷ bs) = is_letter b

-- a name has a letter, and up to 15 letters, digits or `_` behind it, and is none of the words with a meaning of their own
unfoldable pub is_name : List ℕ → Bool
is_name w = starts_with_letter w && nat_le (length w) 16 && list_all is_word_byte w && not (is_keyword w)
