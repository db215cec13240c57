-- The tokens of a line.
use Rattle.std.specs.Prelude.{◌≢◌, IsTrue, ℕ, ◌==◌, ◌&&◌, ◌||◌, not, Bool, false, if◌then◌else◌, List, [], ◌∷◌, Option, codes, filter, map, option_map}
use Rattle.std.specs.declared.option.Option.TheVariants.{Some, None}
use Rattle.std.specs.List.{list_all, list_any}
use Rattle.tce_space.specs.Name.{is_letter, is_digit, is_word_byte, starts_with_letter}

pub data Token : Type 0 where
  word : List ℕ → Token
  number : List ℕ → Token
  symbol : ℕ → Token

abbrev pub is_blank : ℕ → Bool
is_blank b = b == 32 || b == 9

abbrev pub is_symbol : ℕ → Bool
is_symbol b = list_any (λ c. b == c) (codes "[]{}(),=*+-")

abbrev pub starts_word : List ℕ → Bool
starts_word [] = false
starts_word (b ∷ bs) = is_word_byte b

-- a byte in front of the pieces of the rest of its line
abbrev pub in_front : ℕ → List (List ℕ) → List (List ℕ)
in_front b [] = (b ∷ []) ∷ []
in_front b (piece ∷ rest) = if is_word_byte b && starts_word piece then (b ∷ piece) ∷ rest else (b ∷ []) ∷ piece ∷ rest

-- the longest runs of letters, digits and `_`, and each other byte for itself
abbrev pub pieces : List ℕ → List (List ℕ)
pieces [] = []
pieces (b ∷ bs) = in_front b (pieces bs)

-- a word begins with a letter, a number has digits alone, of any length
abbrev pub token_of : List ℕ → Option Token
token_of [] = None
token_of (b ∷ bs) =
    if is_letter b then Some (word (b ∷ bs))
    else if is_digit b then (if list_all is_digit bs then Some (number (b ∷ bs)) else None)
    else if is_symbol b then Some (symbol b) else None

abbrev pub all_some : {A : Type 0} → List (Option A) → Option (List A)
all_some [] = Some []
all_some (None ∷ rest) = None
all_some (Some x ∷ rest) = option_map (λ xs. x ∷ xs) (all_some rest)

-- the tokens of a line, or None where a piece is no token
unfoldable pub tokens : List ℕ → Option (List Token)
tokens line = all_some (map token_of (filter (λ piece. not (list_all is_blank piece)) (pieces line)))

-- one or more digits
abbrev pub IsNumber : List ℕ → Type 0
IsNumber digits = (digits ≢ []) × IsTrue (list_all is_digit digits)

-- what a token may hold
abbrev pub IsToken : Token → Type 0
IsToken (word w) = IsTrue (starts_with_letter w) × IsTrue (list_all is_word_byte w)
IsToken (number digits) = IsNumber digits
IsToken (symbol b) = IsTrue (is_symbol b)
