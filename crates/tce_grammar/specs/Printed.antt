-- How tokens are printed on a line.
use Rattle.std.specs.Prelude.{ℕ, ◌==◌, ◌||◌, Bool, true, false, if◌then◌else◌, List, [], ◌∷◌, ◌++◌, fold}
use Rattle.tce_grammar.specs.Tokens.{Token, word, number, symbol}

abbrev pub token_text : Token → List ℕ
token_text (word w) = w
token_text (number digits) = digits
token_text (symbol b) = b ∷ []

-- what stands in front of a token on its line
pub data Front : Type 0 where
  nothing : Front
  letters : Front
  sign : Front
  bracket : Front

abbrev pub is_sign : ℕ → Bool
is_sign b = b == 61 || b == 42 || b == 43 || b == 45

-- a word or a number, one of `=`, `*`, `+` and `-`, or a comma or bracket
abbrev pub kind : Token → Front
kind (word w) = letters
kind (number digits) = letters
kind (symbol b) = if is_sign b then sign else bracket

-- a space stands between words and numbers, and on both sides of `=`, `*`, `+` and `-`
abbrev pub is_spaced : Front → Front → Bool
is_spaced nothing behind = false
is_spaced letters letters = true
is_spaced letters sign = true
is_spaced letters behind = false
is_spaced sign behind = true
is_spaced bracket sign = true
is_spaced bracket behind = false

-- a token behind what stands on its line
abbrev pub spaced_text : Front → Token → List ℕ
spaced_text front t = if is_spaced front (kind t) then 32 ∷ token_text t else token_text t

-- tokens behind what stands on their line
abbrev pub printed_behind : Front → List Token → List ℕ
printed_behind front [] = []
printed_behind front (t ∷ ts) = spaced_text front t ++ printed_behind (kind t) ts

-- the text of a line of tokens
abbrev pub printed : List Token → List ℕ
printed ts = printed_behind nothing ts

-- a text, and what stands at its end on the last line
pub record Printing : Type 0 where
  pub text : List ℕ
  pub front : Front

abbrev pub with_token : Printing → Token → Printing
with_token p t = record { text = p.text ++ spaced_text p.front t; front = kind t }

abbrev pub with_tokens : Printing → List Token → Printing
with_tokens p ts = fold with_token p ts

-- a text at the start of a line
abbrev pub line_start : List ℕ → Printing
line_start text = record { text = text; front = nothing }
