-- Canonical texts are short.
use Rattle.std.proofs.Common.{◌≡◌, ℕ, ◌+◌, ◌*◌, ◌≤◌, Bool, true, false, IsTrue, List, [], ◌∷◌, ◌++◌, length, map, cond, arith, length-append}
use Rattle.tce_space.specs.Name.{is_name}
use Rattle.tce_space.proofs.Spaces.{name_len}
use Rattle.tce_grammar.specs.Tokens.{Token, word, symbol}
use Rattle.tce_grammar.specs.Grammar.{Statement, AreNames, listed, bracketed}
use Rattle.tce_grammar.specs.Printed.{token_text, Front, kind, is_spaced, spaced_text, printed_behind, nothing}
use Rattle.tce_grammar.specs.Canonical.{canonical_tokens, canonical_line, canonical_text}

-- a space in front of each token is enough
abbrev pub width : List Token → ℕ
width [] = 0
width (t ∷ ts) = 1 + length (token_text t) + width ts

pub width_joined : (xs ys : List Token) → width (xs ++ ys) ≡ width xs + width ys
width_joined [] ys = omega arith
width_joined (t ∷ ts) ys = omega (arith, width_joined ts ys)

spaced_short : (b : Bool) (t : Token) → length (cond b (32 ∷ token_text t) (token_text t)) ≤ 1 + length (token_text t)
spaced_short true t = omega arith
spaced_short false t = omega arith

printed_short : (front : Front) (ts : List Token) → length (printed_behind front ts) ≤ width ts
printed_short front [] = omega arith
printed_short front (t ∷ ts) =
    omega (arith, length-append (spaced_text front t) (printed_behind (kind t) ts), spaced_short (is_spaced front (kind t)) t, printed_short (kind t) ts)

abbrev pub widths : List Statement → ℕ
widths [] = 0
widths (s ∷ ss) = width (canonical_tokens s) + 1 + widths ss

pub widths_joined : (xs ys : List Statement) → widths (xs ++ ys) ≡ widths xs + widths ys
widths_joined [] ys = omega arith
widths_joined (s ∷ ss) ys = omega (arith, widths_joined ss ys)

pub text_short : (ss : List Statement) → length (canonical_text ss) ≤ widths ss
text_short [] = omega arith
text_short (s ∷ ss) =
    let line = length-append (canonical_line s) (10 ∷ []) in
    let text = length-append (canonical_line s ++ 10 ∷ []) (canonical_text ss) in
    omega (arith, line, text, printed_short nothing (canonical_tokens s), text_short ss)

pub listed_short : (names : List (List ℕ)) → AreNames names → width (listed names) ≤ 19 * length names
listed_short [] are = omega arith
listed_short (n ∷ []) are = omega (arith, name_len n are.0)
listed_short (n ∷ m ∷ ns) are = omega (arith, name_len n are.0, listed_short (m ∷ ns) are.1)

pub bracketed_short : (name : List ℕ) (names : List (List ℕ)) → IsTrue (is_name name) → AreNames names → width (bracketed name names) ≤ 21 + 19 * length names
bracketed_short name names is are = omega (arith, name_len name is, listed_short names are, width_joined (listed names) (symbol 93 ∷ []))

pub words_short : (names : List (List ℕ)) → AreNames names → width (map word names) ≤ 17 * length names
words_short [] are = omega arith
words_short (n ∷ ns) are = omega (arith, name_len n are.0, words_short ns are.1)
