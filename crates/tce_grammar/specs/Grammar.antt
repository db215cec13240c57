-- The grammar of a line: what is written, and the tokens that spell it.
use Rattle.std.specs.Prelude.{◌≡◌, ◌≢◌, ⊤, ℕ, ◌+◌, ◌<◌, ◌≤◌, max, IsTrue, List, [], ◌∷◌, ◌++◌, map, Option, codes}
use Rattle.std.specs.declared.option.Option.TheVariants.{Some, None}
use Rattle.std.specs.List.{AllByRecursion, AllZip}
use Rattle.tce_space.specs.Name.{is_name}
use Rattle.tce_grammar.specs.Tokens.{Token, word, number, symbol, tokens}
use Rattle.tce_grammar.specs.Formula.{Formula, Arithmetic, multiply, add, subtract, tensor, constant, sum, binary}
use Rattle.tce_grammar.specs.Lines.{without_comment}

-- a formula as it is written, with its parentheses
pub data Written : Type 0 where
  reference : List ℕ → List (List ℕ) → Written
  numeral : List ℕ → Written
  summed : List (List ℕ) → Written → Written
  joined : Arithmetic → Written → Written → Written
  group : Written → Written

-- names with commas between them
abbrev pub listed : List (List ℕ) → List Token
listed [] = []
listed (n ∷ []) = word n ∷ []
listed (n ∷ m ∷ ns) = word n ∷ symbol 44 ∷ listed (m ∷ ns)

abbrev pub sign : Arithmetic → Token
sign multiply = symbol 42
sign add = symbol 43
sign subtract = symbol 45

abbrev pub bracketed : List ℕ → List (List ℕ) → List Token
bracketed name names = word name ∷ symbol 91 ∷ (listed names ++ symbol 93 ∷ [])

abbrev pub spelling : Written → List Token
spelling (reference name indexes) = bracketed name indexes
spelling (numeral digits) = number digits ∷ []
spelling (summed indexes operand) =
    word (codes "sum") ∷ symbol 123 ∷ (listed indexes ++ (symbol 125 ∷ symbol 40 ∷ (spelling operand ++ symbol 41 ∷ [])))
spelling (joined operator left right) = spelling left ++ (sign operator ∷ spelling right)
spelling (group inner) = symbol 40 ∷ (spelling inner ++ symbol 41 ∷ [])

-- parentheses alone stand for nothing
abbrev pub meaning : Written → Formula
meaning (reference name indexes) = tensor name indexes
meaning (numeral digits) = constant digits
meaning (summed indexes operand) = sum indexes (meaning operand)
meaning (joined operator left right) = binary operator (meaning left) (meaning right)
meaning (group inner) = meaning inner

-- how tightly an operator binds, and what is no operator's
abbrev pub precedence : Arithmetic → ℕ
precedence multiply = 2
precedence add = 1
precedence subtract = 1

abbrev pub level : Written → ℕ
level (reference name indexes) = 3
level (numeral digits) = 3
level (summed indexes operand) = 3
level (joined operator left right) = precedence operator
level (group inner) = 3

abbrev pub AreNames : List (List ℕ) → Type 0
AreNames names = AllByRecursion (λ name. IsTrue (is_name name)) names

abbrev pub AreSome : List (List ℕ) → Type 0
AreSome names = names ≢ []

-- names stand where names do, and operators of one precedence group to the left
abbrev pub IsWritten : Written → Type 0
IsWritten (reference name indexes) = IsTrue (is_name name) × AreNames indexes
IsWritten (numeral digits) = ⊤
IsWritten (summed indexes operand) = AreSome indexes × AreNames indexes × IsWritten operand
IsWritten (joined operator left right) = (precedence operator ≤ level left) × (precedence operator < level right) × IsWritten left × IsWritten right
IsWritten (group inner) = IsWritten inner

-- how many parentheses are open at once
abbrev pub depth : Written → ℕ
depth (reference name indexes) = 0
depth (numeral digits) = 0
depth (summed indexes operand) = depth operand + 1
depth (joined operator left right) = max (depth left) (depth right)
depth (group inner) = depth inner + 1

-- what a line says
pub data Statement : Type 0 where
  range : List ℕ → List ℕ → Option (List ℕ) → Statement
  index : List ℕ → List (List ℕ) → Statement
  declaration : List ℕ → List (List ℕ) → Statement
  formula : List ℕ → List (List ℕ) → Formula → Statement

-- the tokens are one of the four forms, and say this
abbrev pub Says : List Token → Statement → Type 0
Says ts (range name extent None) =
    IsTrue (is_name name) × (ts ≡ word (codes "range") ∷ word name ∷ number extent ∷ [])
Says ts (range name extent (Some edge)) =
    IsTrue (is_name name) × (ts ≡ word (codes "range") ∷ word name ∷ number extent ∷ word (codes "tile") ∷ number edge ∷ [])
Says ts (index name names) =
    IsTrue (is_name name) × AreSome names × AreNames names × (ts ≡ word (codes "index") ∷ word name ∷ map word names)
Says ts (declaration name ranges) =
    IsTrue (is_name name) × AreNames ranges × (ts ≡ word (codes "tensor") ∷ bracketed name ranges)
Says ts (formula name indexes f) =
    IsTrue (is_name name) × AreNames indexes
    × ((w : Written) × IsWritten w × (depth w ≤ 64) × (meaning w ≡ f) × (ts ≡ bracketed name indexes ++ (symbol 61 ∷ spelling w)))

-- what a line is
pub data Line : Type 0 where
  skipped : Line
  bad : Line
  says : Statement → Line

abbrev pub IsLine : List ℕ → Line → Type 0
IsLine text skipped = tokens (without_comment text) ≡ Some []
IsLine text (says s) = (ts : List Token) × (tokens (without_comment text) ≡ Some ts) × Says ts s
IsLine text bad = (ts : List Token) → tokens (without_comment text) ≡ Some ts → (ts ≢ []) × ((s : Statement) → Says ts s → ⊥)

-- what each line of a text is
abbrev pub AreLines : List (List ℕ) → List Line → Type 0
AreLines texts of_lines = AllZip IsLine texts of_lines
