-- The canonical text of statements: the tokens of their lines, and the lines.
use Rattle.std.specs.Prelude.{◌≤◌, ⊤, ℕ, Bool, true, false, IsTrue, nat_le, nat_lt, List, [], ◌∷◌, ◌++◌, map, codes, flat_map, Option}
use Rattle.std.specs.declared.option.Option.TheVariants.{Some, None}
use Rattle.std.specs.List.{AllByRecursion}
use Rattle.tce_space.specs.Name.{is_name}
use Rattle.tce_grammar.specs.Tokens.{Token, word, number, symbol, IsNumber}
use Rattle.tce_grammar.specs.Formula.{Formula, tensor, constant, sum, binary, operations}
use Rattle.tce_grammar.specs.Grammar.{Written, reference, numeral, summed, joined, group, bracketed, spelling, precedence, level, AreNames, AreSome, Statement, range, index, declaration, formula}
use Rattle.tce_grammar.specs.Printed.{printed}

abbrev pub grouped_if : Bool → Written → Written
grouped_if true w = group w
grouped_if false w = w

-- a formula with no more parentheses than it needs
abbrev pub written_of : Formula → Written
written_of (tensor name indexes) = reference name indexes
written_of (constant digits) = numeral digits
written_of (sum indexes operand) = summed indexes (written_of operand)
written_of (binary operator left right) =
    joined operator (grouped_if (nat_lt (level (written_of left)) (precedence operator)) (written_of left))
    (grouped_if (nat_le (level (written_of right)) (precedence operator)) (written_of right))

abbrev pub edge_tokens : Option (List ℕ) → List Token
edge_tokens None = []
edge_tokens (Some edge) = word (codes "tile") ∷ number edge ∷ []

-- the tokens of the line of a statement
abbrev pub canonical_tokens : Statement → List Token
canonical_tokens (range name extent edge) = word (codes "range") ∷ word name ∷ number extent ∷ edge_tokens edge
canonical_tokens (index name names) = word (codes "index") ∷ word name ∷ map word names
canonical_tokens (declaration name ranges) = word (codes "tensor") ∷ bracketed name ranges
canonical_tokens (formula name indexes f) = bracketed name indexes ++ (symbol 61 ∷ spelling (written_of f))

abbrev pub canonical_line : Statement → List ℕ
canonical_line s = printed (canonical_tokens s)

-- a line feed behind each line
abbrev pub joined_lines : List (List ℕ) → List ℕ
joined_lines texts = flat_map (λ text. text ++ 10 ∷ []) texts

abbrev pub canonical_text : List Statement → List ℕ
canonical_text statements = joined_lines (map canonical_line statements)

abbrev pub IsNumberIfSome : Option (List ℕ) → Type 0
IsNumberIfSome None = ⊤
IsNumberIfSome (Some digits) = IsNumber digits

-- names stand where names do, numbers where numbers do, and each sum has an index
abbrev pub IsFormula : Formula → Type 0
IsFormula (tensor name indexes) = IsTrue (is_name name) × AreNames indexes
IsFormula (constant digits) = IsNumber digits
IsFormula (sum indexes operand) = AreSome indexes × AreNames indexes × IsFormula operand
IsFormula (binary operator left right) = IsFormula left × IsFormula right

-- a statement that a line can say; a formula of up to 64 operations needs no more than 64 open parentheses
abbrev pub IsStatement : Statement → Type 0
IsStatement (range name extent edge) = IsTrue (is_name name) × IsNumber extent × IsNumberIfSome edge
IsStatement (index name names) = IsTrue (is_name name) × AreSome names × AreNames names
IsStatement (declaration name ranges) = IsTrue (is_name name) × AreNames ranges
IsStatement (formula name indexes f) = IsTrue (is_name name) × AreNames indexes × IsFormula f × (operations f ≤ 64)

abbrev pub AreStatements : List Statement → Type 0
AreStatements statements = AllByRecursion IsStatement statements
