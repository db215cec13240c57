-- Laws of the grammar.
use Rattle.std.specs.Prelude.{◌≡◌, ◌≤◌, ℕ, false, ◌==◌, List, ◌++◌, length, map, get_or, ◌-◌, All}
use Rattle.std.specs.declared.option.Option.TheVariants.{Some}
use Rattle.std.specs.List.{AllByRecursion}
use Rattle.tce_grammar.specs.Lines.{lines}
use Rattle.tce_grammar.specs.Tokens.{Token, tokens, IsToken}
use Rattle.tce_grammar.specs.Formula.{Formula, operations}
use Rattle.tce_grammar.specs.Grammar.{IsWritten, meaning, depth, Line, IsLine, says, AreLines, Statement}
use Rattle.tce_grammar.specs.Printed.{printed, with_tokens, line_start}
use Rattle.tce_grammar.specs.Canonical.{written_of, joined_lines, canonical_text, IsFormula, AreStatements}

-- every text of a line is one thing: skipped, bad, or a line that says one statement
abbrev pub EveryLineHasOneReading : Type 0
EveryLineHasOneReading = (text : List ℕ) → (l : Line) × IsLine text l × ((other : Line) → IsLine text other → other ≡ l)

-- the canonical writing of a formula is in the grammar, means the formula, and opens at most one parenthesis an operation
abbrev pub CanonicalFormulasMeanThemselves : Type 0
CanonicalFormulasMeanThemselves =
    (f : Formula) → IsFormula f → IsWritten (written_of f) × (meaning (written_of f) ≡ f) × (depth (written_of f) ≤ operations f)

-- printed tokens are read as themselves
abbrev pub PrintedTokensAreReadBack : Type 0
PrintedTokensAreReadBack = (ts : List Token) → AllByRecursion IsToken ts → tokens (printed ts) ≡ Some ts

-- printing token after token prints the line
abbrev pub TokensPrintTheLine : Type 0
TokensPrintTheLine = (text : List ℕ) (ts : List Token) → (with_tokens (line_start text) ts).text ≡ text ++ printed ts

-- a line without a line feed, and with no carriage return at its end
abbrev pub IsPlainLine : List ℕ → Type 0
IsPlainLine text = All (λ b. (b == 10) ≡ false) text × ((get_or text (length text - 1) 0 == 13) ≡ false)

abbrev pub JoinedLinesAreTheLines : Type 0
JoinedLinesAreTheLines = (texts : List (List ℕ)) → AllByRecursion IsPlainLine texts → lines (joined_lines texts) ≡ texts

-- the lines of the canonical text of statements say these statements
abbrev pub CanonicalTextsSayTheirStatements : Type 0
CanonicalTextsSayTheirStatements =
    (statements : List Statement) → AreStatements statements → AreLines (lines (canonical_text statements)) (map says statements)
