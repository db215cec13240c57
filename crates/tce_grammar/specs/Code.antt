-- What the values of the code stand for.
use Rattle.std.specs.Prelude.{◌≡◌, ℕ, List, map, Option, Result, option_map, MatchOption, ◌+◌, ◌<◌}
use Rattle.std.specs.declared.option.Option.TheVariants.{Some, None}
use Rattle.std.specs.declared.result.Result.TheVariants.{Ok, Err}
use Rattle.std.specs.Borrow.{Bor}
use Rattle.tce_grammar.specs.Tokens as tokens
use Rattle.tce_grammar.specs.Formula as formulas
use Rattle.tce_grammar.specs.Formula.{Arithmetic}
use Rattle.tce_grammar.specs.Grammar as grammar
use Rattle.tce_grammar.specs.declared.token.Token.{Token}
use Rattle.tce_grammar.specs.declared.token.Token.TheVariants.{Word, Number, Symbol}
use Rattle.tce_grammar.specs.declared.read_error.ReadError.{ReadError}
use Rattle.tce_grammar.specs.declared.read_error.ReadError.TheVariants as errors
use Rattle.tce_grammar.specs.declared.formula.Formula.{Formula, Tensor, Constant, Sum', Binary'}
use Rattle.tce_grammar.specs.declared.statement.Statement.{Statement}
use Rattle.tce_grammar.specs.declared.statement.Statement.TheVariants as statements
use Rattle.tce_grammar.specs.declared.line.Line.{Line}
use Rattle.tce_grammar.specs.declared.line.Line.TheVariants as lines

abbrev pub token : Token → tokens.Token
token (Word w) = tokens.word w.now
token (Number d) = tokens.number d.now
token (Symbol b) = tokens.symbol b

abbrev pub names : List (Bor (List ℕ)) → List (List ℕ)
names bs = map (λ (b : Bor (List ℕ)). b.now) bs

abbrev pub formula : Formula → formulas.Formula
formula (Tensor name indexes) = formulas.tensor name.now (names indexes.items)
formula (Constant digits) = formulas.constant digits.now
formula (Sum' indexes p operand) = formulas.sum (names indexes.items) (formula operand)
formula (Binary' o p left q right) = formulas.binary o (formula left) (formula right)

abbrev pub text_if_some : Option (Bor (List ℕ)) → Option (List ℕ)
text_if_some o = option_map (λ (b : Bor (List ℕ)). b.now) o

abbrev pub statement : Statement → grammar.Statement
statement (statements.Range name extent edge) = grammar.range name.now extent.now (text_if_some edge)
statement (statements.Index range indexes) = grammar.index range.now (names indexes.items)
statement (statements.Tensor name ranges) = grammar.declaration name.now (names ranges.items)
statement (statements.Formula result indexes f) = grammar.formula result.now (names indexes.items) (formula f)

abbrev pub line : Line → grammar.Line
line lines.Skipped = grammar.skipped
line lines.Bad = grammar.bad
line (lines.Says s) = grammar.says (statement s)

-- what a function returned, seen by `view`, is what reading gives, unless memory ran out
abbrev pub Gives : {X Y : Type 0} → (X → Y) → Result X ReadError → Option Y → Type 0
Gives view (Ok x) read = read ≡ Some (view x)
Gives view (Err errors.Memory) read = Unit {0}
Gives view (Err errors.Form) read = read ≡ None

-- how many operations a formula leaves of so many, if it has not more
abbrev pub LeavesOperations : ℕ → Formula → Option ℕ → Type 0
LeavesOperations limit whole result =
    MatchOption result (limit < formulas.operations (formula whole)) (λ left. left + formulas.operations (formula whole) ≡ limit)

-- a formula of two with an operator between them
abbrev pub IsJoined : Arithmetic → Formula → Formula → Formula → Type 0
IsJoined between left right whole = formula whole ≡ formulas.binary between (formula left) (formula right)

-- no line but this one has this text
abbrev pub IsOnlyLine : List ℕ → Line → Type 0
IsOnlyLine text read = (other : grammar.Line) → grammar.IsLine text other → other ≡ line read
