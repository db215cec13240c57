-- What the program reads from a text.
use Rattle.std.specs.Prelude.{◌≡◌, ⊤, ◌+◌, ℕ, List, Option, Result, ◌-◌, [], ◌∷◌, map, slice_index_or}
use Rattle.std.specs.declared.option.Option.TheVariants.{Some, None}
use Rattle.std.specs.declared.result.Result.TheVariants.{Ok, Err}
use Rattle.tce_grammar.specs.Grammar.{Line, Statement, skipped, bad, says, IsLine}
use Rattle.tce_grammar.specs.Grammar as grammar
use Rattle.tce_grammar.specs.Code.{names, formula}
use Rattle.tce_spec.specs.Faults.{Fault}
use Rattle.tce_spec.specs.FaultCode.{Shows}
use Rattle.tce_spec.specs.DeclarationLines.{HasNames}
use Rattle.tce_spec.specs.Text as text
use Rattle.tce_spec.specs.Text.{head_of, IsHead}
use Rattle.tce_spec.specs.declared.text.Head.{Head}
use Rattle.tce_spec.specs.declared.text.Read.{Read}
use Rattle.tce_spec.specs.declared.text.Read.TheVariants.{Declared, Formula}
use Rattle.tce_spec.specs.declared.fault.SpecFault.{SpecFault}
use Rattle.tce_grammar.specs.Lines.{lines}
use Rattle.tce_grammar.specs.Reading.{line_of}
use Rattle.tce_spec.specs.Declarations.{Declarations, nothing_declared}

abbrev pub head : Head → text.Head
head h = record { declarations = h.declarations; line = h.line; result = h.result.now; indexes = names h.indexes.items; written = formula h.formula }

-- what the line of the formula says
abbrev pub formula_line : Head → Statement
formula_line h = grammar.formula h.result.now (names h.indexes.items) (formula h.formula)

abbrev pub fault_in : {A : Type 0} → Result A Fault → Option Fault
fault_in (Ok x) = None
fault_in (Err fault) = Some fault

-- the program answers what a text is found to say, or want of memory
abbrev pub Answers : Result text.Head Fault → Result Head SpecFault → Type 0
Answers found (Ok h) = found ≡ Ok (head h)
Answers found (Err f) = Shows (fault_in found) f

abbrev pub AnswersFault : Option Fault → Result (Unit {0}) SpecFault → Type 0
AnswersFault found (Ok u) = found ≡ None
AnswersFault found (Err f) = Shows found f

-- names stand where names do
abbrev pub LineHasNames : Line → Type 0
LineHasNames skipped = ⊤
LineHasNames bad = ⊤
LineHasNames (says s) = HasNames s

-- the head of lines of which the first was read
abbrev pub head_behind : ℕ → Read → List Line → Result text.Head Fault
head_behind line (Declared d) rest = head_of (line + 1) d rest
head_behind line (Formula h) rest = Ok (head h)

-- a head that was read has this line, and this text behind it
abbrev pub StandsAt : ℕ → List ℕ → Read → Type 0
StandsAt line rest (Declared d) = ⊤
StandsAt line rest (Formula h) = (h.line ≡ line) × (h.rest.now ≡ rest)

-- whatever head the text is found to have, the program answers it
abbrev pub AnswersHead : List ℕ → Result Head SpecFault → Type 0
AnswersHead bytes result = (found : Result text.Head Fault) → IsHead bytes found → Answers found result

-- the head of the lines of a text, as they are read
abbrev pub head_of_text : List ℕ → Result text.Head Fault
head_of_text bytes = head_of 1 nothing_declared (map line_of (lines bytes))

-- the line is at fault, whatever stands behind it
abbrev pub ShowsFirst : ℕ → Declarations → List ℕ → SpecFault → Type 0
ShowsFirst line d first fault = (behind : List Line) → Shows (fault_in (head_of line d (line_of first ∷ behind))) fault

-- the line of this number says the formula that was found
abbrev pub IsFormulaLine : List ℕ → Head → Type 0
IsFormulaLine bytes found = IsLine (slice_index_or (lines bytes) (found.line - 1) []) (says (formula_line found))
