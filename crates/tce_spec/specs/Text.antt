-- What the lines of a text declare up to its formula, or the first fault of the first faulty line.
use Rattle.std.specs.Prelude.{◌≡◌, ℕ, ◌+◌, List, [], ◌∷◌, length, Option, Result, nat_lt, if◌then◌else◌}
use Rattle.std.specs.declared.option.Option.TheVariants.{Some, None}
use Rattle.std.specs.declared.result.Result.TheVariants.{Ok, Err}
use Rattle.tce_space.specs.Limits.{max_spec_bytes}
use Rattle.tce_grammar.specs.Lines.{lines}
use Rattle.tce_grammar.specs.Formula.{Formula}
use Rattle.tce_grammar.specs.Grammar.{Line, skipped, bad, says, AreLines, formula}
use Rattle.tce_spec.specs.Declarations.{Declarations, nothing_declared}
use Rattle.tce_spec.specs.Faults.{Fault, too_long, bad_text}
use Rattle.tce_spec.specs.DeclarationLines.{statement_fault, with_statement}

-- the formula of a text, the number of its line, and the declarations in front of it
pub record Head : Type 0 where
  pub declarations : Declarations
  pub line : ℕ
  pub result : List ℕ
  pub indexes : List (List ℕ)
  pub written : Formula

-- a fault, or what comes where there is none
abbrev pub unless : {A : Type 0} → Option Fault → Result A Fault → Result A Fault
unless None next = next
unless (Some fault) next = Err fault

-- what lines say behind these declarations; `line` is the number of the first of the lines
abbrev pub head_of : ℕ → Declarations → List Line → Result Head Fault
head_of line d [] = Err (bad_text line)
head_of line d (skipped ∷ rest) = head_of (line + 1) d rest
head_of line d (bad ∷ rest) = Err (bad_text line)
head_of line d (says (formula result indexes f) ∷ rest) =
    Ok (record { declarations = d; line = line; result = result; indexes = indexes; written = f })
head_of line d (says s ∷ rest) = unless (statement_fault line d s) (head_of (line + 1) (with_statement d s) rest)

-- behind the formula every line is skipped; `line` is the number of the first of these lines
abbrev pub closing_fault : ℕ → List Line → Option Fault
closing_fault line [] = None
closing_fault line (skipped ∷ rest) = closing_fault (line + 1) rest
closing_fault line (bad ∷ rest) = Some (bad_text line)
closing_fault line (says statement ∷ rest) = Some (bad_text line)

-- the formula of a text with its declarations, or the fault that stands before them
pub record IsHead (text : List ℕ) (result : Result Head Fault) : Type 0 where
  pub of_lines : List Line
  pub are_lines : AreLines (lines text) of_lines
  pub same : result ≡ (if nat_lt max_spec_bytes (length text) then Err too_long else head_of 1 nothing_declared of_lines)

-- the fault of the lines of a text that stands behind the formula
pub record IsClosing (line : ℕ) (text : List ℕ) (fault : Option Fault) : Type 0 where
  pub of_lines : List Line
  pub are_lines : AreLines (lines text) of_lines
  pub same : fault ≡ closing_fault line of_lines
