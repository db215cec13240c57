-- What a text specifies, or its fault: the first line with a fault decides.
use Rattle.std.specs.Prelude.{◌≡◌, ℕ, ◌+◌, ◌^◌, List, length, drop, Result, nat_lt, if◌then◌else◌}
use Rattle.std.specs.declared.result.Result.TheVariants.{Ok, Err}
use Rattle.tce_grammar.specs.Lines.{lines}
use Rattle.tce_grammar.specs.Grammar.{Line, AreLines}
use Rattle.tce_spec.specs.Declarations.{nothing_declared}
use Rattle.tce_spec.specs.Faults.{Fault, too_long}
use Rattle.tce_spec.specs.Text.{Head, head_of, closing_fault, unless}
use Rattle.tce_spec.specs.FormulaFaults.{formula_fault}
use Rattle.tce_spec.specs.Meaning.{meaning, tensor_of, indexes_of}
use Rattle.tce_spec.specs.Specification.{Specification}

-- what a formula without a fault specifies
abbrev pub specified : Head → Specification
specified head = record {
  declarations = head.declarations;
  result = tensor_of head.declarations head.result;
  indexes = indexes_of head.declarations.space head.indexes;
  tree = meaning head.declarations head.written;
}

-- the fault of the formula's line, or of a line behind it, or what they specify
abbrev pub behind : List Line → Head → Result Specification Fault
behind of_lines head =
    unless (formula_fault head.line head.declarations head.result head.indexes head.written)
    (unless (closing_fault (head.line + 1) (drop head.line of_lines)) (Ok (specified head)))

abbrev pub outcome_in : List Line → Result Head Fault → Result Specification Fault
outcome_in of_lines (Ok head) = behind of_lines head
outcome_in of_lines (Err fault) = Err fault

-- what lines specify
abbrev pub outcome : List Line → Result Specification Fault
outcome of_lines = outcome_in of_lines (head_of 1 nothing_declared of_lines)

-- a text that is too long is not looked at
pub record IsOutcome (text : List ℕ) (result : Result Specification Fault) : Type 0 where
  pub of_lines : List Line
  pub are_lines : AreLines (lines text) of_lines
  pub same : result ≡ (if nat_lt (2 ^ 16) (length text) then Err too_long else outcome of_lines)
