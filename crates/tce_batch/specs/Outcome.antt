-- What a text of several formulas specifies, or its fault: that of the first of its texts that has one.
use Rattle.std.specs.Prelude.{◌≡◌, ℕ, ◌^◌, List, [], ◌∷◌, length, Result, nat_lt, if◌then◌else◌}
use Rattle.std.specs.declared.result.Result.TheVariants.{Ok, Err}
use Rattle.std.specs.List.{AllZip}
use Rattle.tce_grammar.specs.Lines.{lines}
use Rattle.tce_grammar.specs.Grammar.{Line, AreLines}
use Rattle.tce_spec.specs.Faults.{Fault, too_long}
use Rattle.tce_spec.specs.Specification.{Specification}
use Rattle.tce_spec.specs.Outcome.{IsOutcome}
use Rattle.tce_batch.specs.Texts.{texts}

abbrev pub with_first : Specification → Result (List Specification) Fault → Result (List Specification) Fault
with_first s (Ok further) = Ok (s ∷ further)
with_first s (Err fault) = Err fault

-- all that is specified, or the first fault
abbrev pub together : List (Result Specification Fault) → Result (List Specification) Fault
together [] = Ok []
together (Ok s ∷ further) = with_first s (together further)
together (Err fault ∷ further) = Err fault

-- each text specifies what it specifies alone; a text that is too long is not looked at
pub record IsBatchOutcome (text : List ℕ) (result : Result (List Specification) Fault) : Type 0 where
  pub of_lines : List Line
  pub are_lines : AreLines (lines text) of_lines
  pub found : List (Result Specification Fault)
  pub each : AllZip IsOutcome (texts text of_lines) found
  pub same : result ≡ (if nat_lt (2 ^ 16) (length text) then Err too_long else together found)
