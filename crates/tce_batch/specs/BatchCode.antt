-- What a `Batch` shows of its parts, and what the program answers.
use Rattle.std.specs.Prelude.{ℕ, ◌≡◌, ◌<◌, List, length, map, take, Result, All, ◌∷◌, IfOk, IfErr, Option}
use Rattle.std.specs.declared.result.Result.TheVariants.{Ok, Err}
use Rattle.std.specs.Borrow.{Bor}
use Rattle.tce_spec.specs.Declarations.{Declarations, HaveNames}
use Rattle.tce_spec.specs.Faults.{Fault}
use Rattle.tce_spec.specs.FaultCode.{Shows}
use Rattle.tce_spec.specs.TextCode.{fault_in}
use Rattle.tce_spec.specs.declared.text.Head.{Head}
use Rattle.tce_spec.specs.declared.fault.SpecFault.{SpecFault}
use Rattle.tce_spec.specs.Text.{closing_fault}
use Rattle.tce_spec.specs.declared.formula.Contraction.{Contraction}
use Rattle.tce_spec.specs.Specification.{Specification, IsSpecification}
use Rattle.tce_spec.specs.SpecCode.{specification_of, IsKept}
use Rattle.tce_spec.specs.OutcomeCode.{HasHead}
use Rattle.tce_grammar.specs.Code.{names, formula}
use Rattle.tce_grammar.specs.declared.formula.Formula.{Formula}
use Rattle.tce_grammar.specs.Lines.{lines}
use Rattle.tce_grammar.specs.Reading.{line_of}
use Rattle.tce_batch.specs.Outcome.{IsBatchOutcome, together}
use Rattle.tce_batch.specs.Reading.{specified_by, of_line, of_lines, as_found, as_list, without_formulas}

-- the specification of each formula
abbrev pub specifications_of : Declarations → List Contraction → List Specification
specifications_of d cs = map (specification_of d) cs

-- there is a formula, and each is a specification whose tensors have names
pub record AreKept (d : Declarations) (cs : List Contraction) : Type 0 where
  pub some : 0 < length cs
  pub each : All (IsKept d) cs
  pub named : HaveNames d.tensors

-- all are over these declarations
abbrev pub AreOver : Declarations → List Specification → Type 0
AreOver declarations batch = All (λ (s : Specification). s.declarations ≡ declarations) batch

-- one specification or more, all over the same declarations
pub record IsBatch (batch : List Specification) : Type 0 where
  pub some : 0 < length batch
  pub declarations : Declarations
  pub same : AreOver declarations batch
  pub rules : All IsSpecification batch

-- the results of the first formulas, that many of them
abbrev pub results_before : List Specification → ℕ → List ℕ
results_before batch number = map (λ (s : Specification). s.result) (take number batch)

-- the program answers what a text is found to specify, or want of memory
abbrev pub Answers : Result (List Specification) Fault → Result (List Specification) SpecFault → Type 0
Answers found (Ok specs) = found ≡ Ok specs
Answers found (Err f) = Shows (fault_in found) f

-- the program answers what a formula line specifies, or its fault
abbrev pub HasFormula : ℕ → Declarations → List ℕ → List (Bor (List ℕ)) → Formula → Result Contraction SpecFault → Type 0
HasFormula line d name indexes written result = IfOk result (λ c. specified_by line d name (names indexes) (formula written) ≡ Ok (specification_of d c))

abbrev pub HasFormulaFault : ℕ → Declarations → List ℕ → List (Bor (List ℕ)) → Formula → Result Contraction SpecFault → Type 0
HasFormulaFault line d name indexes written result = IfErr result (Shows (fault_in (specified_by line d name (names indexes) (formula written))))

-- what is read of a line is what it specifies, where it is a formula line; or this is its fault
abbrev pub ReadsLine : ℕ → Declarations → List ℕ → Option Contraction → Type 0
ReadsLine line d text read = of_line line d (line_of text) ≡ as_found d (as_list read)

abbrev pub line_fault : ℕ → Declarations → List ℕ → Option Fault
line_fault line d text = fault_in (together (of_line line d (line_of text)))

-- the fault of the first line of a text behind a formula that is neither skipped nor a formula line
abbrev pub behind_fault : ℕ → List ℕ → Option Fault
behind_fault first_number text = closing_fault first_number (without_formulas (map line_of (lines text)))

-- what is read behind the first contraction is what the formula lines of a text specify; or this is the first fault of them
abbrev pub ReadsFurther : Declarations → Contraction → ℕ → List ℕ → List Contraction → Type 0
ReadsFurther d first first_number text read = Ok (specification_of d first) ∷ of_lines first_number d (map line_of (lines text)) ≡ as_found d read

abbrev pub further_fault : ℕ → Declarations → List ℕ → Option Fault
further_fault first_number d text = fault_in (together (of_lines first_number d (map line_of (lines text))))

-- what is read is what each text with this head specifies; or this is the fault of each
abbrev pub ReadsLines : Head → List Contraction → Type 0
ReadsLines h read = (text : List ℕ) (found : Result (List Specification) Fault) → HasHead text h → IsBatchOutcome text found → found ≡ Ok (specifications_of h.declarations read)

abbrev pub LinesShow : Head → SpecFault → Type 0
LinesShow h f = (text : List ℕ) (found : Result (List Specification) Fault) → HasHead text h → IsBatchOutcome text found → Shows (fault_in found) f

-- the program answers what the text specifies as a batch
abbrev pub AnswersBatch : List ℕ → Result (List Specification) SpecFault → Type 0
AnswersBatch text result = (found : Result (List Specification) Fault) → IsBatchOutcome text found → Answers found result
