-- What the program answers of a text.
use Rattle.std.specs.Prelude.{◌≡◌, IsTrue, Result, ℕ, List, drop}
use Rattle.std.specs.declared.result.Result.TheVariants.{Ok, Err}
use Rattle.tce_space.specs.Name.{is_name}
use Rattle.tce_grammar.specs.Lines.{lines}
use Rattle.tce_grammar.specs.Grammar.{AreNames}
use Rattle.tce_grammar.specs.Code.{names, formula}
use Rattle.tce_spec.specs.Faults.{Fault}
use Rattle.tce_spec.specs.FaultCode.{Shows}
use Rattle.tce_spec.specs.TextCode.{fault_in, AnswersHead}
use Rattle.tce_spec.specs.declared.text.Head.{Head}
use Rattle.tce_spec.specs.declared.fault.SpecFault.{SpecFault}
use Rattle.tce_spec.specs.Places.{IsNamed}
use Rattle.tce_spec.specs.declared.formula.Contraction.{Contraction}
use Rattle.tce_spec.specs.Specification.{Specification}
use Rattle.tce_spec.specs.SpecCode.{specification_of}
use Rattle.tce_spec.specs.Outcome.{IsOutcome}

-- the program answers what a text is found to specify, or want of memory
abbrev pub Answers : Result Specification Fault → Result Specification SpecFault → Type 0
Answers found (Ok s) = found ≡ Ok s
Answers found (Err f) = Shows (fault_in found) f

-- whatever the text is found to specify, the program answers it
abbrev pub AnswersText : List ℕ → Result Specification SpecFault → Type 0
AnswersText text result = (found : Result Specification Fault) → IsOutcome text found → Answers found result

-- the formula line of a head has names
abbrev pub FormulaHasNames : Head → Type 0
FormulaHasNames h = IsTrue (is_name h.result.now) × AreNames (names h.indexes.items) × IsNamed (formula h.formula)

-- a text has this head, and the lines of its rest behind it
abbrev pub HasHead : List ℕ → Head → Type 0
HasHead text h = AnswersHead text (Ok h) × (lines h.rest.now ≡ drop h.line (lines text))

-- each text with this head specifies this; or this is the fault of each
abbrev pub SpecifiesAs : Head → Contraction → Type 0
SpecifiesAs h c = (text : List ℕ) (found : Result Specification Fault) → HasHead text h → IsOutcome text found → found ≡ Ok (specification_of h.declarations c)

abbrev pub HasFault : Head → SpecFault → Type 0
HasFault h f = (text : List ℕ) (found : Result Specification Fault) → HasHead text h → IsOutcome text found → Shows (fault_in found) f
