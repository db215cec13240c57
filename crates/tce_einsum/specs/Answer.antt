-- What is answered of the text of an einsum and a path.
use Rattle.std.specs.Prelude.{⊤, ℕ, List, Result}
use Rattle.std.specs.declared.option.Option.TheVariants.{Some}
use Rattle.std.specs.declared.result.Result.TheVariants.{Ok, Err}
use Rattle.tce_spec.specs.Faults.{Fault}
use Rattle.tce_spec.specs.FaultCode.{Shows}
use Rattle.tce_spec.specs.declared.fault.SpecFault.{SpecFault}
use Rattle.tce_spec.specs.declared.fault.SpecFault.TheVariants as spec_faults
use Rattle.tce_spec.specs.Specification.{Specification}
use Rattle.tce_spec.specs.Outcome.{IsOutcome}
use Rattle.tce_einsum.specs.Text.{Einsum}
use Rattle.tce_einsum.specs.Path.{Item}
use Rattle.tce_einsum.specs.Input.{IsInput, IsBadText, HasBadSize, HasBadItem}
use Rattle.tce_einsum.specs.Produced.{produced_text}
use Rattle.tce_einsum.specs.declared.fault.EinsumFault.{EinsumFault}
use Rattle.tce_einsum.specs.declared.fault.EinsumFault.TheVariants.{BadText, BadSize, BadPath, Spec, Memory}

-- the text and the path are read, and the text that they produce has this outcome
pub record Produces (text path : List ℕ) (found : Result Specification Fault) : Type 0 where
  pub einsum : Einsum
  pub items : List Item
  pub input : IsInput text path einsum items
  pub outcome : IsOutcome (produced_text einsum items) found

-- the text that is produced has this fault
pub record ProducesFault (text path : List ℕ) (fault : SpecFault) : Type 0 where
  pub found : Fault
  pub produced : Produces text path (Err found)
  pub shown : Shows (Some found) fault

-- the specification of the produced text, or the first fault
abbrev pub AnswersEinsum : List ℕ → List ℕ → Result Specification EinsumFault → Type 0
AnswersEinsum text path (Ok s) = Produces text path (Ok s)
AnswersEinsum text path (Err BadText) = IsBadText text
AnswersEinsum text path (Err (BadSize label)) = HasBadSize text label
AnswersEinsum text path (Err (BadPath k)) = HasBadItem text path k
AnswersEinsum text path (Err (Spec spec_faults.Memory)) = ⊥
AnswersEinsum text path (Err (Spec fault)) = ProducesFault text path fault
AnswersEinsum text path (Err Memory) = ⊤
