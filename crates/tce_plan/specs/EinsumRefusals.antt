-- Why `einsum` is refused. No file has a part in it.
use Rattle.std.specs.Prelude.{◌≢◌, ⊤, ℕ, List}
use Rattle.std.specs.declared.result.Result.TheVariants.{Ok, Err}
use Rattle.tce_spec.specs.declared.fault.SpecFault.TheVariants as spec_faults
use Rattle.tce_spec.specs.Specification.{Specification}
use Rattle.tce_einsum.specs.Input.{IsBadText, HasBadSize, HasBadItem}
use Rattle.tce_einsum.specs.Answer.{Produces, ProducesFault, AnswersEinsum}
use Rattle.tce_einsum.specs.declared.fault.EinsumFault.{EinsumFault}
use Rattle.tce_command.specs.declared.trouble.EinsumTrouble.TheVariants.{BadText, BadSize, BadPath, Spec}
use Rattle.tce_command.specs.declared.refusal.Refusal.{Refusal}
use Rattle.tce_command.specs.declared.refusal.Refusal.TheVariants.{Einsum, Disk, Memory}

-- the text and the path are read, and what they produce specifies something
abbrev pub CanWriteEinsum : List ℕ → List ℕ → Type 0
CanWriteEinsum text path = (s : Specification) × Produces text path (Ok s)

-- the text has not the form, or a label of it has not one size; or an item of the path is wrong; or what they produce has a fault. The disk may fail, and memory be wanting, at any place
abbrev pub IsEinsumRefusal : List ℕ → List ℕ → Refusal → Type 0
IsEinsumRefusal text path (Einsum BadText) = IsBadText text
IsEinsumRefusal text path (Einsum (BadSize label)) = HasBadSize text label
IsEinsumRefusal text path (Einsum (BadPath item)) = HasBadItem text path item
IsEinsumRefusal text path (Einsum (Spec fault)) = ProducesFault text path fault × (fault ≢ spec_faults.Memory)
IsEinsumRefusal text path Disk = ⊤
IsEinsumRefusal text path Memory = ⊤
IsEinsumRefusal text path refusal = ⊥

-- the refusal tells the fault of every text and path that have it
abbrev pub TellsFault : EinsumFault → Refusal → Type 0
TellsFault fault refusal = (text path : List ℕ) → AnswersEinsum text path (Err fault) → IsEinsumRefusal text path refusal
