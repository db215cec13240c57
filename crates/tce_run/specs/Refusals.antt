-- Why the command is refused, by the first cause in order: the specification, the budget, the memory for intermediates, the first operand that is refused.
use Rattle.std.specs.Prelude.{◌≡◌, ◌⊎◌, ⊤, ℕ, ◌<◌, ◌≤◌, List, Option, None}
use Rattle.std.specs.Option.{ForSome}
use Rattle.tce_space.specs.Limits.{max_memory}
use Rattle.tce_outside.specs.Files.{Files, file}
use Rattle.tce_array.specs.declared.fault.ArrayFault.{ArrayFault}
use Rattle.tce_array.specs.declared.fault.ArrayFault.TheVariants.{NoFile}
use Rattle.tce_spec.specs.Specification.{Specification}
use Rattle.tce_job.specs.TensorFiles.{name_of, file_of}
use Rattle.tce_job.specs.Takings.{least_budget}
use Rattle.tce_job.specs.Opened.{IsRefused}
use Rattle.tce_job.specs.Refusals.{IsLeastMemory, IsAffordable, CanRun}
use Rattle.tce_job.specs.Told.{IsRefusalOf}
use Rattle.tce_job.specs.declared.fault.JobFault.{JobFault}
use Rattle.tce_command.specs.Report.{fault_of}
use Rattle.tce_command.specs.declared.refusal.Refusal.{Refusal}
use Rattle.tce_command.specs.declared.refusal.Refusal.TheVariants.{Missing, Array, Budget, Intermediates, Disk, Memory}
use Rattle.tce_command.specs.Source.{HasSpecification, IsSourceRefusal, MayRefuseSource}
use Rattle.tce_run.specs.Told.{IsToldAs}

-- the file holds a specification that can be run under this budget
abbrev pub CanRunFile : Files → List ℕ → ℕ → Type 0
CanRunFile files spec budget = (s : Specification) × HasSpecification files spec s × CanRun files s budget

-- the run can be afforded, and this tensor is the first operand that is refused, with this fault of its file
pub record IsFirstRefused (files : Files) (s : Specification) (budget t : ℕ) (fault : ArrayFault) : Type 0 where
  pub affordable : IsAffordable s budget
  pub refused : IsRefused files s (record { tensor = t; fault = fault })

-- why a specification is refused under this budget: an operand that is not there is told by its file, one that is no array of its shape by its name. The disk may fail, and memory be wanting, at any place
abbrev pub IsJobRefusal : Files → Specification → ℕ → Refusal → Type 0
IsJobRefusal files s budget (Budget least) = (least ≡ least_budget s) × (budget < least)
IsJobRefusal files s budget (Intermediates memory) = (least_budget s ≤ budget) × IsLeastMemory s memory × (max_memory < memory)
IsJobRefusal files s budget (Missing missing) = (t : ℕ) × IsFirstRefused files s budget t NoFile × (missing.bytes ≡ file_of s t)
IsJobRefusal files s budget (Array tensor trouble) = (t : ℕ) × IsFirstRefused files s budget t (fault_of trouble) × (tensor.bytes ≡ name_of s t)
IsJobRefusal files s budget Disk = ⊤
IsJobRefusal files s budget Memory = ⊤
IsJobRefusal files s budget refusal = ⊥

-- why the command is refused: for the file of the specification, or, where it holds one, for what the run needs
abbrev pub IsRunRefusal : Files → List ℕ → ℕ → Refusal → Type 0
IsRunRefusal files spec budget refusal =
    IsSourceRefusal spec (file files spec) refusal
    ⊎ ((s : Specification) × HasSpecification files spec s × IsJobRefusal files s budget refusal)

-- the refusal tells a fault that a run of the specification may have over a disk that tells nothing
pub record MayRefuseJob (s : Specification) (budget : ℕ) (refusal : Refusal) : Type 0 where
  pub fault : JobFault
  pub told : IsToldAs s fault refusal
  pub cause : IsRefusalOf None s budget fault

-- how the command may be refused, whatever the disk tells
abbrev pub MayRefuseRun : List ℕ → ℕ → Refusal → Type 0
MayRefuseRun spec budget refusal = MayRefuseSource spec refusal ⊎ ((s : Specification) × MayRefuseJob s budget refusal)

-- it is refused so, and where the disk tells its files for what they are
abbrev pub IsRunRefusalIfTold : Option Files → List ℕ → ℕ → Refusal → Type 0
IsRunRefusalIfTold told spec budget refusal = MayRefuseRun spec budget refusal × ForSome told (λ files. IsRunRefusal files spec budget refusal)
