-- Why the command is refused that runs several formulas: the file, then the cost of each formula in turn, then the operands of each in turn that are no earlier results.
use Rattle.std.specs.Prelude.{◌≡◌, ◌⊎◌, ℕ, List, Option, Some, None}
use Rattle.std.specs.Option.{ForSome}
use Rattle.tce_outside.specs.Files.{Files, file}
use Rattle.tce_spec.specs.Specification.{Specification}
use Rattle.tce_job.specs.declared.fault.JobFault.{JobFault}
use Rattle.tce_batch.specs.Refusals.{IsAt, IsBatchCause, IsCauseAt}
use Rattle.tce_batch.specs.declared.fault.BatchFault.{BatchFault}
use Rattle.tce_command.specs.declared.refusal.Refusal.{Refusal}
use Rattle.tce_command.specs.Source.{MayRefuseText}
use Rattle.tce_run.specs.BatchSource.{HasBatch, HasBatchFault, IsBatchSourceRefusal}
use Rattle.tce_run.specs.BatchDone.{CanRunFormulas}
use Rattle.tce_run.specs.Told.{IsToldAs}

-- the file holds formulas that can be run under this budget
abbrev pub CanRunBatch : Files → List ℕ → ℕ → Type 0
CanRunBatch files spec budget = (formulas : List Specification) × HasBatch files spec formulas × CanRunFormulas files formulas budget

-- the refusal tells the first fault of the formulas by the specification of the one that has it
pub record IsFormulaRefusal (files : Files) (formulas : List Specification) (budget : ℕ) (refusal : Refusal) : Type 0 where
  pub formula : ℕ
  pub fault : JobFault
  pub cause : IsCauseAt (Some files) formulas budget formula fault
  pub told : IsAt formulas formula (λ number s. IsToldAs s fault refusal)

-- why the command is refused: for the file of the formulas, or, where it holds some, for what these need. The disk may fail, and memory be wanting, at any place
abbrev pub IsBatchRefusal : Files → List ℕ → ℕ → Refusal → Type 0
IsBatchRefusal files spec budget refusal =
    IsBatchSourceRefusal spec (file files spec) refusal
    ⊎ ((formulas : List Specification) × HasBatch files spec formulas × IsFormulaRefusal files formulas budget refusal)

-- the refusal tells the fault by the specification of its formula
abbrev pub IsToldAt : List Specification → BatchFault → Refusal → Type 0
IsToldAt formulas refused refusal = IsAt formulas refused.formula (λ number s. IsToldAs s refused.fault refusal)

-- the refusal tells a fault that runs of the formulas may have over a disk that tells nothing
pub record MayRefuseFormulas (formulas : List Specification) (budget : ℕ) (refusal : Refusal) : Type 0 where
  pub refused : BatchFault
  pub told : IsToldAt formulas refused refusal
  pub cause : IsBatchCause None formulas budget refused

-- how the command may be refused, whatever the disk tells
abbrev pub MayRefuseBatch : List ℕ → ℕ → Refusal → Type 0
MayRefuseBatch spec budget refusal = MayRefuseText HasBatchFault spec refusal ⊎ ((formulas : List Specification) × MayRefuseFormulas formulas budget refusal)

-- it is refused so, and where the disk tells its files for what they are
abbrev pub IsBatchRefusalOn : Option Files → List ℕ → ℕ → Refusal → Type 0
IsBatchRefusalOn told spec budget refusal = MayRefuseBatch spec budget refusal × ForSome told (λ files. IsBatchRefusal files spec budget refusal)
