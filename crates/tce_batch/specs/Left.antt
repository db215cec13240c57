-- What refused formulas leave: files and takings of the same formulas.
use Rattle.std.specs.Prelude.{◌≡◌, ◌⊎◌, ℕ, ◌+◌, ◌≤◌, List, length, take, slice_get, Option, Some}
use Rattle.std.specs.Option.{ForSome, option_map}
use Rattle.tce_outside.specs.Files.{Files, others}
use Rattle.tce_spec.specs.Specification.{Specification}
use Rattle.tce_job.specs.TensorFiles.{file_of}
use Rattle.tce_job.specs.Laws.{LeavesNoHalfResult}
use Rattle.tce_job.specs.declared.fault.JobFault.{JobFault}
use Rattle.tce_job.specs.declared.fault.JobFault.TheVariants.{Array, Disk, Memory}
use Rattle.tce_job.specs.Several.{files_after, HasTakenEach}
use Rattle.tce_batch.specs.Refusals.{IsAt}
use Rattle.tce_batch.specs.declared.fault.BatchFault.{BatchFault}

-- the files that the first formulas leave, that many of them
abbrev pub files_at : Option Files → List Specification → ℕ → Option Files
files_at before batch count = option_map (files_after (take count batch)) before

-- every file but the result of a formula is as the formulas in front of it left it, and in the place of its result is no half of one
pub record IsCutOffAt (before after : Option Files) (batch : List Specification) (number : ℕ) (s : Specification) : Type 0 where
  pub others_are : others (file_of s s.result) after ≡ others (file_of s s.result) (files_at before batch number)
  pub no_half : LeavesNoHalfResult s (files_at before batch number) after

-- the room gave for the formulas in front of one, or for that one too
abbrev pub HasTakenTo : List (ℕ × ℕ) → List (ℕ × ℕ) → List Specification → ℕ → ℕ → Type 0
HasTakenTo taken taken_after batch budget number = HasTakenEach (take number batch) budget taken taken_after ⊎ HasTakenEach (take (number + 1) batch) budget taken taken_after

-- memory was wanting at a formula: those in front of it are complete and no other file differs, or it is complete too
abbrev pub HasEndedAt : Option Files → Option Files → List (ℕ × ℕ) → List (ℕ × ℕ) → List Specification → ℕ → ℕ → Type 0
HasEndedAt before after taken taken_after batch budget number =
    ((after ≡ files_at before batch number) × HasTakenTo taken taken_after batch budget number)
    ⊎ ((after ≡ files_at before batch (number + 1)) × HasTakenEach (take (number + 1) batch) budget taken taken_after)

-- after a failure at a formula its result alone is not complete; after want of memory all are; where an operand is refused no file changed, and nothing was taken but where the disk tells no files; after any other refusal all is as it was
abbrev pub IsLeftAt : Option Files → Option Files → List (ℕ × ℕ) → List (ℕ × ℕ) → List Specification → ℕ → ℕ → JobFault → Type 0
IsLeftAt before after taken taken_after batch budget formula Disk = IsAt batch formula (λ number s. IsCutOffAt before after batch number s × HasTakenTo taken taken_after batch budget number)
IsLeftAt before after taken taken_after batch budget formula Memory = IsAt batch formula (λ number s. HasEndedAt before after taken taken_after batch budget number)
IsLeftAt before after taken taken_after batch budget formula (Array t fault) =
    (after ≡ before) × ForSome before (λ _. taken_after ≡ taken) × IsAt batch formula (λ number s. (taken_after ≡ taken) ⊎ HasTakenEach (take number batch) budget taken taken_after)
IsLeftAt before after taken taken_after batch budget formula fault = (after ≡ before) × (taken_after ≡ taken)

abbrev pub IsLeft : Option Files → Option Files → List (ℕ × ℕ) → List (ℕ × ℕ) → List Specification → ℕ → BatchFault → Type 0
IsLeft before after taken taken_after batch budget refused = IsLeftAt before after taken taken_after batch budget refused.formula refused.fault

-- what formulas leave in all outcomes: the first ones are complete, that many of them; no other file differs, or that of the result of the next one alone; and the room gave for those that are complete, or for the next one too
pub record HaveRunTo (before after : Option Files) (taken taken_after : List (ℕ × ℕ)) (batch : List Specification) (budget : ℕ) : Type 0 where
  pub count : ℕ
  pub within : count ≤ length batch
  pub files_are : (after ≡ files_at before batch count) ⊎ ((s : Specification) × (slice_get batch count ≡ Some s) × IsCutOffAt before after batch count s)
  pub takings : HasTakenTo taken taken_after batch budget count
