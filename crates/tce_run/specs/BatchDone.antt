-- What the command leaves and reports that runs several formulas.
use Rattle.std.specs.Prelude.{◌≡◌, ◌⊎◌, ℕ, ◌≤◌, List, length, slice_get, All, Option, Some}
use Rattle.std.specs.Option.{ForSome, option_map}
use Rattle.tce_outside.specs.Files.{Files, others}
use Rattle.tce_spec.specs.Specification.{Specification}
use Rattle.tce_job.specs.TensorFiles.{file_of}
use Rattle.tce_job.specs.Laws.{LeavesNoHalfResult}
use Rattle.tce_job.specs.Takings.{tile_take}
use Rattle.tce_job.specs.Several.{files_after, OnlyResultsDiffer}
use Rattle.tce_batch.specs.Reports.{HasRun}
use Rattle.tce_batch.specs.Refusals.{AffordableBelow, SourcesBelow}
use Rattle.tce_batch.specs.Left.{files_at, HaveRunTo}
use Rattle.tce_command.specs.Refusals.{IsFree}
use Rattle.tce_command.specs.declared.refusal.Refusal.{Refusal}
use Rattle.tce_command.specs.declared.refusal.Refusal.TheVariants.{Disk, Memory}
use Rattle.tce_run.specs.BatchSource.{HasBatch}

-- all that the formulas need is there: each can be afforded, and each operand that is no earlier result has its file
pub record CanRunFormulas (files : Files) (formulas : List Specification) (budget : ℕ) : Type 0 where
  pub affordable : AffordableBelow formulas budget (length formulas)
  pub sources : SourcesBelow files formulas (length formulas)

-- the file specifies the formulas, and all that they need was there; the files are those that the formulas leave one after the other; for each in turn the room gave the memory of a least plan and the words for tiles, which are within the budget; and the report has the lines of each run
pub record IsBatchRun (before after : Option Files) (taken taken_after : List (ℕ × ℕ)) (spec : List ℕ) (budget : ℕ) (report : List ℕ) : Type 0 where
  pub formulas : List Specification
  pub specified : ForSome before (λ files. HasBatch files spec formulas)
  pub able : ForSome before (λ files. CanRunFormulas files formulas budget)
  pub written : after ≡ option_map (files_after formulas) before
  pub within : All (λ (s : Specification). tile_take s budget ≤ budget) formulas
  pub run : HasRun formulas budget taken taken_after report

-- files and takings are those of the first formulas of the file, in turn
pub record IsBatchPrefix (before after : Option Files) (taken taken_after : List (ℕ × ℕ)) (spec : List ℕ) (budget : ℕ) : Type 0 where
  pub formulas : List Specification
  pub specified : ForSome before (λ files. HasBatch files spec formulas)
  pub run : HaveRunTo before after taken taken_after formulas budget

-- all is as it was, or the first formulas were run; the takings grew only after a failure or want of memory, where the disk tells its files
pub record IsBatchRoomLeft (refusal : Refusal) (before after : Option Files) (taken taken_after : List (ℕ × ℕ)) (spec : List ℕ) (budget : ℕ) : Type 0 where
  pub takings : ((after ≡ before) × (taken_after ≡ taken)) ⊎ IsBatchPrefix before after taken taken_after spec budget
  pub untaken : (IsFree refusal → ⊥) → ForSome before (λ _. taken_after ≡ taken)

-- the files are those that the first formulas leave
pub record AreFirstRun (before after : Option Files) (spec : List ℕ) : Type 0 where
  pub formulas : List Specification
  pub specified : ForSome before (λ files. HasBatch files spec formulas)
  pub count : ℕ
  pub within : count ≤ length formulas
  pub files_are : after ≡ files_at before formulas count

-- every file but the result of one formula is as the formulas in front of it left it, and in its place is no half of a result
pub record IsCutOff (before after : Option Files) (spec : List ℕ) : Type 0 where
  pub formulas : List Specification
  pub specified : ForSome before (λ files. HasBatch files spec formulas)
  pub number : ℕ
  pub formula : Specification
  pub at : slice_get formulas number ≡ Some formula
  pub others_are : others (file_of formula formula.result) after ≡ others (file_of formula formula.result) (files_at before formulas number)
  pub no_half : LeavesNoHalfResult formula (files_at before formulas number) after

-- what a refused command leaves of the files: after a failure those in front of one formula are complete, after want of memory the first ones are and no other file differs, and after any other refusal no file changed
abbrev pub IsBatchLeft : Refusal → Option Files → Option Files → List ℕ → Type 0
IsBatchLeft Disk before after spec = (after ≡ before) ⊎ IsCutOff before after spec
IsBatchLeft Memory before after spec = (after ≡ before) ⊎ AreFirstRun before after spec
IsBatchLeft refusal before after spec = after ≡ before

-- no file differs but those of the results of the formulas in the file
pub record BatchOthersStay (spec : List ℕ) (before after : Option Files) : Type 0 where
  pub formulas : List Specification
  pub specified : ForSome before (λ files. HasBatch files spec formulas)
  pub others_are : OnlyResultsDiffer formulas before after

-- no file differs, or, where the file holds formulas, those of their results alone
abbrev pub OnlyBatchDiffers : List ℕ → Option Files → Option Files → Type 0
OnlyBatchDiffers spec before after = (after ≡ before) ⊎ BatchOthersStay spec before after
