-- What the command leaves and reports.
use Rattle.std.specs.Prelude.{◌≡◌, ◌⊎◌, ℕ, ◌≤◌, List, [], ◌∷◌, ◌++◌, Option}
use Rattle.std.specs.Option.{ForSome, option_map}
use Rattle.tce_outside.specs.Files.{Files, others}
use Rattle.tce_array.specs.declared.form.Form.TheVariants.{One}
use Rattle.tce_array.specs.Forms.{form_len}
use Rattle.tce_nesting.specs.declared.plan.Plan.{Plan}
use Rattle.tce_search.specs.LeastPlan.{IsLeastPlan}
use Rattle.tce_report.specs.NodeLine.{stated}
use Rattle.tce_report.specs.Report.{run_text}
use Rattle.tce_spec.specs.Specification.{Specification}
use Rattle.tce_spec.specs.Operands.{shape_of}
use Rattle.tce_job.specs.TensorFiles.{file_of}
use Rattle.tce_job.specs.ResultBytes.{with_result}
use Rattle.tce_job.specs.Laws.{LeavesNoHalfResult}
use Rattle.tce_job.specs.Takings.{tile_take}
use Rattle.tce_job.specs.Refusals.{CanRun}
use Rattle.tce_command.specs.declared.refusal.Refusal.{Refusal}
use Rattle.tce_command.specs.declared.refusal.Refusal.TheVariants.{Disk, Memory}
use Rattle.tce_command.specs.Source.{HasSpecification}

-- the file specifies what was run, and all that the run needs was there; the result's file has the bytes of the formula, and no other file differs; the room gave once, the memory of a plan whose fusion is legal and least and the words for tiles, which are within the budget; and the report states that plan, these words, the result's file and its length
pub record IsRun (before after : Option Files) (taken taken_after : List (ℕ × ℕ)) (spec : List ℕ) (budget : ℕ) (report : List ℕ) : Type 0 where
  pub specification : Specification
  pub specified : ForSome before (λ files. HasSpecification files spec specification)
  pub able : ForSome before (λ files. CanRun files specification budget)
  pub written : after ≡ option_map (with_result specification) before
  pub plan : Plan
  pub least : IsLeastPlan specification.declarations.space specification.tree plan
  pub taking : taken_after ≡ taken ++ (plan.memory, tile_take specification budget) ∷ []
  pub within : tile_take specification budget ≤ budget
  pub reported : report
      ≡ run_text specification.declarations.space specification.tree (stated plan) (tile_take specification budget) (file_of specification specification.result) (form_len One (shape_of specification specification.result))

-- the room gave once more, the memory of a least plan of the specification in the file and the words for tiles, and all that the run needs was there
pub record IsTaking (before : Option Files) (taken taken_after : List (ℕ × ℕ)) (spec : List ℕ) (budget : ℕ) : Type 0 where
  pub specification : Specification
  pub specified : ForSome before (λ files. HasSpecification files spec specification)
  pub able : ForSome before (λ files. CanRun files specification budget)
  pub plan : Plan
  pub least : IsLeastPlan specification.declarations.space specification.tree plan
  pub taking : taken_after ≡ taken ++ (plan.memory, tile_take specification budget) ∷ []

-- what a refused command leaves of the room: its takings as they were, or, after a failure or want of memory, one more
abbrev pub IsRoomLeft : Refusal → Option Files → List (ℕ × ℕ) → List (ℕ × ℕ) → List ℕ → ℕ → Type 0
IsRoomLeft Disk before taken taken_after spec budget = (taken_after ≡ taken) ⊎ IsTaking before taken taken_after spec budget
IsRoomLeft Memory before taken taken_after spec budget = (taken_after ≡ taken) ⊎ IsTaking before taken taken_after spec budget
IsRoomLeft refusal before taken taken_after spec budget = taken_after ≡ taken

-- no file differs but that of the result of the specification in the file, and in its place is no half of a result
pub record OthersStay (spec : List ℕ) (before after : Option Files) : Type 0 where
  pub specification : Specification
  pub specified : ForSome before (λ files. HasSpecification files spec specification)
  pub others_are : others (file_of specification specification.result) after ≡ others (file_of specification specification.result) before
  pub no_half : LeavesNoHalfResult specification before after

-- no file differs, or, where the file holds a specification, that of its result alone
abbrev pub OnlyResultDiffers : List ℕ → Option Files → Option Files → Type 0
OnlyResultDiffers spec before after = (after ≡ before) ⊎ OthersStay spec before after
