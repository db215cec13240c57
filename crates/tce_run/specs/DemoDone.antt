-- What the command leaves and reports.
use Rattle.std.specs.Prelude.{◌≡◌, ◌⊎◌, ℕ, ◌≤◌, List, [], ◌∷◌, ◌++◌, codes, Option, IfErr, Result}
use Rattle.std.specs.Option.{ForSome, option_map, IsSomeAnd}
use Rattle.std.specs.Fmt.{decimal}
use Rattle.tce_base.specs.Word.{wrapping_sum}
use Rattle.tce_outside.specs.Files.{Files, file}
use Rattle.tce_array.specs.declared.form.Form.TheVariants.{One}
use Rattle.tce_array.specs.Forms.{head_len, cell, IsForm}
use Rattle.tce_tools.specs.Flat.{in_order, contents}
use Rattle.tce_tools.specs.Demo.{demo_text}
use Rattle.tce_tools.specs.NoHalf.{LeavesNoHalfOf}
use Rattle.tce_nesting.specs.declared.plan.Plan.{Plan}
use Rattle.tce_search.specs.LeastPlan.{IsLeastPlan}
use Rattle.tce_spec.specs.Specification.{Specification}
use Rattle.tce_spec.specs.Operands.{shape_of}
use Rattle.tce_job.specs.TensorFiles.{file_of}
use Rattle.tce_job.specs.ResultBytes.{result_bytes}
use Rattle.tce_job.specs.Takings.{tile_take}
use Rattle.tce_job.specs.Opened.{HasOperands, operand_count}
use Rattle.tce_job.specs.Prepared.{taking_of, HasTaken}
use Rattle.tce_job.specs.Refusals.{CanRun}
use Rattle.tce_job.specs.declared.fault.JobFault.{JobFault}
use Rattle.tce_job.specs.Run.{IsReported}
use Rattle.tce_job.specs.declared.report.RunReport.{RunReport}
use Rattle.tce_command.specs.declared.refusal.Refusal.{Refusal}
use Rattle.tce_command.specs.Refusals.{IsFree}
use Rattle.tce_run.specs.Told.{IsToldAs}
use Rattle.tce_run.specs.DemoSpecification.{IsDemoOf}
use Rattle.tce_run.specs.DemoFiles.{LeavesArrays, with_input, with_demo}
use Rattle.tce_run.specs.declared.demo_input.Example.{Example}

-- the words that the tiles of a run may take
abbrev pub demo_budget : ℕ
demo_budget = 16384

-- the report: the words of the intermediates and of the tiles, and the sum of the result's elements
abbrev pub report_text : ℕ → ℕ → ℕ → List ℕ
report_text memory tiles sum = codes "tce demo 1\nmemory " ++ (decimal memory ++ (codes "\ntiles " ++ (decimal tiles ++ (codes "\nsum " ++ (decimal sum ++ codes "\n")))))

-- the sum of the result's elements, modulo 2 ^ 64
abbrev pub result_sum : Specification → Files → ℕ
result_sum s files = wrapping_sum (in_order (shape_of s s.result) (cell One (shape_of s s.result) (contents files (file_of s s.result))))

-- a refusal that a run of the specification has for one of its faults
abbrev pub IsOfRun : Specification → Refusal → Type 0
IsOfRun s refusal = (fault : JobFault) × IsToldAs s fault refusal

-- a refusal that a run of the example has
abbrev pub IsDemoRefusal : ℕ → ℕ → Refusal → Type 0
IsDemoRefusal v o refusal = (s : Specification) × IsDemoOf v o s × IsOfRun s refusal

-- the six files are there, one taking was made, that of a least plan and of tiles within the budget, and the report tells both and the sum
pub record IsRunOf (s : Specification) (seed : ℕ) (text : List ℕ) (before after : Option Files) (takings takings_after : List (ℕ × ℕ)) (report : List ℕ) : Type 0 where
  pub written : after ≡ option_map (with_demo s seed text) before
  pub plan : Plan
  pub least : IsLeastPlan s.declarations.space s.tree plan
  pub taken : takings_after ≡ takings ++ taking_of s demo_budget plan ∷ []
  pub within : tile_take s demo_budget ≤ demo_budget
  pub sum : ℕ
  pub summed : ForSome after (λ files. sum ≡ result_sum s files)
  pub reported : report ≡ report_text plan.memory (tile_take s demo_budget) sum

-- the run has all that it needs in the files that a demonstration writes, whatever is drawn and whatever else the disk has
abbrev pub CanRunDemo : ℕ → ℕ → Specification → Type 0
CanRunDemo v o s = (seed : ℕ) (files : Files) → CanRun (with_input s seed (demo_text v o) files) s demo_budget

-- that is so of what the text specifies, which can be run
pub record IsDemonstrated (before after : Option Files) (takings takings_after : List (ℕ × ℕ)) (seed v o : ℕ) (report : List ℕ) : Type 0 where
  pub specification : Specification
  pub specified : IsDemoOf v o specification
  pub able : CanRunDemo v o specification
  pub run : IsRunOf specification seed (demo_text v o) before after takings takings_after report

-- there is one taking more, that of a run of the demonstration, which can be run
pub record IsDemoTaking (v o : ℕ) (takings takings_after : List (ℕ × ℕ)) : Type 0 where
  pub specification : Specification
  pub specified : IsDemoOf v o specification
  pub able : CanRunDemo v o specification
  pub taking : HasTaken specification demo_budget takings takings_after

-- what is left of the files of the operands and of the result, wherever the demonstration ends
pub record LeavesRun (s : Specification) (seed : ℕ) (text : List ℕ) (before after : Option Files) : Type 0 where
  pub operands : LeavesArrays s seed before after
  pub result : LeavesNoHalfOf (file_of s s.result) (head_len One (shape_of s s.result)) (λ files. result_bytes s (with_input s seed text files)) before after

-- no file differs, or that is left of the files of the demonstration
abbrev pub LeavesDemonstration : ℕ → ℕ → ℕ → Option Files → Option Files → Type 0
LeavesDemonstration seed v o before after = (after ≡ before) ⊎ ((s : Specification) × IsDemoOf v o s × LeavesRun s seed (demo_text v o) before after)

-- where the disk tells its files: the result's file is an array of its shape, its elements have this sum, and each operand has its array
abbrev pub HasResultArray : Option Files → Specification → Type 0
HasResultArray told s = ForSome told (λ files. IsSomeAnd (file files (file_of s s.result)) (IsForm One (shape_of s s.result)))

abbrev pub IsSumOfResult : Option Files → Specification → ℕ → Type 0
IsSumOfResult told s n = ForSome told (λ files. n ≡ result_sum s files)

abbrev pub HasAllOperands : Option Files → Specification → Type 0
HasAllOperands told s = ForSome told (λ files. HasOperands files s (operand_count s))

-- the report of a run under the words that a demonstration has for tiles
abbrev pub HasRunReport : Specification → List (ℕ × ℕ) → List (ℕ × ℕ) → RunReport → Type 0
HasRunReport s takings takings_after report = IsReported s demo_budget takings takings_after report

-- a refused run left the takings as they were, or, after a failure of the disk or for want of memory, took once
abbrev pub LeavesRoom : {A : Type 0} → Specification → List (ℕ × ℕ) → List (ℕ × ℕ) → Result A Refusal → Type 0
LeavesRoom s takings takings_after result =
    IfErr result (λ refusal. (IsFree refusal × HasTaken s demo_budget takings takings_after) ⊎ (takings_after ≡ takings))

abbrev pub LeavesDemoRoom : {A : Type 0} → ℕ → ℕ → List (ℕ × ℕ) → List (ℕ × ℕ) → Result A Refusal → Type 0
LeavesDemoRoom v o takings takings_after result =
    IfErr result (λ refusal. (IsFree refusal × IsDemoTaking v o takings takings_after) ⊎ (takings_after ≡ takings))

-- what is left of the files of an example, wherever its demonstration ends
abbrev pub LeavesExample : Example → ℕ → Option Files → Option Files → Type 0
LeavesExample example seed before after = LeavesRun example.spec seed example.text.items before after

-- the example is run, with this report
abbrev pub IsRunOfExample : Example → ℕ → Option Files → Option Files → List (ℕ × ℕ) → List (ℕ × ℕ) → List ℕ → Type 0
IsRunOfExample example seed before after takings takings_after report =
    IsRunOf example.spec seed example.text.items before after takings takings_after report
