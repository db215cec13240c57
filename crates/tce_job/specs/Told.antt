-- What a run is given, leaves and takes where the disk tells its files.
use Rattle.std.specs.Prelude.{◌≡◌, ◌⊎◌, ℕ, ◌≤◌, List, [], ◌∷◌, ◌++◌, Option, Result, IfOk, IfErr, OnErr}
use Rattle.std.specs.Option.{ForSome, option_map}
use Rattle.tce_outside.specs.Files.{Files, others, holding}
use Rattle.tce_nesting.specs.declared.plan.Plan.{Plan}
use Rattle.tce_search.specs.LeastPlan.{IsLeastPlan}
use Rattle.tce_code.specs.Program.{program_of}
use Rattle.tce_walk.specs.Touches.{touch_bound}
use Rattle.tce_spec.specs.Specification.{Specification}
use Rattle.tce_job.specs.Laws.{made_result}
use Rattle.tce_job.specs.ResultBytes.{with_result}
use Rattle.tce_job.specs.TensorFiles.{file_of}
use Rattle.tce_job.specs.declared.fault.JobFault.{JobFault}
use Rattle.tce_job.specs.declared.fault.JobFault.TheVariants.{Disk}
use Rattle.tce_job.specs.declared.prepared.Prepared.{Prepared}
use Rattle.tce_job.specs.declared.report.RunReport.{RunReport}
use Rattle.tce_job.specs.Prepared.{MayHaveTaken, IsRoomLeft, taking_of}
use Rattle.tce_job.specs.Refusals.{IsCause, MayBeRefused, MustBeRefused, CanRun, IsFree, IsRefusedAs, IsGranted}
use Rattle.tce_job.specs.Run.{IsReported}

-- a least plan of the specification's tree
abbrev pub IsLeastPlanOf : Specification → Plan → Type 0
IsLeastPlanOf s plan = IsLeastPlan s.declarations.space s.tree plan

-- all that a run needs is there
abbrev pub CanRunIn : Option Files → Specification → ℕ → Type 0
CanRunIn told s budget = ForSome told (λ files. CanRun files s budget)

-- why a run is refused
abbrev pub IsRefusalOf : Option Files → Specification → ℕ → JobFault → Type 0
IsRefusalOf told s budget fault = IsCause (MayBeRefused told s) s budget fault

-- where there is a cause, it is the answer, or a free fault is; where all is there, no other fault than a free one is
abbrev pub RefusesExactly : {A : Type 0} → Option Files → Specification → ℕ → Result A JobFault → Type 0
RefusesExactly told s budget result = (due : JobFault) → (IsFree due → ⊥) → IsCause (MustBeRefused told s) s budget due → IsRefusedAs due result

abbrev pub GrantsAble : {A : Type 0} → Option Files → Specification → ℕ → Result A JobFault → Type 0
GrantsAble told s budget result = ForSome told (λ files. CanRun files s budget → IsGranted result)

-- after any refusal but a failure of the disk all files are as they were
abbrev pub FailsOrKeeps : {A : Type 0} → Result A JobFault → Option Files → Option Files → Type 0
FailsOrKeeps result before after = IfErr result (λ fault. (fault ≡ Disk) ⊎ (after ≡ before))

-- the file of the result is made, of zeros; it holds the values of the formula; no other file differs
abbrev pub MakesResult : Specification → Option Files → Option Files → Type 0
MakesResult s before after = after ≡ holding (file_of s s.result) (made_result s) before

abbrev pub WritesResult : Specification → Option Files → Option Files → Type 0
WritesResult s before after = after ≡ option_map (with_result s) before

abbrev pub ResultAlone : Specification → Option Files → Option Files → Type 0
ResultAlone s before after = others (file_of s s.result) after ≡ others (file_of s s.result) before

-- there is one taking more, that of this plan; where the run is refused there may be
abbrev pub Takes : Specification → ℕ → Plan → List (ℕ × ℕ) → List (ℕ × ℕ) → Type 0
Takes s budget plan before after = after ≡ before ++ taking_of s budget plan ∷ []

abbrev pub MayTake : {A : Type 0} → Result A JobFault → Specification → ℕ → Plan → List (ℕ × ℕ) → List (ℕ × ℕ) → Type 0
MayTake result s budget plan before after = OnErr result (MayHaveTaken s budget plan before after)

-- the report of a run that succeeds, with what it took; what a refused one leaves of the room
abbrev pub Reports : Result RunReport JobFault → Specification → ℕ → List (ℕ × ℕ) → List (ℕ × ℕ) → Type 0
Reports result s budget before after = IfOk result (IsReported s budget before after)

abbrev pub LeavesRoom : {A : Type 0} → Result A JobFault → Specification → ℕ → List (ℕ × ℕ) → List (ℕ × ℕ) → Type 0
LeavesRoom result s budget before after = IfErr result (λ fault. IsRoomLeft fault s budget before after)

-- the cache was touched no more often than the bound of the code
abbrev pub TouchesWithin : Specification → Prepared → Prepared → Type 0
TouchesWithin s before after = after.cache.touches ≤ touch_bound s.declarations.space s.tree (program_of before.code)
