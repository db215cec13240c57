-- What a run leaves that succeeds.
use Rattle.std.specs.Prelude.{◌≡◌, ℕ, ◌≤◌, List, [], ◌∷◌, ◌++◌, Option, Some}
use Rattle.std.specs.Option.{ForSome}
use Rattle.tce_outside.specs.Files.{Files, file}
use Rattle.tce_array.specs.declared.form.Form.{Form}
use Rattle.tce_nesting.specs.declared.plan.Plan.{Plan}
use Rattle.tce_search.specs.LeastPlan.{IsLeastPlan}
use Rattle.tce_spec.specs.Specification.{Specification}
use Rattle.tce_job.specs.TensorFiles.{file_of}
use Rattle.tce_job.specs.Takings.{least_budget}
use Rattle.tce_job.specs.Laws.{made_result}
use Rattle.tce_job.specs.Reading.{HoldOperands}
use Rattle.tce_job.specs.declared.report.RunReport.{RunReport}
use Rattle.tce_job.specs.declared.prepared.Prepared.{Prepared}
use Rattle.tce_job.specs.Prepared.{IsPrepared, IsReport, taking_of}

-- there is one taking more, and the report tells of a least plan with these numbers
pub record IsReported (s : Specification) (budget : ℕ) (before after : List (ℕ × ℕ)) (report : RunReport) : Type 0 where
  pub plan : Plan
  pub least : IsLeastPlan s.declarations.space s.tree plan
  pub taken : after ≡ before ++ taking_of s budget plan ∷ []
  pub report_is : IsReport s budget plan report

-- a run is prepared, its operands' files are there in the forms of its arrays, and the file of its result was made
pub record IsBegun (s : Specification) (told : Option Files) (p : Prepared) : Type 0 where
  pub budget : ℕ
  pub enough : least_budget s ≤ budget
  pub forms : List Form
  pub prepared : IsPrepared s budget forms p
  pub operands : ForSome told (λ files. HoldOperands files s p.cache.arrays)
  pub made : ForSome told (λ files. file files (file_of s s.result) ≡ Some (made_result s))
