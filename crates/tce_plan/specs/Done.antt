-- What `plan` reports.
use Rattle.std.specs.Prelude.{◌≡◌, ℕ, List, Option}
use Rattle.tce_outside.specs.Files.{Files}
use Rattle.tce_nesting.specs.declared.plan.Plan.{Plan}
use Rattle.tce_search.specs.LeastPlan.{IsLeastPlan}
use Rattle.tce_report.specs.NodeLine.{stated}
use Rattle.tce_report.specs.Report.{plan_text}
use Rattle.tce_spec.specs.Specification.{Specification}
use Rattle.tce_command.specs.Source.{HasSpecification}
use Rattle.std.specs.Option.{ForSome}

-- the report of a plan of the specification's tree that fits it: its fusion is legal and no legal fusion takes less memory, its orders are the standard ones, its sizes and its memory are those of the fusion, and its tables cover all fusions
pub record IsPlanReport (s : Specification) (report : List ℕ) : Type 0 where
  pub plan : Plan
  pub least : IsLeastPlan s.declarations.space s.tree plan
  pub reported : report ≡ plan_text s.declarations.space s.tree (stated plan)

-- a specification is planned, where the disk tells its files the one in the file
pub record IsPlanned (told : Option Files) (spec report : List ℕ) : Type 0 where
  pub specification : Specification
  pub specified : ForSome told (λ files. HasSpecification files spec specification)
  pub planned : IsPlanReport specification report
