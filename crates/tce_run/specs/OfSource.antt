-- What a run of a specification that was read leaves and reports, and how a fault of it is told.
use Rattle.std.specs.Prelude.{◌≡◌, ◌⊎◌, ℕ, List, Option}
use Rattle.tce_outside.specs.Files.{Files}
use Rattle.tce_spec.specs.Specification.{Specification}
use Rattle.tce_job.specs.declared.fault.JobFault.{JobFault}
use Rattle.tce_job.specs.declared.fault.JobFault.TheVariants as faults
use Rattle.tce_job.specs.declared.report.RunReport.{RunReport}
use Rattle.tce_job.specs.Prepared.{IsRoomLeft as IsRoomLeftAt}
use Rattle.tce_job.specs.Run.{IsReported}
use Rattle.tce_job.specs.Told.{CanRunIn, IsRefusalOf, WritesResult}
use Rattle.tce_command.specs.declared.refusal.Refusal.{Refusal}
use Rattle.tce_run.specs.Told.{IsToldAs}

-- all that the run needs was there; the result's file has the bytes of the formula; and the text is that of the run's report
pub record IsRunOf (before after : Option Files) (taken taken_after : List (ℕ × ℕ)) (s : Specification) (budget : ℕ) (text : List ℕ) : Type 0 where
  pub able : CanRunIn before s budget
  pub written : WritesResult s before after
  pub report : RunReport
  pub reported : IsReported s budget taken taken_after report
  pub text_is : text ≡ report.text

-- the refusal tells a fault that has its cause, and files and room are what the run leaves at it
pub record IsRunFault (before after : Option Files) (taken taken_after : List (ℕ × ℕ)) (s : Specification) (budget : ℕ) (refusal : Refusal) : Type 0 where
  pub fault : JobFault
  pub told : IsToldAs s fault refusal
  pub cause : IsRefusalOf before s budget fault
  pub unchanged : (fault ≡ faults.Disk) ⊎ (after ≡ before)
  pub tested : (taken_after ≡ taken) ⊎ CanRunIn before s budget
  pub room : IsRoomLeftAt fault s budget taken taken_after
