-- What runs of formulas that were read leave and report, and how a fault of them is told.
use Rattle.std.specs.Prelude.{ℕ, List, length, Option}
use Rattle.tce_outside.specs.Files.{Files}
use Rattle.tce_spec.specs.Specification.{Specification}
use Rattle.tce_batch.specs.declared.fault.BatchFault.{BatchFault}
use Rattle.tce_batch.specs.Refusals.{AffordableBelow, IsBatchCause}
use Rattle.tce_batch.specs.Reports.{HasRun}
use Rattle.tce_batch.specs.Left.{IsLeft}
use Rattle.tce_batch.specs.Told.{HasAllSources, WritesResults}
use Rattle.tce_command.specs.declared.refusal.Refusal.{Refusal}
use Rattle.tce_run.specs.BatchRefusals.{IsToldAt}

-- all that the formulas need was there; the files are those that they leave one after the other; and the text is that of the report
pub record AreRun (before after : Option Files) (taken taken_after : List (ℕ × ℕ)) (formulas : List Specification) (budget : ℕ) (text : List ℕ) : Type 0 where
  pub affordable : AffordableBelow formulas budget (length formulas)
  pub sources : HasAllSources before formulas
  pub written : WritesResults formulas before after
  pub run : HasRun formulas budget taken taken_after text

-- the refusal tells a fault that has its cause, and files and room are what the runs leave at it
pub record IsFormulaFault (before after : Option Files) (taken taken_after : List (ℕ × ℕ)) (formulas : List Specification) (budget : ℕ) (refusal : Refusal) : Type 0 where
  pub refused : BatchFault
  pub told : IsToldAt formulas refused refusal
  pub cause : IsBatchCause before formulas budget refused
  pub left : IsLeft before after taken taken_after formulas budget refused
