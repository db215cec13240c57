-- What runs of the pieces of a specification that was read leave and report, and how a fault of them is told.
use Rattle.std.specs.Prelude.{ℕ, List, Option}
use Rattle.std.specs.Option.{ForSome}
use Rattle.tce_outside.specs.Files.{Files}
use Rattle.tce_spec.specs.Specification.{Specification}
use Rattle.tce_spill.specs.declared.fault.SpillFault.{SpillFault}
use Rattle.tce_spill.specs.RunRefusals.{IsSpillCause}
use Rattle.tce_spill.specs.Left.{HasSpilled, IsLeft}
use Rattle.tce_command.specs.declared.refusal.Refusal.{Refusal}
use Rattle.tce_run.specs.SpillRefusals.{CanRunPieces, IsToldAs}

-- all that the pieces need was there; the files are those that they leave one after the other; and the text is that of the report
pub record ArePiecesRun (before after : Option Files) (taken taken_after : List (ℕ × ℕ)) (s : Specification) (budget limit : ℕ) (text : List ℕ) : Type 0 where
  pub able : ForSome before (λ files. CanRunPieces files s budget limit)
  pub run : HasSpilled before after taken taken_after s budget limit text

-- the refusal tells a fault that has its cause, and files and room are what the runs leave at it
pub record IsPieceFault (before after : Option Files) (taken taken_after : List (ℕ × ℕ)) (s : Specification) (budget limit : ℕ) (refusal : Refusal) : Type 0 where
  pub fault : SpillFault
  pub told : IsToldAs fault refusal
  pub cause : IsSpillCause before s budget limit fault
  pub left : IsLeft before after taken taken_after s budget limit fault
