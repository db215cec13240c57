-- What the command leaves and reports that runs a tree in pieces.
use Rattle.std.specs.Prelude.{◌≡◌, ◌⊎◌, ℕ, ◌≤◌, List, All, Option}
use Rattle.std.specs.Option.{ForSome}
use Rattle.tce_outside.specs.Files.{Files}
use Rattle.tce_spec.specs.Specification.{Specification}
use Rattle.tce_job.specs.Takings.{tile_take}
use Rattle.tce_job.specs.Several.{OnlyResultsDiffer}
use Rattle.tce_spill.specs.PieceRuns.{pieces_of}
use Rattle.tce_spill.specs.RunRefusals.{WithCuts}
use Rattle.tce_spill.specs.Left.{HasEndedAt, HasFailedAt, HasSpilled, HaveRunTo}
use Rattle.tce_command.specs.Refusals.{IsFree}
use Rattle.tce_command.specs.declared.refusal.Refusal.{Refusal}
use Rattle.tce_command.specs.declared.refusal.Refusal.TheVariants.{Disk, Memory}
use Rattle.tce_command.specs.Source.{HasSpecification}
use Rattle.tce_run.specs.SpillRefusals.{CanRunPieces}

-- the file specifies what was run, and all that its pieces need was there; the files are those that the pieces of the cuts for the limit leave one after the other, so that the result is that of the whole and each cut node has the array of its values; for each piece in turn the room gave the memory of a least plan, which is within the limit, and the words for tiles, which are within the budget; and the report has the line of each piece
pub record IsSpillRun (before after : Option Files) (taken taken_after : List (ℕ × ℕ)) (spec : List ℕ) (budget limit : ℕ) (report : List ℕ) : Type 0 where
  pub specification : Specification
  pub specified : ForSome before (λ files. HasSpecification files spec specification)
  pub able : ForSome before (λ files. CanRunPieces files specification budget limit)
  pub run : HasSpilled before after taken taken_after specification budget limit report
  pub within : All (λ (p : Specification). tile_take p budget ≤ budget) (pieces_of specification run.cut)

-- files and takings are those of the first pieces of the tree in the file, in turn
pub record IsSpillPrefix (before after : Option Files) (taken taken_after : List (ℕ × ℕ)) (spec : List ℕ) (budget limit : ℕ) : Type 0 where
  pub specification : Specification
  pub specified : ForSome before (λ files. HasSpecification files spec specification)
  pub run : WithCuts specification limit (λ cut. HaveRunTo before after taken taken_after specification cut budget)

-- all is as it was, or the first pieces were run; the takings grew only after a failure or want of memory, where the disk tells its files
pub record IsSpillRoomLeft (refusal : Refusal) (before after : Option Files) (taken taken_after : List (ℕ × ℕ)) (spec : List ℕ) (budget limit : ℕ) : Type 0 where
  pub takings : ((after ≡ before) × (taken_after ≡ taken)) ⊎ IsSpillPrefix before after taken taken_after spec budget limit
  pub untaken : (IsFree refusal → ⊥) → ForSome before (λ _. taken_after ≡ taken)

-- the files are those that the first pieces leave
pub record AreFirstPieces (before after : Option Files) (spec : List ℕ) (limit : ℕ) : Type 0 where
  pub specification : Specification
  pub specified : ForSome before (λ files. HasSpecification files spec specification)
  pub pieces : WithCuts specification limit (λ cut. (n : ℕ) × HasEndedAt before after specification cut n)

-- every file but that of one piece is as the pieces in front of it left it, and in its place is no half of an array
pub record IsCutOffInPiece (before after : Option Files) (spec : List ℕ) (limit : ℕ) : Type 0 where
  pub specification : Specification
  pub specified : ForSome before (λ files. HasSpecification files spec specification)
  pub piece : WithCuts specification limit (λ cut. (v : ℕ) × HasFailedAt before after specification cut v)

-- what a refused command leaves of the files: after a failure the pieces in front of one are complete, after want of memory the first ones are and no other file differs, and after any other refusal no file changed
abbrev pub IsSpillLeft : Refusal → Option Files → Option Files → List ℕ → ℕ → Type 0
IsSpillLeft Disk before after spec limit = (after ≡ before) ⊎ IsCutOffInPiece before after spec limit
IsSpillLeft Memory before after spec limit = (after ≡ before) ⊎ AreFirstPieces before after spec limit
IsSpillLeft refusal before after spec limit = after ≡ before

-- no file differs but those of the pieces of the specification in the file
pub record SpillOthersStay (spec : List ℕ) (limit : ℕ) (before after : Option Files) : Type 0 where
  pub specification : Specification
  pub specified : ForSome before (λ files. HasSpecification files spec specification)
  pub others_are : WithCuts specification limit (λ cut. OnlyResultsDiffer (pieces_of specification cut) before after)

-- no file differs, or, where the file holds a specification, those of its pieces alone
abbrev pub OnlyPiecesDiffer : List ℕ → ℕ → Option Files → Option Files → Type 0
OnlyPiecesDiffer spec limit before after = (after ≡ before) ⊎ SpillOthersStay spec limit before after
