-- What each command needs, why it is refused, and what it leaves, by cases over the commands.
use Rattle.std.specs.Prelude.{◌≡◌, ◌⊎◌, ⊤, ℕ, List, Option, Result, Ok, Err}
use Rattle.std.specs.Option.{ForSome}
use Rattle.tce_outside.specs.Fault.{FaultReported}
use Rattle.tce_outside.specs.Files.{Files, others}
use Rattle.tce_space.specs.Space.{IndexSpace}
use Rattle.tce_spec.specs.Specification.{Specification}
use Rattle.tce_command.specs.Source.{HasSpecification, MayRefuseSource}
use Rattle.tce_command.specs.Command.{Command, run, batch, spill, plan, cert, check, pack, unpack, convert, expand, einsum, demo}
use Rattle.tce_command.specs.Report.{cert_line, trouble_of}
use Rattle.tce_command.specs.Refusals.{IsFree}
use Rattle.tce_command.specs.CommandRefusals.{MayReplace, OnCommon}
use Rattle.tce_command.specs.declared.refusal.Refusal.TheVariants.{Disk}
use Rattle.tce_command.specs.declared.command_refusal.CommandRefusal.{CommandRefusal}
use Rattle.tce_command.specs.declared.command_refusal.CommandRefusal.TheVariants.{Common, Certificate}
use Rattle.tce_run.specs.Done.{IsRun, IsTaking, OnlyResultDiffers}
use Rattle.tce_run.specs.Refusals.{CanRunFile, IsRunRefusal, MayRefuseRun}
use Rattle.tce_run.specs.BatchDone.{IsBatchLeft, IsBatchPrefix, IsBatchRun, IsCutOff, OnlyBatchDiffers}
use Rattle.tce_run.specs.BatchRefusals.{CanRunBatch, IsBatchRefusal, MayRefuseBatch}
use Rattle.tce_run.specs.SpillDone.{IsCutOffInPiece, IsSpillLeft, IsSpillPrefix, IsSpillRun, OnlyPiecesDiffer}
use Rattle.tce_run.specs.SpillRefusals.{CanSpill, IsSpillRefusal, MayRefuseSpill}
use Rattle.tce_plan.specs.Done.{IsPlanned}
use Rattle.tce_plan.specs.Refusals.{CanPlan, IsPlanRefusal}
use Rattle.tce_plan.specs.CertificateDone.{IsCertified}
use Rattle.tce_plan.specs.CertificateRefusals.{CanCertify, IsCertifyRefusal}
use Rattle.tce_plan.specs.EinsumDone.{IsEinsumWritten}
use Rattle.tce_plan.specs.EinsumRefusals.{CanWriteEinsum, IsEinsumRefusal}
use Rattle.tce_plan.specs.VerificationDone.{CanVerify, IsVerified}
use Rattle.tce_plan.specs.VerificationRefusals.{IsVerifyRefusal, MayRefuseVerify}
use Rattle.tce_flat.specs.Tensors.{array_file, converted_file}
use Rattle.tce_flat.specs.Refusals.{CanPack, CanUnpack, CanConvert, CanExpand, IsPackRefusal, IsUnpackRefusal, IsConvertRefusal, IsExpandRefusal}
use Rattle.tce_flat.specs.May.{MayRefusePack, MayRefuseUnpack, MayRefuseConvert, MayRefuseExpand}
use Rattle.tce_flat.specs.Done.{IsPacked, IsUnpacked, IsConverted, IsExpanded}
use Rattle.tce_flat.specs.NoHalf.{LeavesFor, LeavesPacking, LeavesUnpacking, LeavesConverting, LeavesExpanding}
use Rattle.tce_run.specs.DemoFiles.{DemoOthersStay}
use Rattle.tce_run.specs.DemoDone.{IsDemonstrated, IsDemoRefusal, IsDemoTaking, LeavesDemonstration}

-- the disk has all that the command needs; an einsum needs its words alone, and a demonstration nothing
abbrev pub CanDo : Files → Command → Type 0
CanDo files (run spec budget) = CanRunFile files spec budget
CanDo files (batch spec budget) = CanRunBatch files spec budget
CanDo files (spill spec budget limit) = CanSpill files spec budget limit
CanDo files (plan spec) = CanPlan files spec
CanDo files (cert spec file) = CanCertify files spec
CanDo files (check spec file) = CanVerify files spec file
CanDo files (pack spec tensor flat) = CanPack files spec tensor flat
CanDo files (unpack spec tensor flat) = CanUnpack files spec tensor
CanDo files (convert spec tensor form) = CanConvert files spec tensor form
CanDo files (expand spec tensor) = CanExpand files spec tensor
CanDo files (einsum text path spec) = CanWriteEinsum text path
CanDo files (demo seed v o) = ⊤

-- why the command is refused; a demonstration is refused where the disk fails or memory is wanting alone
abbrev pub IsCommandRefusal : Files → Command → CommandRefusal → Type 0
IsCommandRefusal files (run spec budget) refusal = OnCommon (IsRunRefusal files spec budget) refusal
IsCommandRefusal files (batch spec budget) refusal = OnCommon (IsBatchRefusal files spec budget) refusal
IsCommandRefusal files (spill spec budget limit) refusal = OnCommon (IsSpillRefusal files spec budget limit) refusal
IsCommandRefusal files (plan spec) refusal = OnCommon (IsPlanRefusal files spec) refusal
IsCommandRefusal files (cert spec file) refusal = OnCommon (IsCertifyRefusal files spec) refusal
IsCommandRefusal files (check spec file) refusal = IsVerifyRefusal files spec file refusal
IsCommandRefusal files (pack spec tensor flat) refusal = OnCommon (IsPackRefusal files spec tensor flat) refusal
IsCommandRefusal files (unpack spec tensor flat) refusal = OnCommon (IsUnpackRefusal files spec tensor) refusal
IsCommandRefusal files (convert spec tensor form) refusal = OnCommon (IsConvertRefusal files spec tensor form) refusal
IsCommandRefusal files (expand spec tensor) refusal = OnCommon (IsExpandRefusal files spec tensor) refusal
IsCommandRefusal files (einsum text path spec) refusal = OnCommon (IsEinsumRefusal text path) refusal
IsCommandRefusal files (demo seed v o) refusal = OnCommon IsFree refusal

-- how the command may be refused, whatever the disk tells: for its own words, and for texts and specifications that there may be
abbrev pub MayRefuse : Command → CommandRefusal → Type 0
MayRefuse (run spec budget) refusal = OnCommon (MayRefuseRun spec budget) refusal
MayRefuse (batch spec budget) refusal = OnCommon (MayRefuseBatch spec budget) refusal
MayRefuse (spill spec budget limit) refusal = OnCommon (MayRefuseSpill spec budget limit) refusal
MayRefuse (plan spec) refusal = OnCommon (MayRefuseSource spec) refusal
MayRefuse (cert spec file) refusal = OnCommon (MayRefuseSource spec) refusal
MayRefuse (check spec file) refusal = MayRefuseVerify spec file refusal
MayRefuse (pack spec tensor flat) refusal = OnCommon (MayRefusePack spec tensor flat) refusal
MayRefuse (unpack spec tensor flat) refusal = OnCommon (MayRefuseUnpack spec tensor) refusal
MayRefuse (convert spec tensor form) refusal = OnCommon (MayRefuseConvert spec tensor form) refusal
MayRefuse (expand spec tensor) refusal = OnCommon (MayRefuseExpand spec tensor) refusal
MayRefuse (einsum text path spec) refusal = OnCommon (IsEinsumRefusal text path) refusal
MayRefuse (demo seed v o) refusal = OnCommon (IsDemoRefusal v o) refusal

-- the command is done, with this report
abbrev pub IsDone : Command → Option Files → Option Files → List (ℕ × ℕ) → List (ℕ × ℕ) → List ℕ → Type 0
IsDone (run spec budget) before after taken taken_after report = IsRun before after taken taken_after spec budget report
IsDone (batch spec budget) before after taken taken_after report = IsBatchRun before after taken taken_after spec budget report
IsDone (spill spec budget limit) before after taken taken_after report = IsSpillRun before after taken taken_after spec budget limit report
IsDone (plan spec) before after taken taken_after report = IsPlanned before spec report × (after ≡ before) × (taken_after ≡ taken)
IsDone (cert spec file) before after taken taken_after report = IsCertified before after spec file report × (taken_after ≡ taken)
IsDone (check spec file) before after taken taken_after report = IsVerified before spec file report × (after ≡ before) × (taken_after ≡ taken)
IsDone (pack spec tensor flat) before after taken taken_after report = IsPacked before after spec tensor flat report × (taken_after ≡ taken)
IsDone (unpack spec tensor flat) before after taken taken_after report = IsUnpacked before after spec tensor flat report × (taken_after ≡ taken)
IsDone (convert spec tensor form) before after taken taken_after report = IsConverted before after spec tensor form report × (taken_after ≡ taken)
IsDone (expand spec tensor) before after taken taken_after report = IsExpanded before after spec tensor report × (taken_after ≡ taken)
IsDone (einsum text path spec) before after taken taken_after report = IsEinsumWritten before after text path spec report × (taken_after ≡ taken)
IsDone (demo seed v o) before after taken taken_after report = IsDemonstrated before after taken taken_after seed v o report

-- all files stay but this one
abbrev pub StayBut : List ℕ → Option Files → Option Files → Type 0
StayBut name before after = others name after ≡ others name before

-- all files stay but those that the command writes
abbrev pub OthersStay : Command → Option Files → Option Files → Type 0
OthersStay (run spec budget) before after = OnlyResultDiffers spec before after
OthersStay (batch spec budget) before after = OnlyBatchDiffers spec before after
OthersStay (spill spec budget limit) before after = OnlyPiecesDiffer spec limit before after
OthersStay (plan spec) before after = after ≡ before
OthersStay (cert spec file) before after = StayBut file before after
OthersStay (check spec file) before after = after ≡ before
OthersStay (pack spec tensor flat) before after = StayBut (array_file tensor) before after
OthersStay (unpack spec tensor flat) before after = StayBut flat before after
OthersStay (convert spec tensor form) before after = StayBut (converted_file tensor) before after
OthersStay (expand spec tensor) before after = StayBut (array_file tensor) before after
OthersStay (einsum text path spec) before after = StayBut spec before after
OthersStay (demo seed v o) before after = DemoOthersStay before after

-- what is left of the file of numbers that a command makes, wherever the command ends: the file as it was, absent or beginning with zeros, or whole but for its first bytes, which are written last
abbrev pub LeavesNoHalf : Command → Option Files → Option Files → Type 0
LeavesNoHalf (run spec budget) before after = OnlyResultDiffers spec before after
LeavesNoHalf (pack spec tensor flat) before after = LeavesFor (LeavesPacking tensor flat) spec tensor before after
LeavesNoHalf (unpack spec tensor flat) before after = LeavesFor (LeavesUnpacking tensor flat) spec tensor before after
LeavesNoHalf (convert spec tensor form) before after = LeavesFor (LeavesConverting tensor form) spec tensor before after
LeavesNoHalf (expand spec tensor) before after = LeavesFor (LeavesExpanding tensor) spec tensor before after
LeavesNoHalf (demo seed v o) before after = LeavesDemonstration seed v o before after
LeavesNoHalf command before after = ⊤

-- the takings are as they were, or a run or a demonstration took once; of several formulas or pieces takings and files are as they were, or those of the first ones in turn
abbrev pub MayTake : Command → Option Files → Option Files → List (ℕ × ℕ) → List (ℕ × ℕ) → Type 0
MayTake (run spec budget) before after taken taken_after = (taken_after ≡ taken) ⊎ IsTaking before taken taken_after spec budget
MayTake (batch spec budget) before after taken taken_after = ((after ≡ before) × (taken_after ≡ taken)) ⊎ IsBatchPrefix before after taken taken_after spec budget
MayTake (spill spec budget limit) before after taken taken_after = ((after ≡ before) × (taken_after ≡ taken)) ⊎ IsSpillPrefix before after taken taken_after spec budget limit
MayTake (demo seed v o) before after taken taken_after = (taken_after ≡ taken) ⊎ IsDemoTaking v o taken taken_after
MayTake command before after taken taken_after = taken_after ≡ taken

-- a refused command leaves the takings as they were; so do several formulas and pieces where the disk tells its files
abbrev pub KeepsRoom : Command → Option Files → List (ℕ × ℕ) → List (ℕ × ℕ) → Type 0
KeepsRoom (batch spec budget) told taken taken_after = ForSome told (λ _. taken_after ≡ taken)
KeepsRoom (spill spec budget limit) told taken taken_after = ForSome told (λ _. taken_after ≡ taken)
KeepsRoom command told taken taken_after = taken_after ≡ taken

-- the refusal may leave other files than there were: the disk failed, or memory was wanting in a demonstration or behind the first of several formulas or pieces
abbrev pub MayLeaveOther : Command → CommandRefusal → Type 0
MayLeaveOther (batch spec budget) refusal = MayReplace refusal
MayLeaveOther (spill spec budget limit) refusal = MayReplace refusal
MayLeaveOther (demo seed v o) refusal = MayReplace refusal
MayLeaveOther command refusal = refusal ≡ Common Disk

-- and what several formulas, or the pieces of a tree, then leave
abbrev pub LeavesInTurn : Command → CommandRefusal → Option Files → Option Files → Type 0
LeavesInTurn (batch spec budget) refusal before after = OnCommon (λ r. IsBatchLeft r before after spec) refusal
LeavesInTurn (spill spec budget limit) refusal before after = OnCommon (λ r. IsSpillLeft r before after spec limit) refusal
LeavesInTurn command refusal before after = ⊤

-- after a failure of the disk those in front of one are complete, and in the place of its result is no half of one
abbrev pub LeavesCutOff : Command → Option Files → Option Files → Type 0
LeavesCutOff (batch spec budget) before after = (after ≡ before) ⊎ IsCutOff before after spec
LeavesCutOff (spill spec budget limit) before after = (after ≡ before) ⊎ IsCutOffInPiece before after spec limit
LeavesCutOff command before after = ⊤

-- the indexes of the specification that the command checks a certificate against
abbrev pub HasIndexes : Files → Command → IndexSpace → Type 0
HasIndexes files (check spec file) space = (s : Specification) × HasSpecification files spec s × (space ≡ s.declarations.space)
HasIndexes files command space = ⊥

-- the line of a refused certificate names the indexes of that specification
abbrev pub NamesItsIndexes : Command → Option Files → CommandRefusal → Type 0
NamesItsIndexes command told (Certificate flaw line) =
    (space : IndexSpace) × ForSome told (λ files. HasIndexes files command space) × (line.text.bytes ≡ cert_line space (trouble_of flaw))
NamesItsIndexes command told (Common refusal) = ⊤

-- what is seen at one moment: the files, where the disk tells them, the count of its faults, and the takings
pub record Seen : Type 0 where
  pub files : Option Files
  pub faults : ℕ
  pub takings : List (ℕ × ℕ)

abbrev pub seen : Option Files → ℕ → List (ℕ × ℕ) → Seen
seen files faults takings = record { files = files; faults = faults; takings = takings }

-- the command is done, with this report, and the disk did not fail
pub record Finishes (command : Command) (before after : Seen) (report : List ℕ) : Type 0 where
  pub done : IsDone command before.files after.files before.takings after.takings report
  pub no_half : LeavesNoHalf command before.files after.files
  pub others : OthersStay command before.files after.files
  pub faults : after.faults ≡ before.faults

-- the command is refused: as it may be, and where the disk tells its files for what they are, with which line, and what it leaves; the disk failed exactly where that is the refusal
pub record Refuses (command : Command) (before after : Seen) (refusal : CommandRefusal) : Type 0 where
  pub possible : MayRefuse command refusal
  pub refused : ForSome before.files (λ files. IsCommandRefusal files command refusal)
  pub line : NamesItsIndexes command before.files refusal
  pub unchanged : MayLeaveOther command refusal ⊎ (after.files ≡ before.files)
  pub left : LeavesInTurn command refusal before.files after.files
  pub takings : MayTake command before.files after.files before.takings after.takings
  pub untaken : MayReplace refusal ⊎ KeepsRoom command before.files before.takings after.takings
  pub no_half : LeavesNoHalf command before.files after.files
  pub others : OthersStay command before.files after.files
  pub fault_reported : FaultReported (λ (s : Seen). s.faults) before after (refusal ≡ Common Disk)

-- what a command calls answers with a report or a refusal, and the command with the same bytes, or with that refusal as one of commands
abbrev pub Carries : {T S E : Type 0} → (T → List ℕ) → (S → List ℕ) → (E → CommandRefusal) → Result T E → Result S CommandRefusal → Type 0
Carries bytes items told (Ok text) (Ok report) = items report ≡ bytes text
Carries bytes items told (Err cause) (Err refusal) = refusal ≡ told cause
Carries bytes items told given answer = ⊥
