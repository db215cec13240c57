-- What commands answer that take nothing from the room.
use Rattle.std.proofs.Common.{◌≡◌, ◌≢◌, refl, ap, ◌∙◌, ◌⊎◌, inl, inr, ℕ, List, Option, Result, Err, IfOk, IfErr}
use Rattle.std.specs.Option.{ForSome}
use Rattle.tce_outside.specs.Fault.{HasCause, TellsFaults}
use Rattle.tce_outside.specs.Files.{Files}
use Rattle.tce_outside.proofs.Causes.{answered_quiet}
use Rattle.tce_array.specs.declared.form.Form.{Form}
use Rattle.tce_tools.proofs.Apart.{same_err}
use Rattle.tce_command.specs.Command.{Command, plan, cert, check, pack, unpack, convert, expand, einsum}
use Rattle.tce_command.specs.declared.refusal.Refusal.{Refusal}
use Rattle.tce_command.specs.declared.refusal.Refusal.TheVariants.{Disk}
use Rattle.tce_command.specs.declared.command_refusal.CommandRefusal.{CommandRefusal}
use Rattle.tce_command.specs.declared.command_refusal.CommandRefusal.TheVariants.{Common, Certificate}
use Rattle.tce_plan.specs.VerificationRefusals.{IsVerifyRefusalOn, IsWrittenFor}
use Rattle.tce_plan.specs.VerificationDone.{IsVerified}
use Rattle.tce_top.specs.Performed.{Carries, IsCommandRefusal, IsDone, KeepsRoom, LeavesInTurn, LeavesNoHalf, MayLeaveOther, MayRefuse, MayTake, NamesItsIndexes, OthersStay, Seen}
use Rattle.tce_top.proofs.Carried.{Performs, carried, cause_as, disk_or_same, of_err, of_ok, told_as}

-- what a command of its own file may leave: takings as they were, and other files after a failing disk alone
pub record Quiet (command : Command) : Type 0 where
  pub leaves : (r : CommandRefusal) → r ≡ Common Disk → MayLeaveOther command r
  pub in_turn : (r : CommandRefusal) (before after : Option Files) → LeavesInTurn command r before after
  pub takes : (before after : Option Files) (taken taken_after : List (ℕ × ℕ)) → taken_after ≡ taken → MayTake command before after taken taken_after
  pub keeps : (told : Option Files) (taken taken_after : List (ℕ × ℕ)) → taken_after ≡ taken → KeepsRoom command told taken taken_after

pub quiet_plan : (spec : List ℕ) → Quiet (plan spec)
quiet_plan spec = record { leaves = λ r e. e; in_turn = λ r before after. tt; takes = λ before after taken taken_after e. e; keeps = λ told taken taken_after e. e }

pub quiet_cert : (spec file : List ℕ) → Quiet (cert spec file)
quiet_cert spec file = record { leaves = λ r e. e; in_turn = λ r before after. tt; takes = λ before after taken taken_after e. e; keeps = λ told taken taken_after e. e }

pub quiet_pack : (spec tensor flat : List ℕ) → Quiet (pack spec tensor flat)
quiet_pack spec tensor flat = record { leaves = λ r e. e; in_turn = λ r before after. tt; takes = λ before after taken taken_after e. e; keeps = λ told taken taken_after e. e }

pub quiet_unpack : (spec tensor flat : List ℕ) → Quiet (unpack spec tensor flat)
quiet_unpack spec tensor flat = record { leaves = λ r e. e; in_turn = λ r before after. tt; takes = λ before after taken taken_after e. e; keeps = λ told taken taken_after e. e }

pub quiet_convert : (spec tensor : List ℕ) (form : Form) → Quiet (convert spec tensor form)
quiet_convert spec tensor form = record { leaves = λ r e. e; in_turn = λ r before after. tt; takes = λ before after taken taken_after e. e; keeps = λ told taken taken_after e. e }

pub quiet_expand : (spec tensor : List ℕ) → Quiet (expand spec tensor)
quiet_expand spec tensor = record { leaves = λ r e. e; in_turn = λ r before after. tt; takes = λ before after taken taken_after e. e; keeps = λ told taken taken_after e. e }

pub quiet_einsum : (text path spec : List ℕ) → Quiet (einsum text path spec)
quiet_einsum text path spec = record { leaves = λ r e. e; in_turn = λ r before after. tt; takes = λ before after taken taken_after e. e; keeps = λ told taken taken_after e. e }

quiet_leaves : (command : Command) (r : CommandRefusal) (A : Type 0) → Quiet command → (r ≡ Common Disk) ⊎ A → MayLeaveOther command r ⊎ A
quiet_leaves command r A quiet (inl failed) = inl (quiet.leaves r failed)
quiet_leaves command r A quiet (inr same) = inr same

-- What is known of a call that takes nothing: what it does and why it refuses, in the words of the command, and what it leaves.
pub record Called {T : Type 0} (command : Command) (given : Result T Refusal) (before after : Seen) (Done : List ℕ → Type 0) (Refused : Refusal → Type 0) : Type 0 where
  pub done : (report : List ℕ) → Done report → IsDone command before.files after.files before.takings after.takings report
  pub possible : (r : Refusal) → Refused r → MayRefuse command (Common r)
  pub refused : (r : Refusal) → Refused r → ForSome before.files (λ files. IsCommandRefusal files command (Common r))
  pub unchanged : IfErr given (λ r. r ≢ Disk → after.files ≡ before.files)
  pub untaken : after.takings ≡ before.takings
  pub no_half : LeavesNoHalf command before.files after.files
  pub others : OthersStay command before.files after.files
  pub cause : HasCause before.faults after.faults (given ≡ Err Disk)
  pub told : TellsFaults before.faults after.faults (given ≡ Err Disk)

pub calls : {T S : Type 0} (bytes : T → List ℕ) (items : S → List ℕ) (command this : Command) (before after : Seen) (given : Result T Refusal) (answer : Result S CommandRefusal) (Done : List ℕ → Type 0) (Refused : Refusal → Type 0)
    → command ≡ this → Quiet this → Carries bytes items Common given answer → IfOk given (λ report. Done (bytes report)) → IfErr given Refused → Called this given before after Done Refused
    → Performs items command before after answer
calls bytes items command this before after given answer Done Refused is quiet same done refused called =
    carried bytes items Common command this before after given answer is same
    (λ report ok. record {
      done = called.done (bytes report) (of_ok (λ x. Done (bytes x)) given report ok done);
      no_half = called.no_half;
      others = called.others;
      faults = answered_quiet before.faults after.faults report given ok called.told;
    })
    (λ cause err. record {
      possible = called.possible cause (of_err Refused given cause err refused);
      refused = called.refused cause (of_err Refused given cause err refused);
      line = tt;
      unchanged = quiet_leaves this (Common cause) (after.files ≡ before.files) quiet (disk_or_same (after.files ≡ before.files) cause (of_err _ given cause err called.unchanged));
      left = quiet.in_turn (Common cause) before.files after.files;
      takings = quiet.takes before.files after.files before.takings after.takings called.untaken;
      untaken = inr (quiet.keeps before.files before.takings after.takings called.untaken);
      no_half = called.no_half;
      others = called.others;
      fault_reported = record {
        cause = cause_as given cause before.faults after.faults err called.cause;
        quiet = told_as given cause before.faults after.faults err called.told;
      };
    })

-- the line of a certificate that is refused
names_its : (told : Option Files) (spec file : List ℕ) (r : CommandRefusal) → IsWrittenFor told spec r → NamesItsIndexes (check spec file) told r
names_its told spec file (Common refusal) written = tt
names_its told spec file (Certificate flaw line) written = (written.0.declarations.space, (λ files tells. (written.0, written.1.0 files tells, refl)), written.1.1)

pub verifies : {T S : Type 0} (bytes : T → List ℕ) (items : S → List ℕ) (command : Command) (before after : Seen) (given : Result T CommandRefusal) (answer : Result S CommandRefusal) (spec file : List ℕ)
    → command ≡ check spec file → Carries bytes items (λ refusal. refusal) given answer
    → IfOk given (λ report. IsVerified before.files spec file (bytes report)) → IfErr given (IsVerifyRefusalOn before.files spec file) → IfErr given (IsWrittenFor before.files spec)
    → after.files ≡ before.files → after.takings ≡ before.takings
    → HasCause before.faults after.faults (given ≡ Err (Common Disk)) → TellsFaults before.faults after.faults (given ≡ Err (Common Disk))
    → Performs items command before after answer
verifies bytes items command before after given answer spec file is same done refused line unchanged untaken cause told =
    carried bytes items (λ refusal. refusal) command (check spec file) before after given answer is same
    (λ report ok. record {
      done = (of_ok _ given report ok done, unchanged, untaken);
      no_half = tt;
      others = unchanged;
      faults = answered_quiet before.faults after.faults report given ok told;
    })
    (λ r err. let why : IsVerifyRefusalOn before.files spec file r = of_err _ given r err refused in record {
      possible = why.0;
      refused = why.1;
      line = names_its before.files spec file r (of_err _ given r err line);
      unchanged = inr unchanged;
      left = tt;
      takings = untaken;
      untaken = inr untaken;
      no_half = tt;
      others = unchanged;
      fault_reported = record {
        cause = record { later = cause.later; rose = λ failed. cause.rose (err ∙ ap Err failed) };
        quiet = λ none. told (λ failed. none (same_err given r (Common Disk) err failed));
      };
    })
