-- Why a command ends with a status.
use Rattle.std.specs.Prelude.{◌≡◌, ⊤, ℕ, List, Option}
use Rattle.std.specs.Option.{ForSome}
use Rattle.tce_outside.specs.Files.{Files}
use Rattle.tce_command.specs.Command.{Command, IsCommand}
use Rattle.tce_command.specs.Report.{ending_of}
use Rattle.tce_command.specs.declared.command_refusal.CommandRefusal.{CommandRefusal}
use Rattle.tce_command.specs.declared.status.Status.{Status}
use Rattle.tce_command.specs.declared.status.Status.TheVariants.{Done, DiskFault, SinkFault, WantOfMemory}
use Rattle.tce_top.specs.Performed.{CanDo, IsCommandRefusal, MayRefuse}

-- the command is refused where the disk tells its files, and this is the status of its refusal
pub record HasRefusal (files : Files) (command : Command) (status : Status) : Type 0 where
  pub refusal : CommandRefusal
  pub cause : IsCommandRefusal files command refusal
  pub same : status ≡ ending_of refusal

-- the table of causes. Faults of the devices have theirs in the counts of faults, and want of memory has none
abbrev pub IsCause : Files → Command → Status → Type 0
IsCause files command Done = CanDo files command
IsCause files command SinkFault = CanDo files command
IsCause files command DiskFault = ⊤
IsCause files command WantOfMemory = ⊤
IsCause files command status = HasRefusal files command status

-- the status is that of a refusal that the command may have, whatever the disk tells
pub record MayEnd (command : Command) (status : Status) : Type 0 where
  pub refusal : CommandRefusal
  pub possible : MayRefuse command refusal
  pub same : status ≡ ending_of refusal

-- where the words are those of a command
abbrev pub OfCommand : List (List ℕ) → (Command → Type 0) → Type 0
OfCommand words P = (command : Command) → IsCommand words command → P command

-- and the disk tells its files
abbrev pub Told : List (List ℕ) → Option Files → (Files → Command → Type 0) → Type 0
Told words told P = OfCommand words (λ command. ForSome told (λ files. P files command))
