-- Refusals that come in the place of others, and refusals that users cannot tell apart.
use Rattle.std.specs.Prelude.{◌≡◌, ◌⊎◌, ⊤, ℕ, List, Result, Ok, Err, ◌≢◌, Option}
use Rattle.tce_command.specs.Report.{status_of, code_of, error_text}
use Rattle.tce_command.specs.declared.refusal.Refusal.{Refusal}
use Rattle.tce_command.specs.declared.refusal.Refusal.TheVariants.{Missing, Disk, Memory}
use Rattle.tce_outside.specs.Files.{Files}

-- the refusal names this file, or this tensor
abbrev pub NamesFile : List ℕ → Refusal → Type 0
NamesFile name (Missing file) = file.bytes ≡ name
NamesFile name refusal = ⊥

-- the disk failed or memory was wanting, which may come in the place of each other answer
abbrev pub IsFree : Refusal → Type 0
IsFree Disk = ⊤
IsFree Memory = ⊤
IsFree refusal = ⊥

-- the same exit status and the same line, up to the tensor that is stored in pairs: one command names one
abbrev pub SameRefusal : Refusal → Refusal → Type 0
SameRefusal a b = (code_of (status_of a) ≡ code_of (status_of b)) × (error_text (status_of a) ≡ error_text (status_of b))

-- the answer is the refusal that is due, or a free one in its place
abbrev pub IsRefusedAs : {A : Type 0} → Refusal → Result A Refusal → Type 0
IsRefusedAs due (Ok answer) = ⊥
IsRefusedAs due (Err refusal) = IsFree refusal ⊎ SameRefusal refusal due

-- the files are as they were, unless the disk failed; or it is known which of the two is so
abbrev pub SameUnlessDisk : Option Files → Option Files → Refusal → Type 0
SameUnlessDisk before after refusal = refusal ≢ Disk → after ≡ before

abbrev pub SameOrDisk : Option Files → Option Files → Refusal → Type 0
SameOrDisk before after refusal = (refusal ≡ Disk) ⊎ (after ≡ before)
