-- What the program answers over files that tell nothing.
use Rattle.std.specs.Prelude.{◌≡◌, ◌⊎◌, ℕ, List, [], Option, None}
use Rattle.tce_outside.specs.Fault.{HasCause}
use Rattle.tce_outside.specs.Files.{Files}
use Rattle.tce_command.specs.Command.{IsNoCommand}
use Rattle.tce_command.specs.Outcome.{Grew, GrewWithin, HasErrorLine, HasLine, IsRefusal}
use Rattle.tce_command.specs.Report.{LineNames, NamesNoIndex, IsWellFormed, code_of}
use Rattle.tce_command.specs.declared.trouble.CertTrouble.{CertTrouble}
use Rattle.tce_command.specs.declared.status.Status.{Status}
use Rattle.tce_command.specs.declared.status.Status.TheVariants.{Done, BadWords, CertRefused, SinkFault, WantOfMemory}
use Rattle.tce_top.specs.Cause.{MayEnd, OfCommand}
use Rattle.tce_top.specs.Outcome.{IsFinished, IsTensorOf}

-- the words are those of a command, which is done with this report over files that tell nothing and a room of its own
abbrev pub IsReport : List (List ℕ) → List ℕ → Type 0
IsReport words report = (after : Option Files) × (taken : List (ℕ × ℕ)) × IsFinished words None after [] taken report

-- a status has this exit status, and what it says of the words and of the sink is so: which words are no command, how a command may be refused, when the sink failed, and the report, the part of it, or the line that was put
pub record IsAnswer (words : List (List ℕ)) (before after : Option (List ℕ)) (faults faults_after code : ℕ) : Type 0 where
  pub status : Status
  pub code_is : code ≡ code_of status
  pub done : status ≡ Done → (report : List ℕ) × IsReport words report × Grew report before after
  pub cut_short : status ≡ SinkFault → (report : List ℕ) × IsReport words report × GrewWithin report before after
  pub bad_words : status ≡ BadWords → IsNoCommand words
  pub no_command : IsNoCommand words → (status ≡ BadWords) ⊎ (status ≡ WantOfMemory)
  pub refused : IsRefusal status → OfCommand words (λ command. MayEnd command status)
  pub well_formed : IsWellFormed status
  pub sink_fault : HasCause faults faults_after (status ≡ SinkFault)
  pub line : HasLine status → NamesNoIndex status → (names : LineNames) → IsTensorOf words status names.tensor → HasErrorLine names status before after faults faults_after
  pub cert_line : (trouble : CertTrouble) → status ≡ CertRefused trouble → (names : LineNames) × HasErrorLine names status before after faults faults_after
