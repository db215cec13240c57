-- What a command leaves on the sink.
use Rattle.std.specs.Prelude.{◌≡◌, ◌⊎◌, ⊤, ℕ, List, ◌++◌, take, Option}
use Rattle.std.specs.Option.{option_map}
use Rattle.tce_outside.specs.Fault.{Rose}
use Rattle.tce_command.specs.Report.{LineNames, code_of, line_over}
use Rattle.tce_command.specs.declared.status.Status.{Status}
use Rattle.tce_command.specs.declared.status.Status.TheVariants.{Done, DiskFault, SinkFault, WantOfMemory}

-- a device failed, or memory was wanting; these may come in the place of each other status
abbrev pub IsFault : Status → Type 0
IsFault DiskFault = ⊤
IsFault SinkFault = ⊤
IsFault WantOfMemory = ⊤
IsFault status = ⊥

-- a refusal that is neither a fault nor want of memory
abbrev pub IsRefusal : Status → Type 0
IsRefusal Done = ⊥
IsRefusal DiskFault = ⊥
IsRefusal SinkFault = ⊥
IsRefusal WantOfMemory = ⊥
IsRefusal status = ⊤

-- a status that has an error line
abbrev pub HasLine : Status → Type 0
HasLine Done = ⊥
HasLine SinkFault = ⊥
HasLine status = ⊤

-- the status is the one that is due, or a fault
abbrev pub Answers : Status → Status → Type 0
Answers status due = IsFault status ⊎ ((code_of status ≡ code_of due) × ((names : LineNames) → line_over names status ≡ line_over names due))

-- a status is kept, or there was no memory for its line; a failing disk is always told
abbrev pub IsKept : Status → Status → Type 0
IsKept status result = (result ≡ status) ⊎ ((result ≡ WantOfMemory) × (status ≡ DiskFault → ⊥))

-- a sink that tells its bytes grew by the text, or by a part of it from the front
abbrev pub Grew : List ℕ → Option (List ℕ) → Option (List ℕ) → Type 0
Grew text before after = after ≡ option_map (λ bytes. bytes ++ text) before

abbrev pub GrewWithin : List ℕ → Option (List ℕ) → Option (List ℕ) → Type 0
GrewWithin text before after = (k : ℕ) × Grew (take k text) before after

-- the sink grew by a part of the error line from the front, and by the whole of it where the status is no fault and the count of faults did not rise
pub record HasErrorLine (names : LineNames) (status : Status) (before after : Option (List ℕ)) (faults faults_after : ℕ) : Type 0 where
  pub part : GrewWithin (line_over names status) before after
  pub whole : IsRefusal status → Grew (line_over names status) before after ⊎ Rose faults faults_after

-- the line of the status, whatever lines name, is put; and where a text is that line, it is
abbrev pub PutsStatus : {K : Type 0} → Status → (K → Option (List ℕ)) → (K → ℕ) → K → K → Type 0
PutsStatus status bytes faults before after =
    (names : LineNames) → HasErrorLine names status (bytes before) (bytes after) (faults before) (faults after)

abbrev pub PutsLine : {K : Type 0} → List ℕ → Status → Status → (K → Option (List ℕ)) → (K → ℕ) → K → K → Type 0
PutsLine line due status bytes faults before after =
    (names : LineNames) → line ≡ line_over names due → HasErrorLine names status (bytes before) (bytes after) (faults before) (faults after)

-- the report is put whole, the sink failed behind a part of it, or there was no memory for it
abbrev pub IsReported : Status → Type 0
IsReported status = (status ≡ Done) ⊎ ((status ≡ SinkFault) ⊎ (status ≡ WantOfMemory))
