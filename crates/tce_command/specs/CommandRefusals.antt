-- Refusals of commands, those of certificates among them.
use Rattle.std.specs.Prelude.{◌≡◌, ⊤, ℕ, List, Option}
use Rattle.tce_space.specs.Space.{IndexSpace}
use Rattle.tce_command.specs.Refusals.{IsFree}
use Rattle.tce_command.specs.Report.{LineNames, cert_line, code_of, ending_of, line_over, trouble_of}
use Rattle.tce_command.specs.declared.trouble.CertFlaw.{CertFlaw}
use Rattle.tce_command.specs.declared.refusal.Refusal.{Refusal}
use Rattle.tce_command.specs.declared.refusal.Refusal.TheVariants.{Symmetry}
use Rattle.tce_command.specs.declared.command_refusal.CommandRefusal.{CommandRefusal}
use Rattle.tce_command.specs.declared.command_refusal.CommandRefusal.TheVariants.{Common, Certificate}
use Rattle.tce_command.specs.declared.status.Status.{Status}
use Rattle.tce_command.specs.Outcome.{HasErrorLine}

-- the refusal is that of a certificate with this flaw, and its line names indexes by this space
abbrev pub IsOfCertificate : IndexSpace → CertFlaw → CommandRefusal → Type 0
IsOfCertificate space flaw (Certificate kept line) = (kept ≡ flaw) × (line.text.bytes ≡ cert_line space (trouble_of flaw))
IsOfCertificate space flaw (Common refusal) = ⊥

-- the line of the refusal, if it names indexes, names them by this space
abbrev pub IsWrittenOver : IndexSpace → CommandRefusal → Type 0
IsWrittenOver space (Certificate flaw line) = line.text.bytes ≡ cert_line space (trouble_of flaw)
IsWrittenOver space (Common refusal) = ⊤

-- what the line of the refusal names is this
abbrev pub HasNames : LineNames → CommandRefusal → Type 0
HasNames names (Certificate flaw line) = line.text.bytes ≡ cert_line names.space (trouble_of flaw)
HasNames names (Common (Symmetry tensor trouble)) = tensor.bytes ≡ names.tensor
HasNames names (Common refusal) = ⊤

-- the disk failed or memory was wanting
abbrev pub MayReplace : CommandRefusal → Type 0
MayReplace (Common refusal) = IsFree refusal
MayReplace (Certificate flaw line) = ⊥

-- a refusal that is no certificate's, of which this holds
abbrev pub OnCommon : (Refusal → Type 0) → CommandRefusal → Type 0
OnCommon P (Common refusal) = P refusal
OnCommon P (Certificate flaw line) = ⊥

-- the same exit status and, whatever lines name, the same line
abbrev pub EndsAlike : CommandRefusal → CommandRefusal → Type 0
EndsAlike a b = (code_of (ending_of a) ≡ code_of (ending_of b)) × ((names : LineNames) → line_over names (ending_of a) ≡ line_over names (ending_of b))

-- the line of the refusal, over whatever it names, is put as that of the status
abbrev pub PutsRefusal : {K : Type 0} → CommandRefusal → Status → (K → Option (List ℕ)) → (K → ℕ) → K → K → Type 0
PutsRefusal refusal status bytes faults before after =
    (names : LineNames) → HasNames names refusal → HasErrorLine names status (bytes before) (bytes after) (faults before) (faults after)
