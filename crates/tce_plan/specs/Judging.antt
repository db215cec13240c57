-- What is answered to a text.
use Rattle.std.specs.Prelude.{◌≡◌, ◌≢◌, ℕ, List}
use Rattle.tce_space.specs.Space.{IndexSpace}
use Rattle.tce_fusion.specs.Least.{IsLeast}
use Rattle.tce_nesting.specs.declared.plan.Plan.{Plan}
use Rattle.tce_cert.specs.declared.fault.CertFault.{CertFault}
use Rattle.tce_cert.specs.declared.fault.CertFault.TheVariants as certs
use Rattle.tce_check.specs.Verdict.{IsAccepted, IsVerdict}
use Rattle.tce_check.specs.declared.verdict.Verdict.TheVariants.{Accepted}
use Rattle.tce_spec.specs.Specification.{Specification}
use Rattle.tce_command.specs.CommandRefusals.{IsWrittenOver}
use Rattle.tce_command.specs.Report.{trouble_of}
use Rattle.tce_command.specs.declared.trouble.CertTrouble.{CertTrouble}
use Rattle.tce_command.specs.declared.trouble.CertTrouble.TheVariants as troubles
use Rattle.tce_command.specs.declared.refusal.Refusal.TheVariants.{Memory}
use Rattle.tce_command.specs.declared.command_refusal.CommandRefusal.{CommandRefusal}
use Rattle.tce_command.specs.declared.command_refusal.CommandRefusal.TheVariants.{Common, Certificate}
use Rattle.tce_plan.specs.Certificates.{IsCertificateOf, IsTrouble}

-- the text is the certificate of an accepted plan of this memory
pub record IsAcceptedText (s : Specification) (text : List ℕ) (memory : ℕ) : Type 0 where
  pub plan : Plan
  pub certifies : IsCertificateOf s plan text
  pub accepted : IsAccepted s.declarations.space s.tree plan
  pub least : IsLeast s.declarations.space s.tree plan.fusion.0.items
  pub memory_is : memory ≡ plan.memory

-- memory was wanting, or this fault is told in a line over the space
abbrev pub SaysFault : IndexSpace → CertFault → CommandRefusal → Type 0
SaysFault space fault (Common refusal) = (refusal ≡ Memory) × (fault ≡ certs.Memory)
SaysFault space fault (Certificate flaw line) = (trouble_of flaw ≡ troubles.Text fault) × IsWrittenOver space (Certificate flaw line)

-- memory is wanting, or this is wrong with the text, in a line over the specification's space
abbrev pub IsJudgement : Specification → List ℕ → CommandRefusal → Type 0
IsJudgement s text (Common refusal) = refusal ≡ Memory
IsJudgement s text (Certificate flaw line) = IsTrouble s text (trouble_of flaw) × IsWrittenOver s.declarations.space (Certificate flaw line)

-- a plan is refused with this verdict
abbrev pub IsOfPlan : Specification → Plan → CertTrouble → Type 0
IsOfPlan s plan (troubles.Verdict verdict) = (verdict ≢ Accepted) × IsVerdict s.declarations.space s.tree plan verdict
IsOfPlan s plan (troubles.Text fault) = ⊥

-- and the refusal says so in such a line
abbrev pub IsPlanRefusal : Specification → Plan → CommandRefusal → Type 0
IsPlanRefusal s plan (Certificate flaw line) = IsOfPlan s plan (trouble_of flaw) × IsWrittenOver s.declarations.space (Certificate flaw line)
IsPlanRefusal s plan (Common refusal) = ⊥

-- no legal fusion of the specification's tree takes less memory than the plan's
abbrev pub IsOfLeast : Specification → Plan → Type 0
IsOfLeast s plan = IsLeast s.declarations.space s.tree plan.fusion.0.items
