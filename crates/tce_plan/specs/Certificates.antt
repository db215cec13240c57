-- Certificates of a specification's plans, and what may be wrong with a text.
use Rattle.std.specs.Prelude.{◌≡◌, ◌≢◌, ℕ, List}
use Rattle.tce_space.specs.Space.{IsSpace}
use Rattle.tce_tree.specs.FlatTree.{IsTree}
use Rattle.tce_tree.specs.WellFormed.{IsDeclaredTree}
use Rattle.tce_nesting.specs.Plan.{PlanFits}
use Rattle.tce_nesting.specs.declared.plan.Plan.{Plan}
use Rattle.tce_cert.specs.Certificate.{certificate}
use Rattle.tce_cert.specs.Faults.{IsFault}
use Rattle.tce_cert.specs.Laws.{RowsAreNestings}
use Rattle.tce_check.specs.Verdict.{IsVerdict}
use Rattle.tce_check.specs.declared.verdict.Verdict.{Verdict}
use Rattle.tce_check.specs.declared.verdict.Verdict.TheVariants.{Accepted}
use Rattle.tce_spec.specs.Specification.{Specification}
use Rattle.tce_command.specs.declared.trouble.CertTrouble.{CertTrouble}
use Rattle.tce_command.specs.declared.trouble.CertTrouble.TheVariants as troubles

-- the text is the certificate of a plan that fits the specification's tree
pub record IsCertificateOf (s : Specification) (plan : Plan) (text : List ℕ) : Type 0 where
  pub space : IsSpace s.declarations.space
  pub tree : IsTree s.tree
  pub declared : IsDeclaredTree s.declarations.space s.tree
  pub fits : PlanFits s.tree plan
  pub nestings : RowsAreNestings plan.tables
  pub text_is : text ≡ certificate s.declarations.space s.tree plan

-- the text is that of a plan which is refused with this verdict
pub record IsRefusedPlan (s : Specification) (text : List ℕ) (verdict : Verdict) : Type 0 where
  pub plan : Plan
  pub certifies : IsCertificateOf s plan text
  pub right : IsVerdict s.declarations.space s.tree plan verdict
  pub refused : verdict ≢ Accepted

-- why a text is refused: its first faulty line, or the first rule that its plan breaks
abbrev pub IsTrouble : Specification → List ℕ → CertTrouble → Type 0
IsTrouble s text (troubles.Text fault) = IsFault s.declarations.space s.tree text fault
IsTrouble s text (troubles.Verdict verdict) = IsRefusedPlan s text verdict
