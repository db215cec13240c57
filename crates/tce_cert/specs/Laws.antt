-- Laws of certificates and of their faults.
use Rattle.std.specs.Prelude.{◌≡◌, ℕ, ◌<◌, ◌≤◌, List, length, ◌≢◌, Result, IfErr}
use Rattle.std.specs.List.{All}
use Rattle.tce_space.specs.Limits.{cost_limit, max_loops}
use Rattle.tce_space.specs.Space.{IndexSpace, IsSpace}
use Rattle.tce_tree.specs.ContractionTree.{ContractionTree}
use Rattle.tce_tree.specs.FlatTree.{IsTree}
use Rattle.tce_tree.specs.WellFormed.{IsDeclaredTree}
use Rattle.tce_fusion.specs.StateClasses.{IsNesting}
use Rattle.tce_fusion.specs.Row.{Row, rows_at}
use Rattle.tce_nesting.specs.Plan.{PlanFits}
use Rattle.tce_nesting.specs.declared.plan.Plan.{Plan}
use Rattle.tce_cert.specs.declared.fault.CertFault.{CertFault}
use Rattle.tce_cert.specs.Certificate.{certificate}
use Rattle.tce_cert.specs.Faults.{IsFault}
use Rattle.tce_cert.specs.declared.fault.CertFault.TheVariants.{Memory}

-- what a row is by its type: a nesting of at most ten classes
pub record IsNestingRow (row : Row) : Type 0 where
  pub nesting : IsNesting row.classes
  pub few : length row.classes ≤ max_loops

-- such rows, and in each list fewer than the limit of all numbers in lines
pub record AreNestingRows (rows : List Row) : Type 0 where
  pub each : All IsNestingRow rows
  pub few : length rows < cost_limit

abbrev pub RowsAreNestings : List (List Row) → Type 0
RowsAreNestings tables = (v : ℕ) → v < length tables → AreNestingRows (rows_at tables v)

-- plans that fit are their certificates
abbrev pub PlansAreTheirCertificates : Type 0
PlansAreTheirCertificates =
    (space : IndexSpace) (tree : ContractionTree) (p q : Plan) → IsSpace space → IsTree tree → IsDeclaredTree space tree
    → PlanFits tree p → RowsAreNestings p.tables → PlanFits tree q → RowsAreNestings q.tables → certificate space tree p ≡ certificate space tree q → p ≡ q

-- a text has at most one first fault
abbrev pub FirstFaultsAreAlone : Type 0
FirstFaultsAreAlone = (space : IndexSpace) (tree : ContractionTree) (text : List ℕ) (f g : CertFault) → IsFault space tree text f → IsFault space tree text g → f ≡ g

-- the certificate of a plan that fits has none
abbrev pub CertificatesHaveNoFault : Type 0
CertificatesHaveNoFault =
    (space : IndexSpace) (tree : ContractionTree) (plan : Plan) (fault : CertFault) → IsSpace space → IsTree tree → IsDeclaredTree space tree
    → PlanFits tree plan → RowsAreNestings plan.tables → IsFault space tree (certificate space tree plan) fault → ⊥

-- the text is the certificate of this plan, which fits the tree
abbrev pub Certifies : IndexSpace → ContractionTree → List ℕ → Plan → Type 0
Certifies space tree text plan = PlanFits tree plan × (text ≡ certificate space tree plan) × RowsAreNestings plan.tables

-- the fault is want of memory, or the first one of the text
abbrev pub IsFaultOrMemory : IndexSpace → ContractionTree → List ℕ → CertFault → Type 0
IsFaultOrMemory space tree text fault = fault ≢ Memory → IsFault space tree text fault

-- where the text is the certificate of a plan, it is answered with that error alone which is want of memory
abbrev pub RefusesForMemory : {A : Type 0} → IndexSpace → ContractionTree → List ℕ → Result A CertFault → Type 0
RefusesForMemory space tree text result =
    (plan : Plan) → PlanFits tree plan → RowsAreNestings plan.tables → text ≡ certificate space tree plan → IfErr result (λ fault. fault ≡ Memory)
