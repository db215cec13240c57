-- What `cert` leaves and reports.
use Rattle.std.specs.Prelude.{◌≡◌, ℕ, List, ◌++◌, length, Option, codes}
use Rattle.std.specs.Option.{ForSome}
use Rattle.std.specs.Fmt.{decimal}
use Rattle.tce_outside.specs.Files.{Files, holding}
use Rattle.tce_space.specs.Space.{IsSpace}
use Rattle.tce_tree.specs.FlatTree.{IsTree}
use Rattle.tce_tree.specs.WellFormed.{IsDeclaredTree}
use Rattle.tce_nesting.specs.declared.plan.Plan.{Plan}
use Rattle.tce_search.specs.LeastPlan.{IsLeastPlan}
use Rattle.tce_cert.specs.Certificate.{certificate}
use Rattle.tce_cert.specs.Laws.{RowsAreNestings}
use Rattle.tce_spec.specs.Specification.{Specification}
use Rattle.tce_command.specs.Source.{HasSpecification}

-- the report: the memory, the file that was written, and its length in bytes
abbrev pub report_text : ℕ → List ℕ → ℕ → List ℕ
report_text memory cert len = codes "tce cert 1\nmemory " ++ (decimal memory ++ (codes "\nwrote " ++ (cert ++ (codes " " ++ (decimal len ++ codes "\n")))))

-- the text of a certificate of a plan of the specification's tree that fits it: its fusion is legal and no legal fusion takes less memory, its orders are the standard ones, its sizes and its memory are those of the fusion, and its tables cover all fusions with rows that are nestings; and the report where it stands in this file
pub record IsCertificate (s : Specification) (cert text report : List ℕ) : Type 0 where
  pub space : IsSpace s.declarations.space
  pub tree : IsTree s.tree
  pub declared : IsDeclaredTree s.declarations.space s.tree
  pub plan : Plan
  pub least : IsLeastPlan s.declarations.space s.tree plan
  pub nestings : RowsAreNestings plan.tables
  pub text_is : text ≡ certificate s.declarations.space s.tree plan
  pub reported : report ≡ report_text plan.memory cert (length text)

-- the file specifies what is certified, and the certificate is written
pub record IsCertified (before after : Option Files) (spec cert report : List ℕ) : Type 0 where
  pub specification : Specification
  pub specified : ForSome before (λ files. HasSpecification files spec specification)
  pub text : List ℕ
  pub certified : IsCertificate specification cert text report
  pub written : after ≡ holding cert text before

-- a certificate of the specification is written
pub record IsSaved (before after : Option Files) (s : Specification) (cert report : List ℕ) : Type 0 where
  pub text : List ℕ
  pub certified : IsCertificate s cert text report
  pub written : after ≡ holding cert text before
