-- What `check` accepts and reports.
use Rattle.std.specs.Prelude.{◌≡◌, ℕ, List, ◌++◌, codes, Some, Option}
use Rattle.std.specs.Fmt.{decimal}
use Rattle.tce_outside.specs.Files.{Files, file}
use Rattle.tce_fusion.specs.Least.{IsLeast}
use Rattle.tce_nesting.specs.declared.plan.Plan.{Plan}
use Rattle.tce_check.specs.Verdict.{IsAccepted}
use Rattle.tce_spec.specs.Specification.{Specification}
use Rattle.tce_command.specs.Source.{HasSpecification}
use Rattle.tce_plan.specs.Certificates.{IsCertificateOf}
use Rattle.std.specs.Option.{ForSome}

-- the report: the memory of the plan
abbrev pub report_text : ℕ → List ℕ
report_text memory = codes "tce check 1\naccepted memory " ++ (decimal memory ++ codes "\n")

-- the one file specifies something, and the other holds the certificate of a plan for it that is accepted: its fusion is legal, its orders carry it, its sizes and its memory are those of the fusion, and its tables cover all fusions
pub record CanVerify (files : Files) (spec cert : List ℕ) : Type 0 where
  pub specification : Specification
  pub specified : HasSpecification files spec specification
  pub text : List ℕ
  pub held : file files cert ≡ Some text
  pub plan : Plan
  pub certifies : IsCertificateOf specification plan text
  pub accepted : IsAccepted specification.declarations.space specification.tree plan

-- a certificate of such a plan for a specification is accepted, no legal fusion takes less memory, and that memory is reported; where the disk tells its files, these are the specification and the certificate in them
pub record IsVerified (told : Option Files) (spec cert report : List ℕ) : Type 0 where
  pub specification : Specification
  pub specified : ForSome told (λ files. HasSpecification files spec specification)
  pub text : List ℕ
  pub held : ForSome told (λ files. file files cert ≡ Some text)
  pub plan : Plan
  pub certifies : IsCertificateOf specification plan text
  pub accepted : IsAccepted specification.declarations.space specification.tree plan
  pub least : IsLeast specification.declarations.space specification.tree plan.fusion.0.items
  pub reported : report ≡ report_text plan.memory
