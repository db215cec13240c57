-- The file of a certificate.
use Rattle.std.proofs.Common.{◌≡◌, ◌∙◌, ap, ℕ, List, Option}
use Rattle.std.specs.Option.{ForSome}
use Rattle.tce_outside.specs.Files.{Files, holding}
use Rattle.tce_spec.specs.Specification.{Specification}
use Rattle.tce_command.specs.Source.{HasSpecification}
use Rattle.tce_plan.specs.CertificateDone.{IsCertified, IsSaved}

-- reading the specification changes no file
pub certified_source : (before read after : Option Files) (spec cert report : List ℕ) (s : Specification) → read ≡ before → ForSome before (λ files. HasSpecification files spec s)
    → IsSaved read after s cert report → IsCertified before after spec cert report
certified_source before read after spec cert report s same specified saved = record {
  specification = s;
  specified = specified;
  text = saved.text;
  certified = saved.certified;
  written = saved.written ∙ ap (holding cert saved.text) same;
}
