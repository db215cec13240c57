-- What `einsum` leaves and reports.
use Rattle.std.specs.Prelude.{◌≡◌, ℕ, List, ◌++◌, length, Option, codes}
use Rattle.std.specs.declared.result.Result.TheVariants.{Ok}
use Rattle.std.specs.Fmt.{decimal}
use Rattle.tce_outside.specs.Files.{Files, holding}
use Rattle.tce_tree.specs.ContractionTree.{operations}
use Rattle.tce_spec.specs.Specification.{Specification}
use Rattle.tce_spec.specs.Canonical.{canonical_of}
use Rattle.tce_command.specs.Source.{Specifies}
use Rattle.tce_einsum.specs.Answer.{Produces}
use Rattle.tce_einsum.specs.HasValue.{HasValueOfEinsum}

-- the report: the number of nodes, the file that was written, and its length in bytes
abbrev pub einsum_report : ℕ → List ℕ → ℕ → List ℕ
einsum_report nodes file len = codes "tce einsum 1\nnodes " ++ (decimal nodes ++ (codes "\nwrote " ++ (file ++ (codes " " ++ (decimal len ++ codes "\n")))))

-- the specification that the text and the path produce is written as its canonical text, which specifies it; and its value is that of the einsum
pub record IsEinsumWritten (before after : Option Files) (text path file report : List ℕ) : Type 0 where
  pub specification : Specification
  pub produced : Produces text path (Ok specification)
  pub value : HasValueOfEinsum text path specification
  pub specified : Specifies (canonical_of specification) specification
  pub written : after ≡ holding file (canonical_of specification) before
  pub reported : report ≡ einsum_report (operations specification.tree) file (length (canonical_of specification))

-- a specification is written as its canonical text
pub record IsProducedWritten (before after : Option Files) (s : Specification) (file report : List ℕ) : Type 0 where
  pub written : after ≡ holding file (canonical_of s) before
  pub reported : report ≡ einsum_report (operations s.tree) file (length (canonical_of s))
