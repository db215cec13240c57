-- The file of an einsum's specification.
use Rattle.std.proofs.Common.{List, ℕ, Option, Ok}
use Rattle.tce_outside.specs.Files.{Files}
use Rattle.tce_spec.specs.Specification.{Specification}
use Rattle.tce_einsum.specs.Produced.{produced_text}
use Rattle.tce_einsum.specs.Answer.{Produces}
use Rattle.tce_einsum.specs.HasValue.{HasValueOfEinsum}
use Rattle.tce_spec.proofs.Outcomes.{canonical_outcome}
use Rattle.tce_spec.proofs.Written.{outcome_writable}
use Rattle.tce_plan.specs.EinsumDone.{IsEinsumWritten, IsProducedWritten}

-- what was produced is written, and the text that was written specifies it
pub written_einsum : (before after : Option Files) (text path spec report : List ℕ) (s : Specification) → Produces text path (Ok s) → HasValueOfEinsum text path s → IsProducedWritten before after s spec report
    → IsEinsumWritten before after text path spec report
written_einsum before after text path spec report s p value w = record {
  specification = s;
  produced = p;
  value = value;
  specified = canonical_outcome s (outcome_writable (produced_text p.einsum p.items) s p.outcome);
  written = w.written;
  reported = w.reported;
}
