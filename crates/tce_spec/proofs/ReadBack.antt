-- What the reader answers of a text that specifies something.
use Rattle.std.proofs.Common.{◌≡◌, Result, Ok, Err, None, IfOk, IfErr, refl}
use Rattle.tce_tree.specs.declared.fault.TreeFault.TheVariants as tree_faults
use Rattle.tce_spec.specs.FaultCode.{Shows}
use Rattle.tce_spec.specs.declared.fault.SpecFault.{SpecFault}
use Rattle.tce_spec.specs.declared.fault.SpecFault.TheVariants.{Memory, Tree}
use Rattle.tce_spec.specs.Specification.{Specification}
use Rattle.tce_spec.specs.OutcomeCode.{Answers}

only_memory : (f : SpecFault) → Shows None f → f ≡ Memory
only_memory Memory shown = refl
only_memory (Tree line tree_faults.Memory) shown = absurd shown
only_memory f shown = cc

pub answers_same : (s : Specification) (result : Result Specification SpecFault) → Answers (Ok s) result → IfOk result (λ read. read ≡ s)
answers_same s (Ok read) told = cc
answers_same s (Err f) told = tt

pub answers_memory : (s : Specification) (result : Result Specification SpecFault) → Answers (Ok s) result → IfErr result (λ fault. fault ≡ Memory)
answers_memory s (Ok read) told = tt
answers_memory s (Err f) told = only_memory f told
