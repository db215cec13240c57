-- A demonstration is refused as a run is.
use Rattle.std.proofs.Common.{◌≡◌, refl, sym, subst, ℕ, Result, Ok, Err, IfErr}
use Rattle.tce_job.specs.declared.fault.JobFault.TheVariants as faults
use Rattle.tce_spec.specs.Specification.{Specification}
use Rattle.tce_command.specs.declared.refusal.Refusal.{Refusal}
use Rattle.tce_command.specs.declared.refusal.Refusal.TheVariants as refusals
use Rattle.tce_run.specs.DemoSpecification.{IsDemoOf, IsExtent, demo_specification}
use Rattle.tce_run.proofs.DemoSpecified.{specified}
use Rattle.tce_run.specs.DemoDone.{IsOfRun, IsDemoRefusal}

-- of the example, which is made for these extents
pub all_of_demo : {A : Type 0} (answer : Result A Refusal) (s : Specification) (v o : ℕ) → s ≡ demo_specification v o → IsExtent v → IsExtent o → IfErr answer (IsOfRun s) → IfErr answer (IsDemoRefusal v o)
all_of_demo (Ok x) s v o is hv ho p = tt
all_of_demo (Err a) s v o is hv ho p = (s, subst (λ (x : Specification). IsDemoOf v o x) (sym is) (specified v o hv ho), p)

-- memory was wanting before anything was made
pub memory_of_demo : (v o : ℕ) → IsExtent v → IsExtent o → IsDemoRefusal v o refusals.Memory
memory_of_demo v o hv ho = (demo_specification v o, specified v o hv ho, (faults.Memory, refl))
