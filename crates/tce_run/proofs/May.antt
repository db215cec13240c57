-- What a disk that tells its files may be refused for, one that tells nothing may be.
use Rattle.std.proofs.Common.{◌≡◌, ◌⊎◌, ℕ, List, Option, Some, None, inl, inr, refl}
use Rattle.tce_outside.specs.Files.{Files}
use Rattle.tce_spec.specs.Specification.{Specification}
use Rattle.tce_job.specs.declared.opening.Refused.{Refused}
use Rattle.tce_job.specs.declared.fault.JobFault.{JobFault}
use Rattle.tce_job.specs.declared.fault.JobFault.TheVariants as faults
use Rattle.tce_job.specs.Refusals.{MayBeRefused}
use Rattle.tce_job.specs.Told.{IsRefusalOf}
use Rattle.tce_batch.specs.Refusals.{IsCauseAt}
use Rattle.tce_spill.specs.declared.fault.SpillFault.{SpillFault}
use Rattle.tce_spill.specs.declared.fault.SpillFault.TheVariants as spills
use Rattle.tce_spill.specs.RunRefusals.{IsSpillCause}
use Rattle.tce_run.proofs.Reasons.{cause_map}

nothing_told : (P : Files → Type 0) (files : Files) → None ≡ Some files → P files
nothing_told P files told = absurd (cc)

-- a run
pub untold : (told : Option Files) (s : Specification) (budget : ℕ) (f : JobFault) → IsRefusalOf told s budget f → IsRefusalOf None s budget f
untold told s budget f = cause_map (MayBeRefused told s) (MayBeRefused None s) s budget f (λ r may. (may.0, nothing_told _))

-- several formulas
pub untold_at : (told : Option Files) (formulas : List Specification) (budget formula : ℕ) (f : JobFault) → IsCauseAt told formulas budget formula f → IsCauseAt None formulas budget formula f
untold_at told formulas budget formula (faults.BudgetTooSmall n) why = why
untold_at told formulas budget formula (faults.IntermediatesTooLarge n) why = why
untold_at told formulas budget formula (faults.Array t fault) why =
    record { number = why.number; specification = why.specification; counted = why.counted; at = why.at; here = (why.here.0, why.here.1, why.here.2, nothing_told _) }
untold_at told formulas budget formula faults.Disk why = why
untold_at told formulas budget formula faults.Memory why = why

-- the pieces of a tree
pub untold_pieces : (told : Option Files) (s : Specification) (budget limit : ℕ) (f : SpillFault) → IsSpillCause told s budget limit f → IsSpillCause None s budget limit f
untold_pieces told s budget limit spills.TooManyTensors why = why
untold_pieces told s budget limit (spills.LimitTooSmall v n) why = why
untold_pieces told s budget limit (spills.BudgetTooSmall n) why = why
untold_pieces told s budget limit (spills.Array name fault) why =
    let found = why.here.source in
    record {
      cut = why.cut;
      are_cut = why.are_cut;
      here = record { enough = why.here.enough; source = record { number = found.number; known = found.known; named = found.named; refused = nothing_told _; real = found.real } };
    }
untold_pieces told s budget limit spills.Disk why = tt
untold_pieces told s budget limit spills.Memory why = tt
