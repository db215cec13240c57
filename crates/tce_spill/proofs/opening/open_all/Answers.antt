use Rattle.std.proofs.Common.{◌≡◌, ℕ, List, Option, Result, Err, refl, subst}
use Rattle.std.specs.Option.{ForSome}
use Rattle.tce_outside.specs.Files.{Files}
use Rattle.tce_outside.proofs.Causes.{cause_as, answered_quiet}
use Rattle.tce_array.specs.declared.fault.ArrayFault.{ArrayFault}
use Rattle.tce_spec.specs.Specification.{Specification}
use Rattle.tce_job.specs.TensorFiles.{name_of}
use Rattle.tce_job.specs.Opened.{IsRefused}
use Rattle.tce_job.specs.declared.fault.JobFault.{JobFault}
use Rattle.tce_job.specs.declared.fault.JobFault.TheVariants.{Array, Disk}
use Rattle.tce_job.specs.Refusals.{IsOpeningFault as IsFaultByNumber}
use Rattle.tce_job.proofs.Answered.{answered}
use Rattle.tce_spill.specs.CutRefusals.{IsFree}
use Rattle.tce_spill.specs.declared.fault.SpillFault.{SpillFault}
use Rattle.tce_spill.specs.declared.fault.SpillFault.TheVariants as spill
use Rattle.tce_spill.specs.RunRefusals.{IsTensorRefused}
use Rattle.tce_spill.proofs.opening.open_all.Goals as goal

-- an operand that is refused is no failure
no_failure : {A Q : Type 0} {t : ℕ} {u : ArrayFault} (f : JobFault) (given : Result A JobFault) → f ≡ Array t u → given ≡ Err f → given ≡ Err Disk → Q
no_failure f given is told failed = absurd (cc)

named_no_failure : {A Q : Type 0} (f : SpillFault) (given : Result A SpillFault) → given ≡ Err f → (IsFree f → ⊥) → given ≡ Err spill.Disk → Q
named_no_failure f given is named failed =
    let disk : spill.Disk ≡ f = cc in
    absurd (named (subst IsFree disk tt))

-- an operand that is refused by its number is refused by its name
by_name : (told : Option Files) (s : Specification) (t : ℕ) (fault : ArrayFault) (name : List ℕ) → IsFaultByNumber told s (Array t fault) → name ≡ name_of s t
    → IsTensorRefused (λ u. ForSome told (λ files. IsRefused files s (record { tensor = u; fault = fault }))) s name fault
by_name told s t fault name why named = record { number = t; declared = why.0.0; named = named; refused = why.0.1; real = why.1 }

pub returns-in-Ok-clause-opened : goal.returns-in-Ok-clause-opened
returns-in-Ok-clause-opened g c = c.in-Ok.ensures.opened

pub returns-in-Ok-clause-same : goal.returns-in-Ok-clause-same
returns-in-Ok-clause-same g c = c.opened_forms.ensures.same

pub returns-in-Ok-clause-fault_reported : goal.returns-in-Ok-clause-fault_reported
returns-in-Ok-clause-fault_reported g c = record {
  cause = cause_as _ _ (answered c.in-Ok.forms _ refl) c.in-Ok.ensures.fault_reported.cause;
  quiet = λ none. answered_quiet _ _ c.in-Ok.forms _ refl c.in-Ok.ensures.fault_reported.quiet;
}

pub returns-in-Err-Array-clause-same : goal.returns-in-Err-Array-clause-same
returns-in-Err-Array-clause-same g c = c.opened_forms.ensures.same

pub returns-in-Err-Array-clause-refused : goal.returns-in-Err-Array-clause-refused
returns-in-Err-Array-clause-refused g c =
    by_name (g.D.Disk.files c.args.disk.now) c.args.spec.now c.in-Err-Array.t c.in-Err-Array.fault _ (rw c.in-Err-Array.field-0-is at c.in-Err-Array.ensures.refused) c.tensor.ensures.name

pub returns-in-Err-Array-clause-fault_reported : goal.returns-in-Err-Array-clause-fault_reported
returns-in-Err-Array-clause-fault_reported g c = record {
  cause = cause_as _ _ (named_no_failure _ _ refl (λ free. free)) c.in-Err-Array.ensures.fault_reported.cause;
  quiet = λ none. c.in-Err-Array.ensures.fault_reported.quiet (no_failure c.in-Err-Array.field-0 _ c.in-Err-Array.field-0-is refl);
}
