use Rattle.std.proofs.Common.{◌≡◌, true, false, Result, Err, sym, refl, ◌∙◌, rules}
use Rattle.tce_outside.proofs.Causes.{cause_as, cause_since}
use Rattle.tce_command.specs.declared.refusal.Refusal.{Refusal}
use Rattle.tce_command.specs.declared.refusal.Refusal.TheVariants.{Disk, Memory}
use Rattle.tce_command.proofs.Outcomes.{ok_no_disk}
use Rattle.tce_plan.proofs.reading.read_file.Goals as goal

-- an answer is no failure, and neither is want of memory
never : false ≡ true → ⊥
never e = absurd (cc)

wanting : {U : Type 0} (given : Result U Refusal) → given ≡ Err Memory → given ≡ Err Disk → ⊥
wanting given is failed = let same : Err Memory ≡ Err Disk = sym is ∙ failed in absurd (cc)

pub returns-in_default-size-clause-fault_reported : goal.returns-in_default-size-clause-fault_reported
returns-in_default-size-clause-fault_reported g c = record {
  cause = search rules;
  quiet = λ none. c.in-Ok.ensures.fault_reported.quiet never;
}

pub returns-in_default-vec-clause-fault_reported : goal.returns-in_default-vec-clause-fault_reported
returns-in_default-vec-clause-fault_reported g c = record {
  cause = cause_as _ _ (λ failed. absurd (wanting _ refl failed)) c.in-Ok.ensures.fault_reported.cause;
  quiet = λ none. c.in-Ok.ensures.fault_reported.quiet never;
}

pub returns-in-Ok-read_at-clause-same : goal.returns-in-Ok-read_at-clause-same
returns-in-Ok-read_at-clause-same g c = c.in-Ok-read_at.ensures.same ∙ c.in-Ok.ensures.same

pub returns-in-Ok-read_at-clause-fault_reported : goal.returns-in-Ok-read_at-clause-fault_reported
returns-in-Ok-read_at-clause-fault_reported g c = record {
  cause = cause_since _ _ _ c.in-Ok.ensures.fault_reported.cause.later (cause_as _ _ (λ failed. absurd (ok_no_disk _ _ refl failed)) c.in-Ok-read_at.ensures.fault_reported.cause);
  quiet = λ none. c.in-Ok-read_at.ensures.fault_reported.quiet never ∙ c.in-Ok.ensures.fault_reported.quiet never;
}

pub returns-in-Err-clause-same : goal.returns-in-Err-clause-same
returns-in-Err-clause-same g c = c.in-Err.ensures.same ∙ c.in-Ok.ensures.same

pub returns-in-Err-clause-fault_reported : goal.returns-in-Err-clause-fault_reported
returns-in-Err-clause-fault_reported g c = record {
  cause = cause_since _ _ _ c.in-Ok.ensures.fault_reported.cause.later (cause_as _ _ (λ failed. refl) c.in-Err.ensures.fault_reported.cause);
  quiet = λ none. absurd (none refl);
}
