use Rattle.std.proofs.Common.{◌≡◌, ◌∙◌, ap, List, ℕ, Result, Err, refl, subst, inl, inr}
use Rattle.tce_outside.specs.Files.{others, IsKeptOrZeros}
use Rattle.tce_job.specs.TensorFiles.{file_of}
use Rattle.tce_outside.specs.declared.device.OutFault.{OutFault}
use Rattle.tce_outside.specs.declared.device.OutFault.TheVariants as out
use Rattle.tce_job.proofs.Answered.{answered, wanting}
use Rattle.tce_job.proofs.Ended.{failed_is_no_half}
use Rattle.tce_outside.proofs.Causes.{cause_as}
use Rattle.tce_job.proofs.preparing.make_result.Goals as goal

no_failure : {A Q : Type 0} (f : OutFault) (given : Result A OutFault) → f ≡ out.Memory → given ≡ Err f → given ≡ Err out.Failed → Q
no_failure f given is told failed = absurd (cc)

pub returns-in-Ok-clause-no_half : goal.returns-in-Ok-clause-no_half
returns-in-Ok-clause-no_half g c =
    failed_is_no_half c.args.spec.now (g.D.Disk.files c.args.disk.now) (g.D.Disk.files c.make.new.self)
    (subst (λ (name : List ℕ). IsKeptOrZeros name (g.D.Disk.files c.args.disk.now) (g.D.Disk.files c.make.new.self)) (c.as_str.ensures.value ∙ c.file_of-name.ensures ∙ ap (file_of c.args.spec.now) c.result.ensures.tensor) c.make.ensures.zeros)

pub returns-in-Ok-clause-others : goal.returns-in-Ok-clause-others
returns-in-Ok-clause-others g c =
    subst (λ (name : List ℕ). others name (g.D.Disk.files c.make.new.self) ≡ others name (g.D.Disk.files c.args.disk.now)) (c.as_str.ensures.value ∙ c.file_of-name.ensures ∙ ap (file_of c.args.spec.now) c.result.ensures.tensor) c.make.ensures.others

pub returns-in-Err-Failed-clause-no_half : goal.returns-in-Err-Failed-clause-no_half
returns-in-Err-Failed-clause-no_half g c =
    failed_is_no_half c.args.spec.now (g.D.Disk.files c.args.disk.now) (g.D.Disk.files c.make.new.self)
    (subst (λ (name : List ℕ). IsKeptOrZeros name (g.D.Disk.files c.args.disk.now) (g.D.Disk.files c.make.new.self)) (c.as_str.ensures.value ∙ c.file_of-name.ensures ∙ ap (file_of c.args.spec.now) c.result.ensures.tensor) c.make.ensures.zeros)

pub returns-in-Err-Failed-clause-others : goal.returns-in-Err-Failed-clause-others
returns-in-Err-Failed-clause-others g c =
    subst (λ (name : List ℕ). others name (g.D.Disk.files c.make.new.self) ≡ others name (g.D.Disk.files c.args.disk.now)) (c.as_str.ensures.value ∙ c.file_of-name.ensures ∙ ap (file_of c.args.spec.now) c.result.ensures.tensor) c.make.ensures.others

pub returns-in-Err-Memory-clause-no_half : goal.returns-in-Err-Memory-clause-no_half
returns-in-Err-Memory-clause-no_half g c =
    failed_is_no_half c.args.spec.now (g.D.Disk.files c.args.disk.now) (g.D.Disk.files c.make.new.self)
    (subst (λ (name : List ℕ). IsKeptOrZeros name (g.D.Disk.files c.args.disk.now) (g.D.Disk.files c.make.new.self)) (c.as_str.ensures.value ∙ c.file_of-name.ensures ∙ ap (file_of c.args.spec.now) c.result.ensures.tensor) c.make.ensures.zeros)

pub returns-in-Err-Memory-clause-others : goal.returns-in-Err-Memory-clause-others
returns-in-Err-Memory-clause-others g c =
    subst (λ (name : List ℕ). others name (g.D.Disk.files c.make.new.self) ≡ others name (g.D.Disk.files c.args.disk.now)) (c.as_str.ensures.value ∙ c.file_of-name.ensures ∙ ap (file_of c.args.spec.now) c.result.ensures.tensor) c.make.ensures.others

pub returns-in-Ok-clause-fault_reported : goal.returns-in-Ok-clause-fault_reported
returns-in-Ok-clause-fault_reported g c = record {
  cause = cause_as _ _ (answered _ _ refl) c.in-Ok.ensures.fault_reported.cause;
  quiet = λ none. c.in-Ok.ensures.fault_reported.quiet (answered _ _ refl);
}

pub returns-in-Err-Failed-clause-unchanged : goal.returns-in-Err-Failed-clause-unchanged
returns-in-Err-Failed-clause-unchanged g c = inl refl

pub returns-in-Err-Failed-clause-fault_reported : goal.returns-in-Err-Failed-clause-fault_reported
returns-in-Err-Failed-clause-fault_reported g c = record {
  cause = cause_as _ _ (λ failed. ap Err c.in-Err-Failed.field-0-is) c.in-Err-Failed.ensures.fault_reported.cause;
  quiet = λ none. absurd (none refl);
}

pub returns-in-Err-Memory-clause-unchanged : goal.returns-in-Err-Memory-clause-unchanged
returns-in-Err-Memory-clause-unchanged g c = inr (c.in-Err-Memory.ensures.memory (ap Err c.in-Err-Memory.field-0-is))

pub returns-in-Err-Memory-clause-fault_reported : goal.returns-in-Err-Memory-clause-fault_reported
returns-in-Err-Memory-clause-fault_reported g c = record {
  cause = cause_as _ _ (wanting _ refl) c.in-Err-Memory.ensures.fault_reported.cause;
  quiet = λ none. c.in-Err-Memory.ensures.fault_reported.quiet (no_failure c.in-Err-Memory.field-0 _ c.in-Err-Memory.field-0-is refl);
}
