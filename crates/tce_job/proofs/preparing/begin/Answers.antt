use Rattle.std.proofs.Common.{inr, refl}
use Rattle.tce_outside.proofs.Causes.{cause_as, no_cause, answered_quiet}
use Rattle.tce_job.proofs.Answered.{answered, same_fault, wanting}
use Rattle.tce_job.proofs.Made.{begun}
use Rattle.tce_job.proofs.Ended.{same_is_no_half}
use Rattle.tce_job.proofs.preparing.begin.Goals as goal

pub returns-in-Ok-make_result-clause-begun : goal.returns-in-Ok-make_result-clause-begun
returns-in-Ok-make_result-clause-begun g c =
    begun c.args.spec.now c.args.budget c.args.planned.forms.0 (g.D.Disk.files c.args.disk.now) (g.D.Disk.files c.make_result.new.disk) c.in-Ok.prepared c.space-space.ensures.rules
    c.requires.enough c.in-Ok.ensures.prepared c.requires.opened c.in-Ok-make_result.ensures.made

pub returns-in-Ok-make_result-clause-others : goal.returns-in-Ok-make_result-clause-others
returns-in-Ok-make_result-clause-others g c = c.make_result.ensures.others

pub returns-in-Ok-make_result-clause-no_half : goal.returns-in-Ok-make_result-clause-no_half
returns-in-Ok-make_result-clause-no_half g c = c.make_result.ensures.no_half

pub returns-in-Ok-make_result-clause-made : goal.returns-in-Ok-make_result-clause-made
returns-in-Ok-make_result-clause-made g c = c.in-Ok-make_result.ensures.made

pub returns-in-Err-clause-no_half : goal.returns-in-Err-clause-no_half
returns-in-Err-clause-no_half g c = c.make_result.ensures.no_half

pub returns-in-Err-clause-others : goal.returns-in-Err-clause-others
returns-in-Err-clause-others g c = c.make_result.ensures.others

pub returns-in-Err-clause-takings : goal.returns-in-Err-clause-takings
returns-in-Err-clause-takings g c = inr c.in-Ok.ensures.taken

pub returns-in-Ok-make_result-clause-prepared : goal.returns-in-Ok-make_result-clause-prepared
returns-in-Ok-make_result-clause-prepared g c = c.in-Ok.ensures.prepared

pub returns-in-Ok-make_result-clause-plan : goal.returns-in-Ok-make_result-clause-plan
returns-in-Ok-make_result-clause-plan g c = c.in-Ok.ensures.plan

pub returns-in-Ok-make_result-clause-taken : goal.returns-in-Ok-make_result-clause-taken
returns-in-Ok-make_result-clause-taken g c = c.in-Ok.ensures.taken

pub returns-in-Ok-make_result-clause-fault_reported : goal.returns-in-Ok-make_result-clause-fault_reported
returns-in-Ok-make_result-clause-fault_reported g c = record {
  cause = cause_as _ _ (answered c.in-Ok.prepared _ refl) c.in-Ok-make_result.ensures.fault_reported.cause;
  quiet = λ none. answered_quiet _ _ c.in-Ok-make_result.field-0 _ refl c.in-Ok-make_result.ensures.fault_reported.quiet;
}

pub returns-in-Err-clause-free : goal.returns-in-Err-clause-free
returns-in-Err-clause-free g c = c.in-Err.ensures.free

pub returns-in-Err-clause-unchanged : goal.returns-in-Err-clause-unchanged
returns-in-Err-clause-unchanged g c = c.in-Err.ensures.unchanged

pub returns-in-Err-clause-fault_reported : goal.returns-in-Err-clause-fault_reported
returns-in-Err-clause-fault_reported g c = record {
  cause = cause_as _ _ (same_fault c.in-Err.fault _ _ refl refl) c.in-Err.ensures.fault_reported.cause;
  quiet = λ none. c.in-Err.ensures.fault_reported.quiet (λ failed. none (same_fault c.in-Err.fault _ _ refl refl failed));
}

pub take_memory-requires-clause-enough : goal.take_memory-requires-clause-enough
take_memory-requires-clause-enough g c = c.requires.enough

pub take_memory-requires-clause-limit : goal.take_memory-requires-clause-limit
take_memory-requires-clause-limit g c = c.requires.limit

pub take_memory-requires-clause-plan : goal.take_memory-requires-clause-plan
take_memory-requires-clause-plan g c = c.requires.plan

pub take_memory-requires-clause-small : goal.take_memory-requires-clause-small
take_memory-requires-clause-small g c = c.requires.small

pub returns-in_default-clause-unchanged : goal.returns-in_default-clause-unchanged
returns-in_default-clause-unchanged g c = inr refl

pub returns-in_default-clause-no_half : goal.returns-in_default-clause-no_half
returns-in_default-clause-no_half g c = same_is_no_half c.args.spec.now (g.D.Disk.files c.args.disk.now) (g.D.Disk.files c.args.disk.now) refl

pub returns-in_default-clause-others : goal.returns-in_default-clause-others
returns-in_default-clause-others g c = refl

pub returns-in_default-clause-fault_reported : goal.returns-in_default-clause-fault_reported
returns-in_default-clause-fault_reported g c = record {
  cause = no_cause _ _ refl (wanting _ refl);
  quiet = λ none. refl;
}
