use Rattle.std.proofs.Common.{sym, refl, ◌∙◌, rules}
use Rattle.std.proofs.lemmas.Bool.{false≢true}
use Rattle.tce_outside.proofs.Causes.{cause_as, cause_since}
use Rattle.tce_command.proofs.Outcomes.{ok_no_disk}
use Rattle.tce_command.proofs.Read.{long_file, long_may, memory_no_disk, text_no_disk}
use Rattle.tce_outside.specs.Files.{file}
use Rattle.tce_command.proofs.source_reading.read_text.Goals as goal

pub returns-then-len-clause-refused : goal.returns-then-len-clause-refused
returns-then-len-clause-refused g c = (long_may c.in-Some.len c.if-len.true, λ files told. long_file (file files c.args.name.now) c.in-Some.len (sym c.in-Some.is ∙ c.in-Ok.ensures.length files told) c.if-len.true)

pub returns-in_default-clause-fault_reported : goal.returns-in_default-clause-fault_reported
returns-in_default-clause-fault_reported g c = record {
  cause = search rules;
  quiet = λ none. absurd (none refl);
}

pub returns-in_default-size-clause-same : goal.returns-in_default-size-clause-same
returns-in_default-size-clause-same g c = c.in-Ok.ensures.same

pub returns-in_default-size-clause-fault_reported : goal.returns-in_default-size-clause-fault_reported
returns-in_default-size-clause-fault_reported g c = record {
  cause = search rules;
  quiet = λ none. c.in-Ok.ensures.fault_reported.quiet false≢true;
}

pub returns-then-len-clause-same : goal.returns-then-len-clause-same
returns-then-len-clause-same g c = c.in-Ok.ensures.same

pub returns-then-len-clause-fault_reported : goal.returns-then-len-clause-fault_reported
returns-then-len-clause-fault_reported g c = record {
  cause = record { later = c.in-Ok.ensures.fault_reported.cause.later; rose = λ failed. absurd (text_no_disk _ _ refl failed) };
  quiet = λ none. c.in-Ok.ensures.fault_reported.quiet false≢true;
}

pub returns-in_default-vec-clause-same : goal.returns-in_default-vec-clause-same
returns-in_default-vec-clause-same g c = c.in-Ok.ensures.same

pub returns-in_default-vec-clause-fault_reported : goal.returns-in_default-vec-clause-fault_reported
returns-in_default-vec-clause-fault_reported g c = record {
  cause = record { later = c.in-Ok.ensures.fault_reported.cause.later; rose = λ failed. absurd (memory_no_disk _ refl failed) };
  quiet = λ none. c.in-Ok.ensures.fault_reported.quiet false≢true;
}

pub returns-in-Ok-read_at-clause-same : goal.returns-in-Ok-read_at-clause-same
returns-in-Ok-read_at-clause-same g c = c.in-Ok-read_at.ensures.same ∙ c.in-Ok.ensures.same

pub returns-in-Ok-read_at-clause-fault_reported : goal.returns-in-Ok-read_at-clause-fault_reported
returns-in-Ok-read_at-clause-fault_reported g c = record {
  cause = cause_since _ _ _ c.in-Ok.ensures.fault_reported.cause.later (cause_as _ _ (λ failed. absurd (ok_no_disk _ _ refl failed)) c.in-Ok-read_at.ensures.fault_reported.cause);
  quiet = λ none. c.in-Ok-read_at.ensures.fault_reported.quiet false≢true ∙ c.in-Ok.ensures.fault_reported.quiet false≢true;
}

pub returns-in-Err-clause-same : goal.returns-in-Err-clause-same
returns-in-Err-clause-same g c = c.in-Err.ensures.same ∙ c.in-Ok.ensures.same

pub returns-in-Err-clause-fault_reported : goal.returns-in-Err-clause-fault_reported
returns-in-Err-clause-fault_reported g c = record {
  cause = cause_since _ _ _ c.in-Ok.ensures.fault_reported.cause.later (cause_as _ _ (λ failed. refl) c.in-Err.ensures.fault_reported.cause);
  quiet = λ none. absurd (none refl);
}
