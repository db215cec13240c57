use Rattle.std.proofs.Common.{◌∙◌, Ok, Err, refl, sym, ap, inr, ◌+◌, ◌*◌}
use Rattle.std.proofs.lemmas.Bool.{false≢true}
use Rattle.tce_outside.specs.Files.{file}
use Rattle.tce_outside.proofs.Causes.{no_cause, failed_after}
use Rattle.tce_array.proofs.Answered.{is_absent}
use Rattle.tce_sym.specs.declared.fault.SymFault.TheVariants.{NoFile, BadLength, BadHeader}
use Rattle.tce_sym.proofs.OneAnswer.{only_answer}
use Rattle.tce_sym.proofs.Opened.{symmetry_is_no_disk_fault, no_file_is_no_disk_fault, length_is_no_disk_fault, header_is_no_disk_fault, is_short, has_head, has_wrong_head, is_stored, has_other_length}
use Rattle.tce_sym.proofs.opening.open_sym.Goals as goal

pub returns-in_default-clause-right : goal.returns-in_default-clause-right
returns-in_default-clause-right g c = tt

pub returns-in_default-clause-opened : goal.returns-in_default-clause-opened
returns-in_default-clause-opened g c = tt

pub returns-in_default-clause-fault : goal.returns-in_default-clause-fault
returns-in_default-clause-fault g c = λ x told. tt

pub returns-in_default-clause-exact : goal.returns-in_default-clause-exact
returns-in_default-clause-exact g c = λ x told answer right other. inr refl

pub returns-in_default-clause-same : goal.returns-in_default-clause-same
returns-in_default-clause-same g c = c.size.ensures.same

pub returns-in_default-clause-fault_reported : goal.returns-in_default-clause-fault_reported
returns-in_default-clause-fault_reported g c = record {
  cause =
      failed_after (g.D.Disk.faults c.args.disk.now) (g.D.Disk.faults c.args.disk.now) (g.D.Disk.faults c.size.new.self) refl c.in_default.ensures.fault_reported.cause;
  quiet = λ none. absurd (none refl);
}

pub returns-in_default-size-clause-right : goal.returns-in_default-size-clause-right
returns-in_default-size-clause-right g c = tt

pub returns-in_default-size-clause-opened : goal.returns-in_default-size-clause-opened
returns-in_default-size-clause-opened g c = tt

pub returns-in_default-size-clause-fault : goal.returns-in_default-size-clause-fault
returns-in_default-size-clause-fault g c =
    λ x told. is_absent (file x c.args.name.now) (sym c.in_default-size.is ∙ c.in-Ok.ensures.length x told)

pub returns-in_default-size-clause-exact : goal.returns-in_default-size-clause-exact
returns-in_default-size-clause-exact g c x told =
    only_answer c.args.shape.now.extents (file x c.args.name.now) (Err NoFile) no_file_is_no_disk_fault (returns-in_default-size-clause-fault g c x told)

pub returns-in_default-size-clause-same : goal.returns-in_default-size-clause-same
returns-in_default-size-clause-same g c = c.size.ensures.same

pub returns-in_default-size-clause-fault_reported : goal.returns-in_default-size-clause-fault_reported
returns-in_default-size-clause-fault_reported g c = record {
  cause =
      no_cause (g.D.Disk.faults c.args.disk.now) (g.D.Disk.faults c.size.new.self) (c.in-Ok.ensures.fault_reported.quiet false≢true) no_file_is_no_disk_fault;
  quiet = λ none. c.in-Ok.ensures.fault_reported.quiet false≢true;
}

pub returns-then-len-clause-right : goal.returns-then-len-clause-right
returns-then-len-clause-right g c = tt

pub returns-then-len-clause-opened : goal.returns-then-len-clause-opened
returns-then-len-clause-opened g c = tt

pub returns-then-len-clause-fault : goal.returns-then-len-clause-fault
returns-then-len-clause-fault g c =
    λ x told. is_short c.args.shape.now.extents (file x c.args.name.now) c.in-Some.len (sym c.in-Some.is ∙ c.in-Ok.ensures.length x told) c.if-len.true

pub returns-then-len-clause-exact : goal.returns-then-len-clause-exact
returns-then-len-clause-exact g c x told =
    only_answer c.args.shape.now.extents (file x c.args.name.now) (Err (BadLength c.in-Some.len)) (length_is_no_disk_fault c.in-Some.len) (returns-then-len-clause-fault g c x told)

pub returns-then-len-clause-same : goal.returns-then-len-clause-same
returns-then-len-clause-same g c = c.size.ensures.same

pub returns-then-len-clause-fault_reported : goal.returns-then-len-clause-fault_reported
returns-then-len-clause-fault_reported g c = record {
  cause =
      no_cause (g.D.Disk.faults c.args.disk.now) (g.D.Disk.faults c.size.new.self) (c.in-Ok.ensures.fault_reported.quiet false≢true) (length_is_no_disk_fault c.in-Some.len);
  quiet = λ none. c.in-Ok.ensures.fault_reported.quiet false≢true;
}

pub read_at-requires : goal.read_at-requires
read_at-requires g c = λ x told. has_head (file x c.args.name.now) c.in-Some.len _ refl (sym c.in-Some.is ∙ c.in-Ok.ensures.length x (sym c.size.ensures.same ∙ told)) c.if-len.false

pub returns-in_default-read_at-clause-right : goal.returns-in_default-read_at-clause-right
returns-in_default-read_at-clause-right g c = tt

pub returns-in_default-read_at-clause-opened : goal.returns-in_default-read_at-clause-opened
returns-in_default-read_at-clause-opened g c = tt

pub returns-in_default-read_at-clause-fault : goal.returns-in_default-read_at-clause-fault
returns-in_default-read_at-clause-fault g c = λ x told. tt

pub returns-in_default-read_at-clause-exact : goal.returns-in_default-read_at-clause-exact
returns-in_default-read_at-clause-exact g c = λ x told answer right other. inr refl

pub returns-in_default-read_at-clause-same : goal.returns-in_default-read_at-clause-same
returns-in_default-read_at-clause-same g c = c.read_at.ensures.same ∙ c.size.ensures.same

pub returns-in_default-read_at-clause-fault_reported : goal.returns-in_default-read_at-clause-fault_reported
returns-in_default-read_at-clause-fault_reported g c = record {
  cause =
      failed_after (g.D.Disk.faults c.args.disk.now) (g.D.Disk.faults c.size.new.self) (g.D.Disk.faults c.read_at.new.self) (c.in-Ok.ensures.fault_reported.quiet false≢true) c.in_default-read_at.ensures.fault_reported.cause;
  quiet = λ none. absurd (none refl);
}

pub returns-in-Err-clause-right : goal.returns-in-Err-clause-right
returns-in-Err-clause-right g c = tt

pub returns-in-Err-clause-opened : goal.returns-in-Err-clause-opened
returns-in-Err-clause-opened g c = tt

pub returns-in-Err-clause-fault : goal.returns-in-Err-clause-fault
returns-in-Err-clause-fault g c =
    λ x told. has_wrong_head c.args.shape.now.extents c.read_at.new.out c.in-Some.len _ refl c.if-len.false (file x c.args.name.now) c.in-Err.place (sym c.in-Some.is ∙ c.in-Ok.ensures.length x told) (c.in-Ok-read_at.ensures.read x (c.size.ensures.same ∙ told)) c.in-Err.ensures.wrong

pub returns-in-Err-clause-exact : goal.returns-in-Err-clause-exact
returns-in-Err-clause-exact g c x told =
    only_answer c.args.shape.now.extents (file x c.args.name.now) (Err (BadHeader c.in-Err.place)) (header_is_no_disk_fault c.in-Err.place) (returns-in-Err-clause-fault g c x told)

pub returns-in-Err-clause-same : goal.returns-in-Err-clause-same
returns-in-Err-clause-same g c = c.read_at.ensures.same ∙ c.size.ensures.same

pub returns-in-Err-clause-fault_reported : goal.returns-in-Err-clause-fault_reported
returns-in-Err-clause-fault_reported g c = record {
  cause =
      no_cause (g.D.Disk.faults c.args.disk.now) (g.D.Disk.faults c.read_at.new.self) (c.in-Ok-read_at.ensures.fault_reported.quiet false≢true ∙ c.in-Ok.ensures.fault_reported.quiet false≢true) (header_is_no_disk_fault c.in-Err.place);
  quiet = λ none. c.in-Ok-read_at.ensures.fault_reported.quiet false≢true ∙ c.in-Ok.ensures.fault_reported.quiet false≢true;
}

pub returns-then-len-stored_count-clause-right : goal.returns-then-len-stored_count-clause-right
returns-then-len-stored_count-clause-right g c = c.in-Ok-read_head.ensures.read.right

pub returns-then-len-stored_count-clause-opened : goal.returns-then-len-stored_count-clause-opened
returns-then-len-stored_count-clause-opened g c =
    λ x told. is_stored c.args.shape.now.extents c.read_at.new.out c.in-Some.len _ refl c.if-len.false (file x c.args.name.now) c.in-Ok-read_head.s (sym c.in-Some.is ∙ c.in-Ok.ensures.length x told)
    (c.in-Ok-read_at.ensures.read x (c.size.ensures.same ∙ told)) c.in-Ok-read_head.ensures.read
    (c.if-len-stored_count.true ∙ ap (λ n. 32 + 8 * n) c.stored_count.ensures.count)

pub returns-then-len-stored_count-clause-fault : goal.returns-then-len-stored_count-clause-fault
returns-then-len-stored_count-clause-fault g c = tt

pub returns-then-len-stored_count-clause-exact : goal.returns-then-len-stored_count-clause-exact
returns-then-len-stored_count-clause-exact g c x told =
    only_answer c.args.shape.now.extents (file x c.args.name.now) (Ok c.in-Ok-read_head.s) (symmetry_is_no_disk_fault c.in-Ok-read_head.s) (returns-then-len-stored_count-clause-opened g c x told)

pub returns-then-len-stored_count-clause-same : goal.returns-then-len-stored_count-clause-same
returns-then-len-stored_count-clause-same g c = c.read_at.ensures.same ∙ c.size.ensures.same

pub returns-then-len-stored_count-clause-fault_reported : goal.returns-then-len-stored_count-clause-fault_reported
returns-then-len-stored_count-clause-fault_reported g c = record {
  cause =
      no_cause (g.D.Disk.faults c.args.disk.now) (g.D.Disk.faults c.read_at.new.self) (c.in-Ok-read_at.ensures.fault_reported.quiet false≢true ∙ c.in-Ok.ensures.fault_reported.quiet false≢true) (symmetry_is_no_disk_fault c.in-Ok-read_head.s);
  quiet = λ none. c.in-Ok-read_at.ensures.fault_reported.quiet false≢true ∙ c.in-Ok.ensures.fault_reported.quiet false≢true;
}

pub returns-else-len-stored_count-clause-right : goal.returns-else-len-stored_count-clause-right
returns-else-len-stored_count-clause-right g c = tt

pub returns-else-len-stored_count-clause-opened : goal.returns-else-len-stored_count-clause-opened
returns-else-len-stored_count-clause-opened g c = tt

pub returns-else-len-stored_count-clause-fault : goal.returns-else-len-stored_count-clause-fault
returns-else-len-stored_count-clause-fault g c =
    λ x told. has_other_length c.args.shape.now.extents c.read_at.new.out c.in-Some.len _ refl c.if-len.false (file x c.args.name.now) c.in-Ok-read_head.s (sym c.in-Some.is ∙ c.in-Ok.ensures.length x told)
    (c.in-Ok-read_at.ensures.read x (c.size.ensures.same ∙ told)) c.in-Ok-read_head.ensures.read
    (λ right. c.if-len-stored_count.false (right ∙ ap (λ n. 32 + 8 * n) (sym c.stored_count.ensures.count)))

pub returns-else-len-stored_count-clause-exact : goal.returns-else-len-stored_count-clause-exact
returns-else-len-stored_count-clause-exact g c x told =
    only_answer c.args.shape.now.extents (file x c.args.name.now) (Err (BadLength c.in-Some.len)) (length_is_no_disk_fault c.in-Some.len) (returns-else-len-stored_count-clause-fault g c x told)

pub returns-else-len-stored_count-clause-same : goal.returns-else-len-stored_count-clause-same
returns-else-len-stored_count-clause-same g c = c.read_at.ensures.same ∙ c.size.ensures.same

pub returns-else-len-stored_count-clause-fault_reported : goal.returns-else-len-stored_count-clause-fault_reported
returns-else-len-stored_count-clause-fault_reported g c = record {
  cause =
      no_cause (g.D.Disk.faults c.args.disk.now) (g.D.Disk.faults c.read_at.new.self) (c.in-Ok-read_at.ensures.fault_reported.quiet false≢true ∙ c.in-Ok.ensures.fault_reported.quiet false≢true) (length_is_no_disk_fault c.in-Some.len);
  quiet = λ none. c.in-Ok-read_at.ensures.fault_reported.quiet false≢true ∙ c.in-Ok.ensures.fault_reported.quiet false≢true;
}
