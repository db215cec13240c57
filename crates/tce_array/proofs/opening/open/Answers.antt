use Rattle.std.proofs.Common.{◌∙◌, Ok, Err, refl, sym, inr}
use Rattle.std.proofs.lemmas.Bool.{false≢true}
use Rattle.tce_outside.specs.Files.{file}
use Rattle.tce_outside.proofs.Causes.{no_cause, failed_after}
use Rattle.tce_array.specs.declared.fault.ArrayFault.TheVariants.{NoFile, BadLength, BadHeader}
use Rattle.tce_array.proofs.Answered.{form_is_no_disk_fault, no_file_is_no_disk_fault, length_is_no_disk_fault, header_is_no_disk_fault, is_absent, is_as_long, has_wrong_length, has_head_part, has_wrong_head, is_array}
use Rattle.tce_array.proofs.OneAnswer.{only_answer}
use Rattle.tce_array.proofs.opening.open.Goals as goal

pub returns-in_default-clause-form : goal.returns-in_default-clause-form
returns-in_default-clause-form g c = tt

pub returns-in_default-clause-fault : goal.returns-in_default-clause-fault
returns-in_default-clause-fault g c = λ x told. tt

pub returns-in_default-clause-exact : goal.returns-in_default-clause-exact
returns-in_default-clause-exact g c = λ x told answer right other. inr refl

pub returns-in_default-clause-same : goal.returns-in_default-clause-same
returns-in_default-clause-same g c = c.size.ensures.same

pub returns-in_default-clause-fault_reported : goal.returns-in_default-clause-fault_reported
returns-in_default-clause-fault_reported g c = record {
  cause =
      failed_after (g.D.Disk.faults c.args.disk.now) (g.D.Disk.faults c.args.disk.now) (g.D.Disk.faults c.size.new.self)
      refl
      c.in_default.ensures.fault_reported.cause;
  quiet = λ none. absurd (none refl);
}

pub returns-in_default-size-clause-form : goal.returns-in_default-size-clause-form
returns-in_default-size-clause-form g c = tt

pub returns-in_default-size-clause-fault : goal.returns-in_default-size-clause-fault
returns-in_default-size-clause-fault g c = λ x told. is_absent (file x c.args.name.now) (sym c.in_default-size.is ∙ c.in-Ok.ensures.length x told)

pub returns-in_default-size-clause-exact : goal.returns-in_default-size-clause-exact
returns-in_default-size-clause-exact g c x told =
    only_answer c.args.shape.now (file x c.args.name.now) (Err NoFile)
    no_file_is_no_disk_fault
    (returns-in_default-size-clause-fault g c x told)

pub returns-in_default-size-clause-same : goal.returns-in_default-size-clause-same
returns-in_default-size-clause-same g c = c.size.ensures.same

pub returns-in_default-size-clause-fault_reported : goal.returns-in_default-size-clause-fault_reported
returns-in_default-size-clause-fault_reported g c = record {
  cause =
      no_cause (g.D.Disk.faults c.args.disk.now) (g.D.Disk.faults c.size.new.self)
      (c.in-Ok.ensures.fault_reported.quiet false≢true)
      no_file_is_no_disk_fault;
  quiet = λ none. c.in-Ok.ensures.fault_reported.quiet false≢true;
}

pub find_form-requires : goal.find_form-requires
find_form-requires g c =
    λ x told. is_as_long (file x c.args.name.now) c.in-Some.len
    (sym c.in-Some.is ∙ c.in-Ok.ensures.length x (sym c.size.ensures.same ∙ told))

pub returns-in_default-find_form-clause-form : goal.returns-in_default-find_form-clause-form
returns-in_default-find_form-clause-form g c = tt

pub returns-in_default-find_form-clause-fault : goal.returns-in_default-find_form-clause-fault
returns-in_default-find_form-clause-fault g c = λ x told. tt

pub returns-in_default-find_form-clause-exact : goal.returns-in_default-find_form-clause-exact
returns-in_default-find_form-clause-exact g c = λ x told answer right other. inr refl

pub returns-in_default-find_form-clause-same : goal.returns-in_default-find_form-clause-same
returns-in_default-find_form-clause-same g c = c.find_form.ensures.same ∙ c.size.ensures.same

pub returns-in_default-find_form-clause-fault_reported : goal.returns-in_default-find_form-clause-fault_reported
returns-in_default-find_form-clause-fault_reported g c = record {
  cause =
      failed_after (g.D.Disk.faults c.args.disk.now) (g.D.Disk.faults c.size.new.self) (g.D.Disk.faults c.find_form.new.disk)
      (c.in-Ok.ensures.fault_reported.quiet false≢true)
      c.in_default-find_form.ensures.fault_reported.cause;
  quiet = λ none. absurd (none refl);
}

pub returns-then-len-form_len-clause-form : goal.returns-then-len-form_len-clause-form
returns-then-len-form_len-clause-form g c = tt

pub returns-then-len-form_len-clause-fault : goal.returns-then-len-form_len-clause-fault
returns-then-len-form_len-clause-fault g c =
    λ x told. has_wrong_length c.args.shape.now (file x c.args.name.now) c.in-Some.len c.in-Ok-find_form.form
    (sym c.in-Some.is ∙ c.in-Ok.ensures.length x told)
    (c.in-Ok-find_form.ensures.form x (c.size.ensures.same ∙ told))
    (λ e. c.if-len-form_len.true (e ∙ sym c.form_len.ensures.bytes))

pub returns-then-len-form_len-clause-exact : goal.returns-then-len-form_len-clause-exact
returns-then-len-form_len-clause-exact g c x told =
    only_answer c.args.shape.now (file x c.args.name.now) (Err (BadLength c.in-Some.len))
    (length_is_no_disk_fault c.in-Some.len)
    (returns-then-len-form_len-clause-fault g c x told)

pub returns-then-len-form_len-clause-same : goal.returns-then-len-form_len-clause-same
returns-then-len-form_len-clause-same g c = c.find_form.ensures.same ∙ c.size.ensures.same

pub returns-then-len-form_len-clause-fault_reported : goal.returns-then-len-form_len-clause-fault_reported
returns-then-len-form_len-clause-fault_reported g c = record {
  cause =
      no_cause (g.D.Disk.faults c.args.disk.now) (g.D.Disk.faults c.find_form.new.disk)
      (c.in-Ok-find_form.ensures.fault_reported.quiet false≢true ∙ c.in-Ok.ensures.fault_reported.quiet false≢true)
      (length_is_no_disk_fault c.in-Some.len);
  quiet = λ none. c.in-Ok-find_form.ensures.fault_reported.quiet false≢true ∙ c.in-Ok.ensures.fault_reported.quiet false≢true;
}

pub slice_bounds-buffer-end : goal.slice_bounds-buffer-end
slice_bounds-buffer-end g c = c.len.ensures.fits

pub read_at-requires : goal.read_at-requires
read_at-requires g c =
    λ x told. has_head_part c.args.shape.now c.in-Ok-find_form.form c.in-Some.len c.len.result _
    (c.if-len-form_len.false ∙ c.form_len.ensures.bytes)
    (c.len.ensures.value ∙ c.head-expected.ensures.len)
    c.len.ensures.fits
    (file x c.args.name.now)
    (sym c.in-Some.is ∙ c.in-Ok.ensures.length x (sym c.size.ensures.same ∙ sym c.find_form.ensures.same ∙ told))

pub returns-in_default-read_at-clause-form : goal.returns-in_default-read_at-clause-form
returns-in_default-read_at-clause-form g c = tt

pub returns-in_default-read_at-clause-fault : goal.returns-in_default-read_at-clause-fault
returns-in_default-read_at-clause-fault g c = λ x told. tt

pub returns-in_default-read_at-clause-exact : goal.returns-in_default-read_at-clause-exact
returns-in_default-read_at-clause-exact g c = λ x told answer right other. inr refl

pub returns-in_default-read_at-clause-same : goal.returns-in_default-read_at-clause-same
returns-in_default-read_at-clause-same g c = c.read_at.ensures.same ∙ c.find_form.ensures.same ∙ c.size.ensures.same

pub returns-in_default-read_at-clause-fault_reported : goal.returns-in_default-read_at-clause-fault_reported
returns-in_default-read_at-clause-fault_reported g c = record {
  cause =
      failed_after (g.D.Disk.faults c.args.disk.now) (g.D.Disk.faults c.find_form.new.disk) (g.D.Disk.faults c.read_at.new.self)
      (c.in-Ok-find_form.ensures.fault_reported.quiet false≢true ∙ c.in-Ok.ensures.fault_reported.quiet false≢true)
      c.in_default-read_at.ensures.fault_reported.cause;
  quiet = λ none. absurd (none refl);
}

pub returns-in-Some-first_difference-clause-form : goal.returns-in-Some-first_difference-clause-form
returns-in-Some-first_difference-clause-form g c = tt

pub returns-in-Some-first_difference-clause-fault : goal.returns-in-Some-first_difference-clause-fault
returns-in-Some-first_difference-clause-fault g c =
    λ x told. has_wrong_head c.args.shape.now c.in-Ok-find_form.form c.in-Some.len c.len.result _ c.read_at.new.out c.as_slice.result.now
    (c.if-len-form_len.false ∙ c.form_len.ensures.bytes)
    (c.as_slice.ensures.value ∙ c.head-expected.ensures.items)
    (c.len.ensures.value ∙ c.head-expected.ensures.len)
    c.len.ensures.fits
    (file x c.args.name.now) c.in-Some-first_difference.place
    (sym c.in-Some.is ∙ c.in-Ok.ensures.length x told)
    (c.in-Ok-find_form.ensures.form x (c.size.ensures.same ∙ told))
    (c.in-Ok-read_at.ensures.read x (c.find_form.ensures.same ∙ c.size.ensures.same ∙ told))
    c.in-Some-first_difference.ensures

pub returns-in-Some-first_difference-clause-exact : goal.returns-in-Some-first_difference-clause-exact
returns-in-Some-first_difference-clause-exact g c x told =
    only_answer c.args.shape.now (file x c.args.name.now) (Err (BadHeader c.in-Some-first_difference.place))
    (header_is_no_disk_fault c.in-Some-first_difference.place)
    (returns-in-Some-first_difference-clause-fault g c x told)

pub returns-in-Some-first_difference-clause-same : goal.returns-in-Some-first_difference-clause-same
returns-in-Some-first_difference-clause-same g c = c.read_at.ensures.same ∙ c.find_form.ensures.same ∙ c.size.ensures.same

pub returns-in-Some-first_difference-clause-fault_reported : goal.returns-in-Some-first_difference-clause-fault_reported
returns-in-Some-first_difference-clause-fault_reported g c = record {
  cause =
      no_cause (g.D.Disk.faults c.args.disk.now) (g.D.Disk.faults c.read_at.new.self)
      (c.in-Ok-read_at.ensures.fault_reported.quiet false≢true ∙ c.in-Ok-find_form.ensures.fault_reported.quiet false≢true ∙ c.in-Ok.ensures.fault_reported.quiet false≢true)
      (header_is_no_disk_fault c.in-Some-first_difference.place);
  quiet = λ none. c.in-Ok-read_at.ensures.fault_reported.quiet false≢true ∙ c.in-Ok-find_form.ensures.fault_reported.quiet false≢true ∙ c.in-Ok.ensures.fault_reported.quiet false≢true;
}

pub returns-in-None-clause-fault : goal.returns-in-None-clause-fault
returns-in-None-clause-fault g c = tt

pub returns-in-None-clause-form : goal.returns-in-None-clause-form
returns-in-None-clause-form g c =
    λ x told. is_array c.args.shape.now c.in-Ok-find_form.form c.in-Some.len c.len.result _ c.read_at.new.out c.as_slice.result.now
    (c.if-len-form_len.false ∙ c.form_len.ensures.bytes)
    (c.as_slice.ensures.value ∙ c.head-expected.ensures.items)
    (c.len.ensures.value ∙ c.head-expected.ensures.len)
    c.len.ensures.fits
    (file x c.args.name.now)
    (sym c.in-Some.is ∙ c.in-Ok.ensures.length x told)
    (c.in-Ok-find_form.ensures.form x (c.size.ensures.same ∙ told))
    (c.in-Ok-read_at.ensures.read x (c.find_form.ensures.same ∙ c.size.ensures.same ∙ told))
    c.in-None.ensures

pub returns-in-None-clause-exact : goal.returns-in-None-clause-exact
returns-in-None-clause-exact g c x told =
    only_answer c.args.shape.now (file x c.args.name.now) (Ok c.in-Ok-find_form.form)
    (form_is_no_disk_fault c.in-Ok-find_form.form)
    (returns-in-None-clause-form g c x told)

pub returns-in-None-clause-same : goal.returns-in-None-clause-same
returns-in-None-clause-same g c = c.read_at.ensures.same ∙ c.find_form.ensures.same ∙ c.size.ensures.same

pub returns-in-None-clause-fault_reported : goal.returns-in-None-clause-fault_reported
returns-in-None-clause-fault_reported g c = record {
  cause =
      no_cause (g.D.Disk.faults c.args.disk.now) (g.D.Disk.faults c.read_at.new.self)
      (c.in-Ok-read_at.ensures.fault_reported.quiet false≢true ∙ c.in-Ok-find_form.ensures.fault_reported.quiet false≢true ∙ c.in-Ok.ensures.fault_reported.quiet false≢true)
      (form_is_no_disk_fault c.in-Ok-find_form.form);
  quiet = λ none. c.in-Ok-read_at.ensures.fault_reported.quiet false≢true ∙ c.in-Ok-find_form.ensures.fault_reported.quiet false≢true ∙ c.in-Ok.ensures.fault_reported.quiet false≢true;
}
