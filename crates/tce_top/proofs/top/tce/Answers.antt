use Rattle.std.proofs.Common.{refl, sym, subst, inl, inr, ℕ, List, arith}
use Rattle.tce_command.specs.Command.{batch, einsum, run, spill}
use Rattle.tce_command.specs.CommandCode.{command_of}
use Rattle.tce_command.specs.Outcome.{Grew, GrewWithin}
use Rattle.tce_command.specs.declared.status.Status.TheVariants.{Done, BadWords, CertRefused, DiskFault, SinkFault}
use Rattle.tce_command.proofs.Commands.{one_command}
use Rattle.tce_top.specs.Performed.{CanDo, IsCommandRefusal, IsDone, KeepsRoom, LeavesInTurn, LeavesNoHalf, MayRefuse, MayTake, OthersStay}
use Rattle.tce_top.proofs.Joined.{done_can, done_takes, done_cause, done_answers, may_end, refused_cause, refused_answers}
use Rattle.tce_top.proofs.Left as left
use Rattle.tce_top.proofs.Endings.{words_end, report_ends, no_refusal_ends, report_line, refusal_ends}
use Rattle.tce_top.proofs.top.tce.Goals as goal

pub returns-in_default-clause-line : goal.returns-in_default-clause-line
returns-in_default-clause-line g c = λ has plain names of. c.refuse_words.ensures.line names

pub returns-in_default-clause-unchanged : goal.returns-in_default-clause-unchanged
returns-in_default-clause-unchanged g c = λ refused. (refl, λ command is. left.keeps_same command _ _ _ refl)

pub returns-in_default-clause-refused : goal.returns-in_default-clause-refused
returns-in_default-clause-refused g c = λ refused command is. absurd (c.in_default.ensures command is)

pub returns-in-Ok-clause-refused : goal.returns-in-Ok-clause-refused
returns-in-Ok-clause-refused g c = λ refused. absurd (no_refusal_ends _ c.finish.ensures.cases refused)

pub returns-in-Err-clause-refused : goal.returns-in-Err-clause-refused
returns-in-Err-clause-refused g c = λ refused command is.
    let same = one_command _ _ command c.in-Some.ensures is in
    may_end command c.in-Err.refusal c.refuse.result c.refuse.ensures.kept refused (subst (λ k. MayRefuse k c.in-Err.refusal) (sym same) c.in-Err.ensures.refused.possible)

pub returns-in-Ok-clause-cut_off : goal.returns-in-Ok-clause-cut_off
returns-in-Ok-clause-cut_off g c = λ failed. left.not_cut_off c.finish.result _ c.finish.ensures.cases failed

pub returns-in-Ok-clause-run : goal.returns-in-Ok-clause-run
returns-in-Ok-clause-run g c = λ done spec budget is files put told sink.
    let same = one_command _ _ (run spec budget) c.in-Some.ensures is in
    let grew : Grew c.in-Ok.report.items (g.K.Sink.bytes c.args.out.now) (g.K.Sink.bytes c.finish.new.out) = subst (λ (bytes : List ℕ). Grew bytes (g.K.Sink.bytes c.args.out.now) (g.K.Sink.bytes c.finish.new.out)) c.deref.ensures.value (c.finish.ensures.done done) in
    left.whole_run spec budget files put _ _ _ _ _ _ _
    (subst
    (λ k. IsDone k (g.D.Disk.files c.args.disk.now) (g.D.Disk.files c.perform.new.disk) (g.R.Room.takings c.args.room.now) (g.R.Room.takings c.perform.new.room) c.in-Ok.report.items)
    (sym same) c.in-Ok.ensures.done.done)
    grew told sink

pub returns-in-Ok-clause-batch : goal.returns-in-Ok-clause-batch
returns-in-Ok-clause-batch g c = λ done spec budget is files put told sink.
    let same = one_command _ _ (batch spec budget) c.in-Some.ensures is in
    let grew : Grew c.in-Ok.report.items (g.K.Sink.bytes c.args.out.now) (g.K.Sink.bytes c.finish.new.out) = subst (λ (bytes : List ℕ). Grew bytes (g.K.Sink.bytes c.args.out.now) (g.K.Sink.bytes c.finish.new.out)) c.deref.ensures.value (c.finish.ensures.done done) in
    left.whole_batch spec budget files put _ _ _ _ _ _ _
    (subst
    (λ k. IsDone k (g.D.Disk.files c.args.disk.now) (g.D.Disk.files c.perform.new.disk) (g.R.Room.takings c.args.room.now) (g.R.Room.takings c.perform.new.room) c.in-Ok.report.items)
    (sym same) c.in-Ok.ensures.done.done)
    grew told sink

pub returns-in-Ok-clause-spill : goal.returns-in-Ok-clause-spill
returns-in-Ok-clause-spill g c = λ done spec budget limit is files put told sink.
    let same = one_command _ _ (spill spec budget limit) c.in-Some.ensures is in
    let grew : Grew c.in-Ok.report.items (g.K.Sink.bytes c.args.out.now) (g.K.Sink.bytes c.finish.new.out) = subst (λ (bytes : List ℕ). Grew bytes (g.K.Sink.bytes c.args.out.now) (g.K.Sink.bytes c.finish.new.out)) c.deref.ensures.value (c.finish.ensures.done done) in
    left.whole_spill spec budget limit files put _ _ _ _ _ _ _
    (subst
    (λ k. IsDone k (g.D.Disk.files c.args.disk.now) (g.D.Disk.files c.perform.new.disk) (g.R.Room.takings c.args.room.now) (g.R.Room.takings c.perform.new.room) c.in-Ok.report.items)
    (sym same) c.in-Ok.ensures.done.done)
    grew told sink

pub returns-in-Ok-clause-einsum : goal.returns-in-Ok-clause-einsum
returns-in-Ok-clause-einsum g c = λ done text path spec is files told.
    let same = one_command _ _ (einsum text path spec) c.in-Some.ensures is in
    left.whole_einsum text path spec files _ _ _ _ _
    (subst
    (λ k. IsDone k (g.D.Disk.files c.args.disk.now) (g.D.Disk.files c.perform.new.disk) (g.R.Room.takings c.args.room.now) (g.R.Room.takings c.perform.new.room) c.in-Ok.report.items)
    (sym same) c.in-Ok.ensures.done.done)
    told

pub returns-in-Ok-clause-cause : goal.returns-in-Ok-clause-cause
returns-in-Ok-clause-cause g c = λ command is files told.
    let same = one_command _ _ command c.in-Some.ensures is in
    let can = done_can (command_of c.in-Some.command) (g.D.Disk.files c.args.disk.now) (g.D.Disk.files c.perform.new.disk) (g.R.Room.takings c.args.room.now) (g.R.Room.takings c.perform.new.room) c.in-Ok.report.items c.in-Ok.ensures.done.done files told in
    done_cause files command c.finish.result c.finish.ensures.cases (subst (CanDo files) (sym same) can)

pub returns-in-Ok-clause-exactly : goal.returns-in-Ok-clause-exactly
returns-in-Ok-clause-exactly g c = λ command is files told due free cause.
    let same = one_command _ _ command c.in-Some.ensures is in
    let can = done_can (command_of c.in-Some.command) (g.D.Disk.files c.args.disk.now) (g.D.Disk.files c.perform.new.disk) (g.R.Room.takings c.args.room.now) (g.R.Room.takings c.perform.new.room) c.in-Ok.report.items c.in-Ok.ensures.done.done files told in
    done_answers files command c.finish.result due is.rules c.finish.ensures.cases (subst (CanDo files) (sym same) can) free cause

pub returns-in-Ok-clause-takings : goal.returns-in-Ok-clause-takings
returns-in-Ok-clause-takings g c = λ command is.
    let same = one_command _ _ command c.in-Some.ensures is in
    subst (λ k. MayTake k (g.D.Disk.files c.args.disk.now) (g.D.Disk.files c.perform.new.disk) (g.R.Room.takings c.args.room.now) (g.R.Room.takings c.perform.new.room)) (sym same) (done_takes (command_of c.in-Some.command) (g.D.Disk.files c.args.disk.now) (g.D.Disk.files c.perform.new.disk) (g.R.Room.takings c.args.room.now) (g.R.Room.takings c.perform.new.room) c.in-Ok.report.items c.in-Ok.ensures.done.done)

pub returns-in-Ok-clause-others : goal.returns-in-Ok-clause-others
returns-in-Ok-clause-others g c = λ command is.
    let same = one_command _ _ command c.in-Some.ensures is in
    subst (λ k. OthersStay k (g.D.Disk.files c.args.disk.now) (g.D.Disk.files c.perform.new.disk)) (sym same) c.in-Ok.ensures.done.others

pub returns-in-Err-clause-cause : goal.returns-in-Err-clause-cause
returns-in-Err-clause-cause g c = λ command is files told.
    let same = one_command _ _ command c.in-Some.ensures is in
    refused_cause files command c.in-Err.refusal c.refuse.result c.refuse.ensures.kept
    (subst (λ k. IsCommandRefusal files k c.in-Err.refusal) (sym same) (c.in-Err.ensures.refused.refused files told))

pub returns-in-Err-clause-exactly : goal.returns-in-Err-clause-exactly
returns-in-Err-clause-exactly g c = λ command is files told due free cause.
    let same = one_command _ _ command c.in-Some.ensures is in
    refused_answers files command c.in-Err.refusal c.refuse.result due is.rules c.refuse.ensures.kept
    (subst (λ k. IsCommandRefusal files k c.in-Err.refusal) (sym same) (c.in-Err.ensures.refused.refused files told)) free cause

pub returns-in-Err-clause-unchanged : goal.returns-in-Err-clause-unchanged
returns-in-Err-clause-unchanged g c = λ refused. (
  left.unchanged _ c.in-Err.refusal c.refuse.result _ c.refuse.ensures.kept refused c.in-Err.ensures.refused.unchanged,
  λ command is. subst (λ k. KeepsRoom k (g.D.Disk.files c.args.disk.now) (g.R.Room.takings c.args.room.now) (g.R.Room.takings c.perform.new.room)) (sym (one_command _ _ command c.in-Some.ensures is))
      (left.untaken c.in-Err.refusal c.refuse.result _ c.refuse.ensures.kept refused c.in-Err.ensures.refused.untaken),
)

pub returns-in-Err-clause-cut_off : goal.returns-in-Err-clause-cut_off
returns-in-Err-clause-cut_off g c = λ failed command is.
    let same = one_command _ _ command c.in-Some.ensures is in
    left.cut_off command c.in-Err.refusal c.refuse.result (g.D.Disk.files c.args.disk.now) (g.D.Disk.files c.perform.new.disk) c.refuse.ensures.kept failed
    (subst (λ k. LeavesInTurn k c.in-Err.refusal (g.D.Disk.files c.args.disk.now) (g.D.Disk.files c.perform.new.disk)) (sym same) c.in-Err.ensures.refused.left)

pub returns-in-Err-clause-no_memory : goal.returns-in-Err-clause-no_memory
returns-in-Err-clause-no_memory g c = λ memory.
    left.or_part _ _ _ (left.without_memory _ _ c.in-Err.refusal c.refuse.result _ _ c.in-Some.ensures c.refuse.ensures.kept memory c.in-Err.ensures.refused.left c.in-Err.ensures.refused.unchanged)

pub returns-in-Err-clause-takings : goal.returns-in-Err-clause-takings
returns-in-Err-clause-takings g c = λ command is.
    let same = one_command _ _ command c.in-Some.ensures is in
    subst (λ k. MayTake k (g.D.Disk.files c.args.disk.now) (g.D.Disk.files c.perform.new.disk) (g.R.Room.takings c.args.room.now) (g.R.Room.takings c.perform.new.room)) (sym same) c.in-Err.ensures.refused.takings

pub returns-in-Err-clause-others : goal.returns-in-Err-clause-others
returns-in-Err-clause-others g c = λ command is.
    let same = one_command _ _ command c.in-Some.ensures is in
    subst (λ k. OthersStay k (g.D.Disk.files c.args.disk.now) (g.D.Disk.files c.perform.new.disk)) (sym same) c.in-Err.ensures.refused.others

pub returns-in-Err-clause-line : goal.returns-in-Err-clause-line
returns-in-Err-clause-line g c = λ has plain. left.plain_line _ _ _ c.in-Err.refusal c.refuse.result _ _ _ _ c.in-Some.ensures c.in-Err.ensures.refused.possible c.in-Err.ensures.refused.line c.refuse.ensures.line plain c.refuse.ensures.kept

pub returns-in-Err-clause-cert_line : goal.returns-in-Err-clause-cert_line
returns-in-Err-clause-cert_line g c = λ trouble e.
    left.named_line _ _ _ _ _ _ _ _ c.in-Some.ensures
    (left.cert_lines _ _ c.in-Err.refusal c.refuse.result trouble _ _ _ _ c.in-Err.ensures.refused.line c.refuse.ensures.line c.refuse.ensures.kept e)

pub returns-in-Ok-clause-disk_fault : goal.returns-in-Ok-clause-disk_fault
returns-in-Ok-clause-disk_fault g c = record {
  cause = record { later = omega (arith, c.in-Ok.ensures.done.faults); rose = λ failed. absurd (report_ends _ DiskFault c.finish.ensures.cases failed) };
  quiet = λ none. c.in-Ok.ensures.done.faults;
}

pub returns-in-Err-clause-disk_fault : goal.returns-in-Err-clause-disk_fault
returns-in-Err-clause-disk_fault g c = record {
  cause = record { later = c.in-Err.ensures.refused.fault_reported.cause.later; rose = λ failed. c.in-Err.ensures.refused.fault_reported.cause.rose (refusal_ends c.in-Err.refusal c.refuse.result DiskFault c.refuse.ensures.kept failed) };
  quiet = λ none. c.in-Err.ensures.refused.fault_reported.quiet (left.no_failure c.in-Err.refusal c.refuse.result c.refuse.ensures.kept none);
}

pub returns-in-Ok-clause-no_half : goal.returns-in-Ok-clause-no_half
returns-in-Ok-clause-no_half g c = λ command is.
    let same = one_command _ _ command c.in-Some.ensures is in
    subst (λ k. LeavesNoHalf k (g.D.Disk.files c.args.disk.now) (g.D.Disk.files c.perform.new.disk)) (sym same) c.in-Ok.ensures.done.no_half

pub returns-in-Err-clause-no_half : goal.returns-in-Err-clause-no_half
returns-in-Err-clause-no_half g c = λ command is.
    let same = one_command _ _ command c.in-Some.ensures is in
    subst (λ k. LeavesNoHalf k (g.D.Disk.files c.args.disk.now) (g.D.Disk.files c.perform.new.disk)) (sym same) c.in-Err.ensures.refused.no_half

pub returns-in_default-clause-done : goal.returns-in_default-clause-done
returns-in_default-clause-done g c = λ done. absurd (words_end _ Done c.refuse_words.ensures.kept done)

pub returns-in_default-clause-run : goal.returns-in_default-clause-run
returns-in_default-clause-run g c = λ done. absurd (words_end _ Done c.refuse_words.ensures.kept done)

pub returns-in_default-clause-batch : goal.returns-in_default-clause-batch
returns-in_default-clause-batch g c = λ done. absurd (words_end _ Done c.refuse_words.ensures.kept done)

pub returns-in_default-clause-spill : goal.returns-in_default-clause-spill
returns-in_default-clause-spill g c = λ done. absurd (words_end _ Done c.refuse_words.ensures.kept done)

pub returns-in_default-clause-einsum : goal.returns-in_default-clause-einsum
returns-in_default-clause-einsum g c = λ done. absurd (words_end _ Done c.refuse_words.ensures.kept done)

pub returns-in_default-clause-bad_words : goal.returns-in_default-clause-bad_words
returns-in_default-clause-bad_words g c = λ words. c.in_default.ensures

pub returns-in_default-clause-no_command : goal.returns-in_default-clause-no_command
returns-in_default-clause-no_command g c = λ none. elim c.refuse_words.ensures.kept [ inl kept ↦ inl kept | inr memory ↦ inr memory.0 ]

pub returns-in_default-clause-cause : goal.returns-in_default-clause-cause
returns-in_default-clause-cause g c = λ command is. absurd (c.in_default.ensures command is)

pub returns-in_default-clause-exactly : goal.returns-in_default-clause-exactly
returns-in_default-clause-exactly g c = λ command is. absurd (c.in_default.ensures command is)

pub returns-in_default-clause-no_half : goal.returns-in_default-clause-no_half
returns-in_default-clause-no_half g c = λ command is. absurd (c.in_default.ensures command is)

pub returns-in_default-clause-takings : goal.returns-in_default-clause-takings
returns-in_default-clause-takings g c = λ command is. absurd (c.in_default.ensures command is)

pub returns-in_default-clause-others : goal.returns-in_default-clause-others
returns-in_default-clause-others g c = λ command is. absurd (c.in_default.ensures command is)

pub returns-in_default-clause-cut_off : goal.returns-in_default-clause-cut_off
returns-in_default-clause-cut_off g c = λ failed command is. absurd (c.in_default.ensures command is)

pub returns-in_default-clause-well_formed : goal.returns-in_default-clause-well_formed
returns-in_default-clause-well_formed g c = c.refuse_words.ensures.well_formed

pub returns-in_default-clause-disk_fault : goal.returns-in_default-clause-disk_fault
returns-in_default-clause-disk_fault g c = record {
  cause = record { later = omega arith; rose = λ failed. absurd (words_end _ DiskFault c.refuse_words.ensures.kept failed) };
  quiet = λ none. refl;
}

pub returns-in_default-clause-sink_fault : goal.returns-in_default-clause-sink_fault
returns-in_default-clause-sink_fault g c = record { later = c.refuse_words.ensures.cause.later; rose = λ failed. absurd (words_end _ SinkFault c.refuse_words.ensures.kept failed) }

pub returns-in_default-clause-untouched : goal.returns-in_default-clause-untouched
returns-in_default-clause-untouched g c = λ none. (refl, refl)

pub returns-in_default-clause-cert_line : goal.returns-in_default-clause-cert_line
returns-in_default-clause-cert_line g c = λ trouble e. absurd (words_end _ (CertRefused trouble) c.refuse_words.ensures.kept e)

pub returns-in_default-clause-cut_short : goal.returns-in_default-clause-cut_short
returns-in_default-clause-cut_short g c = λ cut. absurd (words_end _ SinkFault c.refuse_words.ensures.kept cut)

pub returns-in_default-clause-no_memory : goal.returns-in_default-clause-no_memory
returns-in_default-clause-no_memory g c = λ memory. inl refl

pub perform-requires : goal.perform-requires
perform-requires g c = c.in-Some.ensures.rules

pub returns-in-Ok-clause-done : goal.returns-in-Ok-clause-done
returns-in-Ok-clause-done g c = λ done. (c.in-Ok.report.items, record { command = _; words_are = c.in-Some.ensures; done = c.in-Ok.ensures.done.done }, subst (λ (bytes : List ℕ). Grew bytes (g.K.Sink.bytes c.args.out.now) (g.K.Sink.bytes c.finish.new.out)) c.deref.ensures.value (c.finish.ensures.done done))

pub returns-in-Ok-clause-cut_short : goal.returns-in-Ok-clause-cut_short
returns-in-Ok-clause-cut_short g c = λ cut. (c.in-Ok.report.items, record { command = _; words_are = c.in-Some.ensures; done = c.in-Ok.ensures.done.done }, subst (λ (bytes : List ℕ). GrewWithin bytes (g.K.Sink.bytes c.args.out.now) (g.K.Sink.bytes c.finish.new.out)) c.deref.ensures.value (c.finish.ensures.failed cut))

pub returns-in-Ok-clause-no_memory : goal.returns-in-Ok-clause-no_memory
returns-in-Ok-clause-no_memory g c = λ memory. inr (inl (c.in-Ok.report.items, record { command = _; words_are = c.in-Some.ensures; done = c.in-Ok.ensures.done.done }))

pub returns-in-Ok-clause-bad_words : goal.returns-in-Ok-clause-bad_words
returns-in-Ok-clause-bad_words g c = λ words. absurd (report_ends _ BadWords c.finish.ensures.cases words)

pub returns-in-Ok-clause-no_command : goal.returns-in-Ok-clause-no_command
returns-in-Ok-clause-no_command g c = λ none. absurd (none _ c.in-Some.ensures)

pub returns-in-Ok-clause-untouched : goal.returns-in-Ok-clause-untouched
returns-in-Ok-clause-untouched g c = λ none. absurd (none _ c.in-Some.ensures)

pub returns-in-Ok-clause-well_formed : goal.returns-in-Ok-clause-well_formed
returns-in-Ok-clause-well_formed g c = c.finish.ensures.well_formed

pub returns-in-Ok-clause-sink_fault : goal.returns-in-Ok-clause-sink_fault
returns-in-Ok-clause-sink_fault g c = c.finish.ensures.fault_reported.cause

pub returns-in-Ok-clause-unchanged : goal.returns-in-Ok-clause-unchanged
returns-in-Ok-clause-unchanged g c = λ refused. absurd (no_refusal_ends _ c.finish.ensures.cases refused)

pub returns-in-Ok-clause-line : goal.returns-in-Ok-clause-line
returns-in-Ok-clause-line g c = λ has plain names of. report_line names c.finish.result _ _ _ _ c.finish.ensures.cases c.finish.ensures.memory has

pub returns-in-Ok-clause-cert_line : goal.returns-in-Ok-clause-cert_line
returns-in-Ok-clause-cert_line g c = λ trouble e. absurd (report_ends _ (CertRefused trouble) c.finish.ensures.cases e)

pub returns-in-Err-clause-done : goal.returns-in-Err-clause-done
returns-in-Err-clause-done g c = λ done. absurd (refusal_ends c.in-Err.refusal c.refuse.result Done c.refuse.ensures.kept done)

pub returns-in-Err-clause-run : goal.returns-in-Err-clause-run
returns-in-Err-clause-run g c = λ done. absurd (refusal_ends c.in-Err.refusal c.refuse.result Done c.refuse.ensures.kept done)

pub returns-in-Err-clause-batch : goal.returns-in-Err-clause-batch
returns-in-Err-clause-batch g c = λ done. absurd (refusal_ends c.in-Err.refusal c.refuse.result Done c.refuse.ensures.kept done)

pub returns-in-Err-clause-spill : goal.returns-in-Err-clause-spill
returns-in-Err-clause-spill g c = λ done. absurd (refusal_ends c.in-Err.refusal c.refuse.result Done c.refuse.ensures.kept done)

pub returns-in-Err-clause-einsum : goal.returns-in-Err-clause-einsum
returns-in-Err-clause-einsum g c = λ done. absurd (refusal_ends c.in-Err.refusal c.refuse.result Done c.refuse.ensures.kept done)

pub returns-in-Err-clause-bad_words : goal.returns-in-Err-clause-bad_words
returns-in-Err-clause-bad_words g c = λ words. absurd (refusal_ends c.in-Err.refusal c.refuse.result BadWords c.refuse.ensures.kept words)

pub returns-in-Err-clause-no_command : goal.returns-in-Err-clause-no_command
returns-in-Err-clause-no_command g c = λ none. absurd (none _ c.in-Some.ensures)

pub returns-in-Err-clause-untouched : goal.returns-in-Err-clause-untouched
returns-in-Err-clause-untouched g c = λ none. absurd (none _ c.in-Some.ensures)

pub returns-in-Err-clause-well_formed : goal.returns-in-Err-clause-well_formed
returns-in-Err-clause-well_formed g c = c.refuse.ensures.well_formed

pub returns-in-Err-clause-sink_fault : goal.returns-in-Err-clause-sink_fault
returns-in-Err-clause-sink_fault g c = record { later = c.refuse.ensures.cause.later; rose = λ failed. absurd (refusal_ends c.in-Err.refusal c.refuse.result SinkFault c.refuse.ensures.kept failed) }

pub returns-in-Err-clause-cut_short : goal.returns-in-Err-clause-cut_short
returns-in-Err-clause-cut_short g c = λ cut. absurd (refusal_ends c.in-Err.refusal c.refuse.result SinkFault c.refuse.ensures.kept cut)
