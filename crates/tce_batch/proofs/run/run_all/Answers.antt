use Rattle.std.proofs.Common.{inl, inr, ℕ, ◌+◌, ◌++◌, List, length, refl, subst, ap, ◌∙◌, arith}
use Rattle.std.specs.Option.{option_map}
use Rattle.std.proofs.lemmas.List.{take_all}
use Rattle.std.proofs.lemmas.Option.{slice_get_read}
use Rattle.tce_outside.proofs.Causes.{cause_as, no_cause, answered_quiet, cause_after}
use Rattle.tce_spec.specs.Specification.{Specification}
use Rattle.tce_job.specs.Several.{files_after}
use Rattle.tce_batch.specs.Reports.{HasRun, section_of}
use Rattle.tce_batch.proofs.Afforded.{some_at}
use Rattle.tce_batch.proofs.KeptPlans.{kept_place}
use Rattle.tce_batch.proofs.Files.{none_after, told_more}
use Rattle.tce_batch.proofs.Reports.{none_taken, none_run, run_taken, taken_more, run_more}
use Rattle.tce_batch.proofs.Ended.{has_failed, failed_cause, failed_left}
use Rattle.tce_batch.proofs.Counted.{fault_of, fault_is}
use Rattle.tce_batch.proofs.run.run_all.Goals as goal

pub loop-number-init : goal.loop-number-init
loop-number-init g c = record {
  told = none_after (g.D.Disk.files c.args.disk.now) c.args.batch.now;
  run = none_run c.args.batch.now c.args.budget (g.R.Room.takings c.args.room.now) c.in-Ok.text.items c.in-Ok.ensures;
  counted = refl;
}

pub run_formula-requires-clause-number : goal.run_formula-requires-clause-number
run_formula-requires-clause-number g c =
    let within = c.loop-number-test.true in
    let plans = c.args.plans.now in
    let found = slice_get_read plans (length plans) c.loop-number.number c.index-plans-number.result refl (omega (arith, within, c.len-count.ensures.count, c.requires.kept.count_is)) c.index-plans-number.is in
    let here = (c.requires.kept.each c.loop-number.number c.index-plans-number.result found).0 in
    omega (arith, here, within, c.len-count.ensures.count)

pub run_formula-requires-clause-kept : goal.run_formula-requires-clause-kept
run_formula-requires-clause-kept g c =
    let within = c.loop-number-test.true in
    let plans = c.args.plans.now in
    let found = slice_get_read plans (length plans) c.loop-number.number c.index-plans-number.result refl (omega (arith, within, c.len-count.ensures.count, c.requires.kept.count_is)) c.index-plans-number.is in
    (c.requires.kept.each c.loop-number.number c.index-plans-number.result found).1

pub run_formula-requires-clause-affordable : goal.run_formula-requires-clause-affordable
run_formula-requires-clause-affordable g c = c.requires.affordable

pub returns-in_default-pushed-clause-refused : goal.returns-in_default-pushed-clause-refused
returns-in_default-pushed-clause-refused g c = record { some = omega arith; within = omega (arith, c.loop-number-test.true, c.len-count.ensures.count) }

pub returns-clause-told : goal.returns-clause-told
returns-clause-told g c =
    c.loop-number.invariant.told
    ∙ ap (λ (ss : List Specification). option_map (files_after ss) (g.D.Disk.files c.args.disk.now))
    (take_all c.loop-number.number c.args.batch.now (omega (arith, c.loop-number-test.false, c.len-count.ensures.count)))

pub returns-clause-reported : goal.returns-clause-reported
returns-clause-reported g c =
    subst (λ (ss : List Specification). HasRun ss c.args.budget (g.R.Room.takings c.args.room.now) (g.R.Room.takings c.loop-number.room) c.loop-number.text.items)
    (take_all c.loop-number.number c.args.batch.now (omega (arith, c.loop-number-test.false, c.len-count.ensures.count))) c.loop-number.invariant.run

pub returns-in_default-clause-left : goal.returns-in_default-clause-left
returns-in_default-clause-left g c =
    let (s, at) = some_at c.args.batch.now 0 c.len-count.ensures.rules.some in
    record {
      number = 0;
      specification = s;
      counted = refl;
      at = at;
      here = inl (none_after (g.D.Disk.files c.args.disk.now) c.args.batch.now, inl (none_taken c.args.batch.now c.args.budget (g.R.Room.takings c.args.room.now)));
    }

pub returns-in_default-pushed-clause-left : goal.returns-in_default-pushed-clause-left
returns-in_default-pushed-clause-left g c =
    let number = c.loop-number.number in
    let before = g.R.Room.takings c.args.room.now in
    let now = g.R.Room.takings c.loop-number.room in
    let (s, at) = some_at c.args.batch.now number (omega (arith, c.loop-number-test.true, c.len-count.ensures.count)) in
    let here = kept_place c.args.batch.now c.args.plans.now number c.index-plans-number.result s c.requires.kept (omega (arith, c.loop-number-test.true, c.len-count.ensures.count)) c.index-plans-number.is at in
    let one = c.in-Ok-run_formula.ensures.reported s here in record {
      number = number;
      specification = s;
      counted = refl;
      at = at;
      here = inr (
        told_more (g.D.Disk.files c.args.disk.now) (g.D.Disk.files c.loop-number.disk) (g.D.Disk.files c.run_formula.new.disk) c.args.batch.now number s at c.loop-number.invariant.told (c.in-Ok-run_formula.ensures.told s here),
        taken_more c.args.budget c.args.batch.now number s before now (g.R.Room.takings c.run_formula.new.room) at (run_taken _ c.args.budget before now c.loop-number.text.items c.loop-number.invariant.run)
            (record { plan = one.plan; least = one.least; taken = one.taken }),
      );
    }

pub returns-in-Err-clause-refused : goal.returns-in-Err-clause-refused
returns-in-Err-clause-refused g c =
    let number = c.loop-number.number in
    let (s, at) = some_at c.args.batch.now number (omega (arith, c.loop-number-test.true, c.len-count.ensures.count)) in
    let here = kept_place c.args.batch.now c.args.plans.now number c.index-plans-number.result s c.requires.kept (omega (arith, c.loop-number-test.true, c.len-count.ensures.count)) c.index-plans-number.is at in
    let start = g.D.Disk.files c.args.disk.now in
    let now = g.D.Disk.files c.loop-number.disk in
    let h = has_failed start now c.args.batch.now c.args.budget number s c.in-Err.fault c.len-count.ensures.rules at c.requires.affordable c.requires.sources c.loop-number.invariant.told (c.in-Err.ensures.refused s here) in
    failed_cause start now c.args.batch.now c.args.budget number s c.in-Err.fault h

pub returns-in-Err-clause-free : goal.returns-in-Err-clause-free
returns-in-Err-clause-free g c =
    let number = c.loop-number.number in
    let (s, at) = some_at c.args.batch.now number (omega (arith, c.loop-number-test.true, c.len-count.ensures.count)) in
    let here = kept_place c.args.batch.now c.args.plans.now number c.index-plans-number.result s c.requires.kept (omega (arith, c.loop-number-test.true, c.len-count.ensures.count)) c.index-plans-number.is at in
    let start = g.D.Disk.files c.args.disk.now in
    let now = g.D.Disk.files c.loop-number.disk in
    let h = has_failed start now c.args.batch.now c.args.budget number s c.in-Err.fault c.len-count.ensures.rules at c.requires.affordable c.requires.sources c.loop-number.invariant.told (c.in-Err.ensures.refused s here) in
    h.free

pub returns-in-Err-clause-left : goal.returns-in-Err-clause-left
returns-in-Err-clause-left g c =
    let number = c.loop-number.number in
    let (s, at) = some_at c.args.batch.now number (omega (arith, c.loop-number-test.true, c.len-count.ensures.count)) in
    let here = kept_place c.args.batch.now c.args.plans.now number c.index-plans-number.result s c.requires.kept (omega (arith, c.loop-number-test.true, c.len-count.ensures.count)) c.index-plans-number.is at in
    let start = g.D.Disk.files c.args.disk.now in
    let now = g.D.Disk.files c.loop-number.disk in
    let before = g.R.Room.takings c.args.room.now in
    let then = g.R.Room.takings c.loop-number.room in
    let h = has_failed start now c.args.batch.now c.args.budget number s c.in-Err.fault c.len-count.ensures.rules at c.requires.affordable c.requires.sources c.loop-number.invariant.told (c.in-Err.ensures.refused s here) in
    failed_left start now (g.D.Disk.files c.run_formula.new.disk) c.args.batch.now c.args.budget number s c.in-Err.fault before then (g.R.Room.takings c.run_formula.new.room) h
    (run_taken _ c.args.budget before then c.loop-number.text.items c.loop-number.invariant.run)
    (record { same = c.in-Err.ensures.unchanged; others_are = c.in-Err.ensures.others s here; no_half = c.in-Err.ensures.no_half s here; room = c.in-Err.ensures.takings s here })

pub loop-number-preserved : goal.loop-number-preserved
loop-number-preserved g c =
    let number = c.loop-number.number in
    let text = c.loop-number.text.items in
    let (s, at) = some_at c.args.batch.now number (omega (arith, c.loop-number-test.true, c.len-count.ensures.count)) in
    let here = kept_place c.args.batch.now c.args.plans.now number c.index-plans-number.result s c.requires.kept (omega (arith, c.loop-number-test.true, c.len-count.ensures.count)) c.index-plans-number.is at in record {
      told = told_more (g.D.Disk.files c.args.disk.now) (g.D.Disk.files c.loop-number.disk) (g.D.Disk.files c.run_formula.new.disk) c.args.batch.now number s at c.loop-number.invariant.told (c.in-Ok-run_formula.ensures.told s here);
      run = run_more c.args.budget c.args.batch.now number s (g.R.Room.takings c.args.room.now) (g.R.Room.takings c.loop-number.room) (g.R.Room.takings c.run_formula.new.room) text c.push_section-pushed.new.text.items c.in-Ok-run_formula.report at
          c.loop-number.invariant.run (c.in-Ok-run_formula.ensures.reported s here) (c.in-Ok-pushed.ensures ∙ ap (λ (xs : List ℕ). text ++ section_of (number + 1) xs) c.as_slice.ensures);
      counted = answered_quiet _ _ c.in-Ok-run_formula.report _ refl c.in-Ok-run_formula.ensures.fault_reported.quiet ∙ c.loop-number.invariant.counted;
    }

pub returns-in_default-pushed-clause-fault_reported : goal.returns-in_default-pushed-clause-fault_reported
returns-in_default-pushed-clause-fault_reported g c = record {
  cause = cause_after _ _ _ c.loop-number.invariant.counted (cause_as _ _ (λ failed. absurd (cc)) c.in-Ok-run_formula.ensures.fault_reported.cause);
  quiet = λ none. answered_quiet _ _ c.in-Ok-run_formula.report _ refl c.in-Ok-run_formula.ensures.fault_reported.quiet ∙ c.loop-number.invariant.counted;
}

pub returns-in-Err-clause-fault_reported : goal.returns-in-Err-clause-fault_reported
returns-in-Err-clause-fault_reported g c = record {
  cause = cause_after _ _ _ c.loop-number.invariant.counted (cause_as _ _ (fault_of c.in-Err.fault _ refl) c.in-Err.ensures.fault_reported.cause);
  quiet = λ none. c.in-Err.ensures.fault_reported.quiet (λ failed. none (fault_is c.in-Err.fault _ refl failed)) ∙ c.loop-number.invariant.counted;
}

pub returns-clause-fault_reported : goal.returns-clause-fault_reported
returns-clause-fault_reported g c = record {
  cause = no_cause _ _ c.loop-number.invariant.counted (λ failed. failed);
  quiet = λ none. c.loop-number.invariant.counted;
}
