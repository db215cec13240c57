use Rattle.std.proofs.Common.{inl, ℕ, ◌≡◌, ◌+◌, List, refl, sym, subst, ap, ◌∙◌, arith}
use Rattle.tce_outside.proofs.Causes.{cause_as, no_cause, answered_quiet, cause_after}
use Rattle.tce_space.specs.IndexSet.{has}
use Rattle.tce_tree.specs.ContractionTree.{operations}
use Rattle.tce_spill.specs.Planned.{HavePlansFrom}
use Rattle.tce_spill.specs.Reports.{HasRun}
use Rattle.tce_spill.proofs.Roots.{as_tested, none_left, told_more, told_same}
use Rattle.tce_job.proofs.Answered.{answered, same_fault}
use Rattle.tce_spill.specs.Left.{files_at}
use Rattle.tce_spill.proofs.Reports.{taken_more, run_taken, run_more, run_same, none_taken, all_reported}
use Rattle.tce_spill.proofs.Causes.{wanting}
use Rattle.tce_spill.proofs.Ended.{late_fault, failed_left}
use Rattle.tce_spill.proofs.PlannedRuns.{plan_place, some_plan, taken_plan, plans_on, plans_after}
use Rattle.tce_spill.proofs.RunTurns.{operands_there, held_more, held_same, all_spilled}
use Rattle.tce_spill.proofs.run.run_all.Goals as goal
use Rattle.tce_spill.proofs.run.run_all.Goals.{then-has_root+in-Ok-run_piece+in-Ok-pushed, else-has_root}

pub take_plan-plan-requires-clause-place : goal.take_plan-plan-requires-clause-place
take_plan-plan-requires-clause-place g c =
    let size = c.count-count.ensures.value ∙ ap operations c.tree.ensures.tree in
    plan_place c.args.spec.now (has c.args.spilling.cuts) c.loop-root.plans.items c.loop-root.root c.loop-root.invariant.plans
    (omega (arith, c.loop-root-test.true, size)) (as_tested c.args.spec.now (has c.args.spilling.cuts) c.loop-root.root _ _ c.has_root.ensures c.if-has_root.true)

pub take_plan-plan-requires-clause-some : goal.take_plan-plan-requires-clause-some
take_plan-plan-requires-clause-some g c =
    let size = c.count-count.ensures.value ∙ ap operations c.tree.ensures.tree in
    some_plan c.args.spec.now (has c.args.spilling.cuts) c.loop-root.plans.items c.loop-root.root c.loop-root.invariant.plans
    (omega (arith, c.loop-root-test.true, size)) (as_tested c.args.spec.now (has c.args.spilling.cuts) c.loop-root.root _ _ c.has_root.ensures c.if-has_root.true)

pub run_piece-requires-clause-plan : goal.run_piece-requires-clause-plan
run_piece-requires-clause-plan g c =
    let size = c.count-count.ensures.value ∙ ap operations c.tree.ensures.tree in
    taken_plan c.args.spec.now (has c.args.spilling.cuts) c.loop-root.plans.items c.loop-root.root c.loop-root.invariant.plans
    (omega (arith, c.loop-root-test.true, size)) (as_tested c.args.spec.now (has c.args.spilling.cuts) c.loop-root.root _ _ c.has_root.ensures c.if-has_root.true) c.take_plan-plan.result c.take_plan-plan.ensures.plan

pub run_piece-requires-clause-operands : goal.run_piece-requires-clause-operands
run_piece-requires-clause-operands g c =
    let size = c.count-count.ensures.value ∙ ap operations c.tree.ensures.tree in
    operands_there (g.D.Disk.files c.args.disk.now) (g.D.Disk.files c.loop-root.disk) c.args.spec.now (has c.args.spilling.cuts) c.args.spilling.budget c.loop-root.root c.tree.ensures.rules c.requires.can
    (omega (arith, c.loop-root-test.true, size)) (as_tested c.args.spec.now (has c.args.spilling.cuts) c.loop-root.root _ _ c.has_root.ensures c.if-has_root.true) c.requires.operands c.loop-root.invariant.told c.loop-root.invariant.held

pub returns-in_default-pushed-clause-left : goal.returns-in_default-pushed-clause-left
returns-in_default-pushed-clause-left g c =
    let size = c.count-count.ensures.value ∙ ap operations c.tree.ensures.tree in
    let before = g.R.Room.takings c.args.room.now in
    let now = g.R.Room.takings c.loop-root.room in
    let one = c.in-Ok-run_piece.ensures.reported in (
      c.loop-root.root + 1,
      record {
        inside = omega (arith, c.loop-root-test.true, size);
        files = told_more (g.D.Disk.files c.args.disk.now) (g.D.Disk.files c.loop-root.disk) (g.D.Disk.files c.run_piece.new.disk) c.args.spec.now (has c.args.spilling.cuts) c.loop-root.root
            (as_tested c.args.spec.now (has c.args.spilling.cuts) c.loop-root.root _ _ c.has_root.ensures c.if-has_root.true) c.loop-root.invariant.told c.in-Ok-run_piece.ensures.told;
      },
      inl (taken_more c.args.spec.now (has c.args.spilling.cuts) c.loop-root.root c.args.spilling.budget before now (g.R.Room.takings c.run_piece.new.room) (as_tested c.args.spec.now (has c.args.spilling.cuts) c.loop-root.root _ _ c.has_root.ensures c.if-has_root.true)
          (run_taken c.args.spec.now (has c.args.spilling.cuts) c.loop-root.root c.args.spilling.budget before now c.loop-root.text.items c.loop-root.invariant.run)
          (record { plan = one.plan; least = one.least; taken = one.taken })),
    )

pub returns-in-Err-clause-refused : goal.returns-in-Err-clause-refused
returns-in-Err-clause-refused g c =
    let size = c.count-count.ensures.value ∙ ap operations c.tree.ensures.tree in
    late_fault (g.D.Disk.files c.args.disk.now) (g.D.Disk.files c.loop-root.disk) c.args.spec.now (has c.args.spilling.cuts) c.loop-root.root c.in-Err.fault c.tree.ensures.rules
    (omega (arith, c.loop-root-test.true, size)) (as_tested c.args.spec.now (has c.args.spilling.cuts) c.loop-root.root _ _ c.has_root.ensures c.if-has_root.true) c.loop-root.invariant.told c.in-Err.ensures.refused

pub returns-in-Err-clause-left : goal.returns-in-Err-clause-left
returns-in-Err-clause-left g c =
    let size = c.count-count.ensures.value ∙ ap operations c.tree.ensures.tree in
    let before = g.R.Room.takings c.args.room.now in
    let then = g.R.Room.takings c.loop-root.room in
    failed_left (g.D.Disk.files c.args.disk.now) (g.D.Disk.files c.loop-root.disk) (g.D.Disk.files c.run_piece.new.disk) c.args.spec.now (has c.args.spilling.cuts) c.loop-root.root c.args.spilling.budget c.in-Err.fault
    before then (g.R.Room.takings c.run_piece.new.room)
    (omega (arith, c.loop-root-test.true, size)) (as_tested c.args.spec.now (has c.args.spilling.cuts) c.loop-root.root _ _ c.has_root.ensures c.if-has_root.true) c.loop-root.invariant.told
    (run_taken c.args.spec.now (has c.args.spilling.cuts) c.loop-root.root c.args.spilling.budget before then c.loop-root.text.items c.loop-root.invariant.run)
    (record { same = c.in-Err.ensures.unchanged; others_are = c.in-Err.ensures.others; no_half = c.in-Err.ensures.no_half; room = c.in-Err.ensures.takings }) c.in-Err.ensures.refused

pub loop-root-preserved : goal.loop-root-preserved
loop-root-preserved g c =
    let s = c.args.spec.now in
    let cut = has c.args.spilling.cuts in
    let n = c.loop-root.root in
    let budget = c.args.spilling.budget in
    let start = g.D.Disk.files c.args.disk.now in
    let now = g.D.Disk.files c.loop-root.disk in
    let before = g.R.Room.takings c.args.room.now in
    let then = g.R.Room.takings c.loop-root.room in
    let size = c.count-count.ensures.value ∙ ap operations c.tree.ensures.tree in
    elim c.if-has_root.branch [
      | then-has_root+in-Ok-run_piece+in-Ok-pushed w ↦
          let root = as_tested s cut n _ _ c.has_root.ensures w.if-has_root.true in
          let after = g.R.Room.takings w.run_piece.new.room in
          let more =
          run_more s cut n budget before then after c.loop-root.text.items w.push_piece-pushed.new.text.items w.in-Ok-run_piece.report root c.loop-root.invariant.run w.in-Ok-run_piece.ensures.reported w.in-Ok-pushed.ensures in record {
            told = ap (λ d. g.D.Disk.files d) w.disk-is ∙ told_more start now (g.D.Disk.files w.run_piece.new.disk) s cut n root c.loop-root.invariant.told w.in-Ok-run_piece.ensures.told;
            held = held_more start s cut budget n c.tree.ensures.rules c.requires.can (omega (arith, c.loop-root-test.true, size)) root c.loop-root.invariant.held;
            plans =
                plans_after s cut c.loop-root.plans.items n c.loop-root.invariant.plans c.if-has_root.plans.items
                (ap (λ p. p.items) w.plans-is ∙ w.take_plan-plan.ensures.left);
            run =
                subst (λ (x : List (ℕ × ℕ)). HasRun s cut (n + 1) budget before x c.if-has_root.text.items) (sym (ap (λ r. g.R.Room.takings r) w.room-is))
                (subst (λ (t : List ℕ). HasRun s cut (n + 1) budget before after t) (sym (ap (λ t. t.items) w.text-is)) more);
            counted = ap (λ d. g.D.Disk.faults d) w.disk-is ∙ answered_quiet _ _ w.in-Ok-run_piece.report _ refl w.in-Ok-run_piece.ensures.fault_reported.quiet ∙ c.loop-root.invariant.counted;
          }
      | else-has_root w ↦
          let root = as_tested s cut n _ _ c.has_root.ensures w.if-has_root.false in
          let same = run_same s cut n budget before then c.loop-root.text.items root c.loop-root.invariant.run in record {
            told = ap (λ d. g.D.Disk.files d) w.disk-is ∙ told_same start now s cut n root c.loop-root.invariant.told;
            held = held_same start s cut budget n c.tree.ensures.rules c.requires.can (omega (arith, c.loop-root-test.true, size)) root c.loop-root.invariant.held;
            plans =
                subst (λ p. HavePlansFrom s cut p.items (n + 1)) (sym w.plans-is)
                (plans_on s cut c.loop-root.plans.items n c.loop-root.invariant.plans);
            run =
                subst (λ (x : List (ℕ × ℕ)). HasRun s cut (n + 1) budget before x c.if-has_root.text.items) (sym (ap (λ r. g.R.Room.takings r) w.room-is))
                (subst (λ (t : List ℕ). HasRun s cut (n + 1) budget before then t) (sym (ap (λ t. t.items) w.text-is)) same);
            counted = ap (λ d. g.D.Disk.faults d) w.disk-is ∙ c.loop-root.invariant.counted;
          }
    ]

pub returns-in_default-clause-left : goal.returns-in_default-clause-left
returns-in_default-clause-left g c =
    (0, record { inside = omega arith; files = none_left (g.D.Disk.files c.args.disk.now) c.args.spec.now (has c.args.spilling.cuts) }, none_taken c.args.spec.now (has c.args.spilling.cuts) c.args.spilling.budget (g.R.Room.takings c.args.room.now))

pub returns-in_default-pushed-clause-fault_reported : goal.returns-in_default-pushed-clause-fault_reported
returns-in_default-pushed-clause-fault_reported g c = record {
  cause = cause_after _ _ _ c.loop-root.invariant.counted (cause_as _ _ (wanting _ refl) c.in-Ok-run_piece.ensures.fault_reported.cause);
  quiet = λ none. answered_quiet _ _ c.in-Ok-run_piece.report _ refl c.in-Ok-run_piece.ensures.fault_reported.quiet ∙ c.loop-root.invariant.counted;
}

pub returns-in-Err-clause-fault_reported : goal.returns-in-Err-clause-fault_reported
returns-in-Err-clause-fault_reported g c = record {
  cause = cause_after _ _ _ c.loop-root.invariant.counted (cause_as _ _ (same_fault c.in-Err.fault _ _ refl refl) c.in-Err.ensures.fault_reported.cause);
  quiet = λ none. c.in-Err.ensures.fault_reported.quiet (λ failed. none (same_fault c.in-Err.fault _ _ refl refl failed)) ∙ c.loop-root.invariant.counted;
}

pub returns-in_default-push_wrote-clause-left : goal.returns-in_default-push_wrote-clause-left
returns-in_default-push_wrote-clause-left g c =
    let size = c.count-count.ensures.value ∙ ap operations c.tree.ensures.tree in (
      c.loop-root.root,
      record { inside = omega (arith, c.loop-root-test.false, size); files = c.loop-root.invariant.told },
      inl (run_taken c.args.spec.now (has c.args.spilling.cuts) c.loop-root.root c.args.spilling.budget (g.R.Room.takings c.args.room.now) (g.R.Room.takings c.loop-root.room) c.loop-root.text.items c.loop-root.invariant.run),
    )

pub returns-in_default-push_wrote-clause-fault_reported : goal.returns-in_default-push_wrote-clause-fault_reported
returns-in_default-push_wrote-clause-fault_reported g c = record {
  cause = no_cause _ _ c.loop-root.invariant.counted (wanting _ refl);
  quiet = λ none. c.loop-root.invariant.counted;
}

pub returns-clause-told : goal.returns-clause-told
returns-clause-told g c =
    let size = c.count-count.ensures.value ∙ ap operations c.tree.ensures.tree in
    let last : c.loop-root.root ≡ operations c.args.spec.now.tree = omega (arith, c.loop-root-test.false, size) in
    c.loop-root.invariant.told ∙ ap (λ n. files_at (g.D.Disk.files c.args.disk.now) c.args.spec.now (has c.args.spilling.cuts) n) last

pub returns-clause-spilled : goal.returns-clause-spilled
returns-clause-spilled g c =
    let size = c.count-count.ensures.value ∙ ap operations c.tree.ensures.tree in
    let last : c.loop-root.root ≡ operations c.args.spec.now.tree = omega (arith, c.loop-root-test.false, size) in
    all_spilled (g.D.Disk.files c.args.disk.now) (g.D.Disk.files c.loop-root.disk) c.args.spec.now (has c.args.spilling.cuts) c.loop-root.root last c.loop-root.invariant.told c.loop-root.invariant.held

pub returns-clause-reported : goal.returns-clause-reported
returns-clause-reported g c =
    let size = c.count-count.ensures.value ∙ ap operations c.tree.ensures.tree in
    let last : c.loop-root.root ≡ operations c.args.spec.now.tree = omega (arith, c.loop-root-test.false, size) in
    let before = g.R.Room.takings c.args.room.now in
    let after = g.R.Room.takings c.loop-root.room in
    all_reported c.args.spec.now (has c.args.spilling.cuts) c.args.spilling.budget before after c.loop-root.text.items c.push_wrote.new.text.items
    (subst (λ n. HasRun c.args.spec.now (has c.args.spilling.cuts) n c.args.spilling.budget before after c.loop-root.text.items) last c.loop-root.invariant.run) c.in-Ok-push_wrote.ensures

pub returns-clause-fault_reported : goal.returns-clause-fault_reported
returns-clause-fault_reported g c = record {
  cause = no_cause _ _ c.loop-root.invariant.counted (answered _ _ refl);
  quiet = λ none. c.loop-root.invariant.counted;
}
