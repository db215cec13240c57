use Rattle.tce_exec.proofs.Calls.{none_given, told_of}
use Rattle.std.proofs.Common.{◌%◌, slice_index, IsTrue}
use Rattle.std.proofs.lemmas.List.Elements.{All-set}
use Rattle.tce_outside.proofs.Causes.{cause_of}
use Rattle.tce_exec.specs.Storages.{work_of}
use Rattle.tce_exec.specs.Evaluations.{places_of}
use Rattle.tce_exec.specs.Plans.{IsPlan}
use Rattle.tce_exec.specs.declared.plan.Plan.{Plan}
use Rattle.tce_exec.proofs.Along.{loops_declared, edge_loops}
use Rattle.tce_exec.proofs.Stepping.{can_step}
use Rattle.tce_exec.proofs.tail.run_tail.Goals as goal

pub turn_to-requires-clause-steps : goal.turn_to-requires-clause-steps
turn_to-requires-clause-steps g c =
    can_step (work_of g.D.Disk.files c.args.evaluation.now c.args.store.now) c.args.tail.now (slice_index c.args.numbers.now)
    c.index_count-indexes.ensures.limits c.count-nodes.ensures.kept c.requires.prepared c.requires.tail

pub turn_to-requires-clause-declared : goal.turn_to-requires-clause-declared
turn_to-requires-clause-declared g c =
    loops_declared (work_of g.D.Disk.files c.args.evaluation.now c.args.store.now) c.args.tail.now (slice_index c.args.numbers.now)
    c.index_count-indexes.ensures.limits c.requires.prepared c.requires.tail

pub turn_to-requires-clause-loops : goal.turn_to-requires-clause-loops
turn_to-requires-clause-loops g c =
    edge_loops (work_of g.D.Disk.files c.args.evaluation.now c.args.store.now) c.args.tail.now (slice_index c.args.numbers.now)
    c.index_count-indexes.ensures.limits c.requires.prepared c.requires.tail

pub returns-clause-right : goal.returns-clause-right
returns-clause-right g c = record {
  position = c.in_ok-run_blocks.ensures.position;
  plans = All-set (λ (plan : Plan). IsTrue plan.made → IsPlan (places_of c.args.evaluation.now) plan) c.args.kept.now.plans (c.args.tail.now.node % 8) _
      (λ made. c.in_ok-run_blocks.ensures.plan.is) c.requires.right.plans;
}

pub returns-in_err-run_blocks-clause-changed : goal.returns-in_err-run_blocks-clause-changed
returns-in_err-run_blocks-clause-changed g c = none_given _ _ c.from_residual.result c.from_residual.ensures.1

pub returns-in_err-run_blocks-clause-right : goal.returns-in_err-run_blocks-clause-right
returns-in_err-run_blocks-clause-right g c = none_given _ _ c.from_residual.result c.from_residual.ensures.1

pub returns-in_err-run_blocks-clause-upheld : goal.returns-in_err-run_blocks-clause-upheld
returns-in_err-run_blocks-clause-upheld g c = record {
  kept = c.in_err-run_blocks.ensures.upheld.kept;
  same = c.in_err-run_blocks.ensures.upheld.same;
  fault_reported = record {
    cause = cause_of _ _ c.in_err-run_blocks.ensures.upheld.fault_reported.cause;
    quiet = told_of _ _ _ c.from_residual.result c.from_residual.ensures.1;
  };
}

pub returns-clause-changed : goal.returns-clause-changed
returns-clause-changed g c = c.in_ok-run_blocks.ensures.changed

pub returns-clause-upheld : goal.returns-clause-upheld
returns-clause-upheld g c = c.in_ok-run_blocks.ensures.upheld

pub run_blocks-requires-clause-prepared : goal.run_blocks-requires-clause-prepared
run_blocks-requires-clause-prepared g c = c.requires.prepared

pub run_blocks-requires-clause-tail : goal.run_blocks-requires-clause-tail
run_blocks-requires-clause-tail g c = c.requires.tail

pub run_blocks-requires-clause-few : goal.run_blocks-requires-clause-few
run_blocks-requires-clause-few g c = c.requires.few

pub run_blocks-requires-clause-position : goal.run_blocks-requires-clause-position
run_blocks-requires-clause-position g c = c.go_to.ensures.position

pub run_blocks-requires-clause-outside : goal.run_blocks-requires-clause-outside
run_blocks-requires-clause-outside g c = c.go_to.ensures.numbers

pub run_blocks-requires-clause-plan : goal.run_blocks-requires-clause-plan
run_blocks-requires-clause-plan g c = c.turn_to.ensures
