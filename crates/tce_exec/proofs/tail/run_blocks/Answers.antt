use Rattle.tce_exec.proofs.Calls.{none_given, told_of}
use Rattle.std.proofs.Common.{◌≡◌, ◌<◌, length, map, slice_index, refl, sym, ap, ap₂, ◌∙◌, subst}
use Rattle.std.proofs.lemmas.Bool.{false≢true}
use Rattle.tce_outside.proofs.Causes.{no_cause, failed_after}
use Rattle.tce_block.specs.Parts.{blocks}
use Rattle.tce_block.specs.Cuts.{part_of}
use Rattle.tce_exec.specs.Workspace.{Workspace}
use Rattle.tce_exec.specs.Storages.{work_of}
use Rattle.tce_exec.proofs.Following.{same_on}
use Rattle.tce_exec.specs.Following.{kept_on}
use Rattle.tce_space.specs.Space.{extent_at, edge_at}
use Rattle.tce_walk.specs.declared.machine.Tail.{Tail}
use Rattle.tce_exec.specs.Blocks.{blocks_of, loops_of}
use Rattle.tce_exec.specs.Along.{IsAlong}
use Rattle.tce_exec.specs.Plans.{IsNest}
use Rattle.tce_exec.proofs.Along.{begun, is_block, few_left, stepped, has_turns, ended, first_told, none_told, tail_now, one_left}
use Rattle.tce_exec.proofs.tail.run_blocks.Goals as goal

pub loop-plan-init : goal.loop-plan-init
loop-plan-init g c =
    let x : Workspace = work_of g.D.Disk.files c.args.evaluation.now c.args.store.now in
    let e = c.requires.plan in
    let all : c.restart.new.self ≡ blocks_of x.places.space c.args.tail.now =
    c.restart.ensures ∙ ap₂ blocks (e.is.extents_are ∙ ap (λ (t : Tail). map (extent_at x.places.space) (loops_of t)) e.tail_is) (e.is.edges_are ∙ ap (λ (t : Tail). map (edge_at x.places.space) (loops_of t)) e.tail_is) in
    record {
      along = subst (IsAlong x x c.args.tail.now (slice_index c.args.numbers.now)) (sym all) (begun x c.args.tail.now (slice_index c.args.numbers.now) c.requires.prepared);
      others = λ i m. ap (λ f. f i) c.requires.outside;
      position = c.requires.position;
      nest = subst (λ (t : Tail). IsNest x.places t c.args.plan.now.nest) e.tail_is e.is.nest_is;
      same = (refl, refl, refl);
      made = refl;
      tail_is = refl;
      cuts_are = refl;
      few_are = refl;
      list_is = refl;
      counted = refl;
    }

pub run_block-requires-clause-block : goal.run_block-requires-clause-block
run_block-requires-clause-block g c =
    let x : Workspace = work_of g.D.Disk.files c.args.evaluation.now c.args.store.now in
    let y : Workspace = work_of g.D.Disk.files c.args.evaluation.now c.loop-plan.store in
    is_block x y c.args.tail.now (slice_index c.args.numbers.now) c.loop-plan.plan.blocks (part_of c.next_in.new.block) c.loop-plan.invariant.along (first_told c.next_in.result (part_of c.next_in.new.block) c.loop-plan.plan.blocks c.next_in.ensures.block c.loop-plan-test.true)

pub run_block-requires-clause-few : goal.run_block-requires-clause-few
run_block-requires-clause-few g c =
    let x : Workspace = work_of g.D.Disk.files c.args.evaluation.now c.args.store.now in
    let y : Workspace = work_of g.D.Disk.files c.args.evaluation.now c.loop-plan.store in
    few_left x y c.args.tail.now (slice_index c.args.numbers.now) c.loop-plan.plan.blocks (part_of c.next_in.new.block) c.loop-plan.invariant.along (first_told c.next_in.result (part_of c.next_in.new.block) c.loop-plan.plan.blocks c.next_in.ensures.block c.loop-plan-test.true) c.requires.few

pub loop-plan-preserved : goal.loop-plan-preserved
loop-plan-preserved g c =
    let x : Workspace = work_of g.D.Disk.files c.args.evaluation.now c.args.store.now in
    let y : Workspace = work_of g.D.Disk.files c.args.evaluation.now c.loop-plan.store in
    let z : Workspace = work_of g.D.Disk.files c.args.evaluation.now c.run_block.new.store in
    let e = c.in_ok-run_block.ensures in
    record {
      along = subst (IsAlong x z c.args.tail.now (slice_index c.args.numbers.now)) (sym c.next_in.ensures.rest)
          (stepped x y z c.args.tail.now (slice_index c.args.numbers.now) c.loop-plan.plan.blocks (part_of c.next_in.new.block) c.requires.prepared c.loop-plan.invariant.along (first_told c.next_in.result (part_of c.next_in.new.block) c.loop-plan.plan.blocks c.next_in.ensures.block c.loop-plan-test.true)
          e.upheld.kept e.changed);
      others = e.others;
      position = e.position;
      nest = e.nest;
      same = same_on c.args.store.now c.loop-plan.store c.run_block.new.store c.loop-plan.invariant.same e.upheld.same;
      made = c.loop-plan.invariant.made;
      tail_is = c.loop-plan.invariant.tail_is;
      cuts_are = c.loop-plan.invariant.cuts_are;
      few_are = c.loop-plan.invariant.few_are;
      list_is = c.loop-plan.invariant.list_is;
      counted = e.upheld.fault_reported.quiet false≢true ∙ c.loop-plan.invariant.counted;
    }

pub returns-in_err-run_block-clause-upheld : goal.returns-in_err-run_block-clause-upheld
returns-in_err-run_block-clause-upheld g c = record {
  kept =
      let x : Workspace = work_of g.D.Disk.files c.args.evaluation.now c.args.store.now in
      let y : Workspace = work_of g.D.Disk.files c.args.evaluation.now c.loop-plan.store in
      let z : Workspace = work_of g.D.Disk.files c.args.evaluation.now c.run_block.new.store in
      kept_on x y z c.loop-plan.invariant.along.kept c.in_err-run_block.ensures.upheld.kept;
  same = same_on c.args.store.now c.loop-plan.store c.run_block.new.store c.loop-plan.invariant.same c.in_err-run_block.ensures.upheld.same;
  fault_reported = record {
    cause = failed_after _ _ _ c.loop-plan.invariant.counted c.in_err-run_block.ensures.upheld.fault_reported.cause;
    quiet = told_of _ _ _ c.from_residual.result c.from_residual.ensures.1;
  };
}

pub returns-clause-changed : goal.returns-clause-changed
returns-clause-changed g c =
    let x : Workspace = work_of g.D.Disk.files c.args.evaluation.now c.args.store.now in
    let y : Workspace = work_of g.D.Disk.files c.args.evaluation.now c.loop-plan.store in
    ended x y c.args.tail.now (slice_index c.args.numbers.now) c.loop-plan.plan.blocks c.index_count-indexes.ensures.limits (has_turns x.places.space c.index_count-indexes.ensures.limits)
    c.requires.prepared c.len-len.ensures.words c.requires.tail c.loop-plan.invariant.along (none_told c.next_in.result (part_of c.next_in.new.block) c.loop-plan.plan.blocks c.next_in.ensures.block c.loop-plan-test.false)

pub returns-in_err-run_block-clause-changed : goal.returns-in_err-run_block-clause-changed
returns-in_err-run_block-clause-changed g c = none_given _ _ c.from_residual.result c.from_residual.ensures.1

pub returns-in_err-run_block-clause-position : goal.returns-in_err-run_block-clause-position
returns-in_err-run_block-clause-position g c = none_given _ _ c.from_residual.result c.from_residual.ensures.1

pub returns-in_err-run_block-clause-plan : goal.returns-in_err-run_block-clause-plan
returns-in_err-run_block-clause-plan g c = none_given _ _ c.from_residual.result c.from_residual.ensures.1

pub returns-clause-upheld : goal.returns-clause-upheld
returns-clause-upheld g c = record {
  kept = c.loop-plan.invariant.along.kept;
  same = c.loop-plan.invariant.same;
  fault_reported = record {
    cause = no_cause _ _ c.loop-plan.invariant.counted false≢true;
    quiet = λ fine. c.loop-plan.invariant.counted;
  };
}

pub returns-clause-position : goal.returns-clause-position
returns-clause-position g c = c.loop-plan.invariant.position

pub run_block-requires-clause-prepared : goal.run_block-requires-clause-prepared
run_block-requires-clause-prepared g c = c.loop-plan.invariant.along.changed.prepared

pub run_block-requires-clause-position : goal.run_block-requires-clause-position
run_block-requires-clause-position g c = c.loop-plan.invariant.position

pub run_block-requires-clause-tail : goal.run_block-requires-clause-tail
run_block-requires-clause-tail g c =
    let x : Workspace = work_of g.D.Disk.files c.args.evaluation.now c.args.store.now in
    let y : Workspace = work_of g.D.Disk.files c.args.evaluation.now c.loop-plan.store in
    tail_now x y c.args.tail.now (slice_index c.args.numbers.now) c.requires.prepared c.loop-plan.invariant.along.kept c.requires.tail

pub run_block-requires-clause-others : goal.run_block-requires-clause-others
run_block-requires-clause-others g c = c.loop-plan.invariant.others

pub run_block-requires-clause-nest : goal.run_block-requires-clause-nest
run_block-requires-clause-nest g c = c.loop-plan.invariant.nest

pub loop-plan-smaller : goal.loop-plan-smaller
loop-plan-smaller g c =
    subst (λ blocks. length blocks < length c.loop-plan.plan.blocks) (sym c.next_in.ensures.rest)
    (one_left c.loop-plan.plan.blocks (part_of c.next_in.new.block) (first_told c.next_in.result (part_of c.next_in.new.block) c.loop-plan.plan.blocks c.next_in.ensures.block c.loop-plan-test.true))
