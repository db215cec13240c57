use Rattle.std.proofs.Common.{◌≡◌, ℕ, ◌+◌, ◌-◌, ◌<◌, List, drop, length, map, get_or, set, refl, sym, ap, ap₂, ◌∙◌, subst, arith, rules, set-set, slice_get, Some}
use Rattle.std.proofs.lemmas.Result.{err_from_is_err_and}
use Rattle.std.proofs.lemmas.Bool.{false≢true}
use Rattle.tce_outside.proofs.Causes.{no_cause, cause_after}
use Rattle.tce_space.specs.Space.{extent_at}
use Rattle.tce_code.specs.Execution.{Setting}
use Rattle.tce_code.specs.Program.{stop, loop}
use Rattle.tce_code.specs.declared.op.Op.TheVariants.{Open}
use Rattle.tce_walk.specs.Machine.{assignment_of}
use Rattle.tce_walk.specs.Positions.{program_at, IsPlain, plain_program}
use Rattle.tce_walk.specs.Run.{RunsOver, IsPart, IsRun}
use Rattle.tce_walk.proofs.Turns.{IsIndex, AreTurns, loop-index, assignment-set, set-again, turn-part, turn-few, turns-none, turns-next, turns-all}
use Rattle.tce_walk.proofs.TailParts.{part-shaped, tail-asks, tail-few, tail-run}
use Rattle.tce_walk.proofs.Positions.{left-start}
use Rattle.tce_walk.proofs.Walking.{over-later, over-part, over-extents, plain-is, plain-part, plain-rest, plain-few, plain-left, open-part, open-few, open-rest, open-left, set-next, set-back, close-run, close-end, past-run, past-end}
use Rattle.tce_block.specs.Cuts.{extents_of, edges_of, part_of}
use Rattle.tce_block.specs.Grouped.{grouped_blocks}
use Rattle.tce_walk.proofs.GroupedBands.{sizes-within}
use Rattle.tce_block.specs.Parts.{Part}
use Rattle.tce_space.specs.Space.{edge_at}
use Rattle.tce_tree.specs.Value.{with_number}
use Rattle.tce_walk.specs.BandRuns.{FitsLoops, IsPartRun}
use Rattle.tce_walk.specs.BandSearch.{BeginsBand, band_program}
use Rattle.tce_walk.specs.Search.{HasNoTail}
use Rattle.tce_walk.specs.Tails.{loops_round}
use Rattle.tce_walk.proofs.BandTurns.{ArePartTurns, part_turns-next, part_turns-all, part_turn-few, loop-part, set_restored, turn-numbers}
use Rattle.tce_walk.proofs.BandRuns.{each-declared, each-index, few-loops, blocks-begin, block-fits, first-block, blocks-next, blocks-all, block-few, band-part, band-bound, band-run}
use Rattle.tce_walk.specs.TermRuns.{last_part}
use Rattle.tce_walk.proofs.TermBands.{band_code, terms_few, last_fits, last_few, terms_make_band}
use Rattle.tce_walk.proofs.running.+walking.Goals as goal

pub run_loop-find_tail-requires-clause-shaped : goal.run_loop-find_tail-requires-clause-shaped
run_loop-find_tail-requires-clause-shaped g t c =
    part-shaped c.args.walk.now.space.now c.args.walk.now.tree.now c.args.head.index (program_at c.args.walk.now.ops.now (c.args.head.at + 1)) (assignment_of c.args.numbers.now) c.requires.part

pub run_loop-run_tail-requires-clause-tail : goal.run_loop-run_tail-requires-clause-tail
run_loop-run_tail-requires-clause-tail g t c =
    tail-asks c.args.walk.now.space.now c.args.walk.now.tree.now (g.M.Machine.space c.args.machine.now) (g.M.Machine.setting c.args.machine.now) c.args.head.index
    (program_at c.args.walk.now.ops.now (c.args.head.at + 1)) (assignment_of c.args.numbers.now) c.in-Some.found.tail c.requires.over c.requires.part (c.in-Some.ensures).0

pub run_part-run_loop-requires : goal.run_part-run_loop-requires
run_part-run_loop-requires g t c = λ κs lives.
    let over = over-later c.loop-at.invariant.space c.loop-at.invariant.setting c.requires.over in
    let part =
    subst (λ ns. IsPart c.args.walk.now.space.now c.args.walk.now.tree.now (loop c.in-Open.i (program_at c.args.walk.now.ops.now (c.loop-at.at + 1)) stop) (assignment_of ns)) (sym c.loop-at.invariant.numbers_same)
    (open-part c.args.walk.now.space.now c.args.walk.now.tree.now c.args.walk.now.ops.now c.loop-at.at c.in-Open.i (Open 0) (assignment_of c.args.numbers.now) c.loop-at-test.true
    c.in-Open.is c.loop-at.invariant.part) in
    let few =
    open-few c.args.walk.now.space.now c.args.walk.now.tree.now (g.M.Machine.setting c.args.machine.now) c.args.walk.now.ops.now c.args.start c.loop-at.at c.in-Open.i (Open 0)
    (assignment_of c.args.numbers.now) (g.M.Machine.state c.args.machine.now) (g.M.Machine.state c.loop-at.machine)
    (g.M.Machine.touches c.args.machine.now) (g.M.Machine.touches c.loop-at.machine) c.loop-at-test.true c.in-Open.is c.loop-at.invariant.left c.requires.few in
    (omega (arith, c.loop-at-test.true, c.loop-at.invariant.behind), (lives, (c.loop-at-test.true, (c.requires.limits, (ap (λ (s : Setting). s.fusion) c.loop-at.invariant.setting ∙ c.requires.fused, (over, (part, (c.loop-at.invariant.ready, few))))))))

pub run_part-loop-at-preserved-in-Open : goal.run_part-loop-at-preserved-in-Open
run_part-loop-at-preserved-in-Open g t c = record {
  setting = c.run_loop.ensures.upheld.setting ∙ c.loop-at.invariant.setting;
  space = c.run_loop.ensures.upheld.space ∙ c.loop-at.invariant.space;
  ready = (c.in_ok-close-in-Open.ensures).ready;
  kept = g.met.M.Machine.keeps_on c.args.machine.now c.loop-at.machine c.run_loop.new.machine c.loop-at.invariant.kept c.run_loop.ensures.upheld.kept;
  counted = (c.in_ok-close-in-Open.ensures).upheld.fault_reported.quiet (search rules) ∙ c.loop-at.invariant.counted;
  left =
      open-left c.args.walk.now.space.now c.args.walk.now.tree.now (g.M.Machine.setting c.args.machine.now) (g.M.Machine.setting c.loop-at.machine) c.args.walk.now.ops.now c.args.start c.loop-at.at
      c.in-Open.i (Open 0) c.in_ok-close-in-Open.close c.min-at.result (assignment_of c.args.numbers.now) (g.M.Machine.state c.args.machine.now)
      (g.M.Machine.state c.loop-at.machine) (g.M.Machine.state c.run_loop.new.machine) (g.M.Machine.touches c.args.machine.now)
      (g.M.Machine.touches c.loop-at.machine) (g.M.Machine.touches c.run_loop.new.machine) c.loop-at.invariant.setting c.loop-at-test.true c.in-Open.is
      (c.in_ok-close-in-Open.ensures).end.ends c.min-at.ensures c.loop-at.invariant.left
      (subst (λ ns. IsRun c.args.walk.now.space.now c.args.walk.now.tree.now (g.M.Machine.setting c.loop-at.machine) (loop c.in-Open.i (program_at c.args.walk.now.ops.now (c.loop-at.at + 1)) stop)
      (assignment_of ns) (g.M.Machine.state c.loop-at.machine) (g.M.Machine.state c.run_loop.new.machine) (g.M.Machine.touches c.loop-at.machine)
      (g.M.Machine.touches c.run_loop.new.machine)) c.loop-at.invariant.numbers_same (c.in_ok-close-in-Open.ensures).run);
  part =
      open-rest c.args.walk.now.space.now c.args.walk.now.tree.now c.args.walk.now.ops.now c.loop-at.at c.in-Open.i (Open 0) c.in_ok-close-in-Open.close c.min-at.result
      (assignment_of c.args.numbers.now) c.loop-at-test.true c.in-Open.is (c.in_ok-close-in-Open.ensures).end.ends c.min-at.ensures c.loop-at.invariant.part;
  numbers_same = (c.in_ok-close-in-Open.ensures).numbers ∙ c.loop-at.invariant.numbers_same;
  behind = omega (arith, c.min-at.ensures, c.loop-at.invariant.behind, (c.in_ok-close-in-Open.ensures).end.behind, c.loop-at-test.true);
  within = omega (arith, c.min-at.ensures);
}

pub run_part-run_action-requires : goal.run_part-run_action-requires
run_part-run_action-requires g t c =
    let plain : IsPlain (get_or c.args.walk.now.ops.now c.loop-at.at (Open 0)) = plain-is (get_or c.args.walk.now.ops.now c.loop-at.at (Open 0)) c.in_default.not-Open c.in_default.not-Close in
    let over : RunsOver c.args.walk.now.space.now c.args.walk.now.tree.now (g.M.Machine.space c.loop-at.machine) (g.M.Machine.setting c.loop-at.machine) =
    over-later c.loop-at.invariant.space c.loop-at.invariant.setting c.requires.over in
    record {
      plain = plain;
      ready = c.loop-at.invariant.ready;
      part =
          over-part c.args.walk.now.space.now c.args.walk.now.tree.now (g.M.Machine.space c.loop-at.machine) (g.M.Machine.setting c.loop-at.machine)
          (plain_program (get_or c.args.walk.now.ops.now c.loop-at.at (Open 0))) (assignment_of c.loop-at.numbers) over
          (subst (λ ns. IsPart c.args.walk.now.space.now c.args.walk.now.tree.now (plain_program (get_or c.args.walk.now.ops.now c.loop-at.at (Open 0))) (assignment_of ns))
          (sym c.loop-at.invariant.numbers_same)
          (plain-part c.args.walk.now.space.now c.args.walk.now.tree.now c.args.walk.now.ops.now c.loop-at.at (Open 0) (assignment_of c.args.numbers.now) c.loop-at-test.true plain c.loop-at.invariant.part));
      extents = over-extents c.args.walk.now.space.now c.args.walk.now.tree.now (g.M.Machine.space c.loop-at.machine) (g.M.Machine.setting c.loop-at.machine) over;
      few =
          plain-few c.args.walk.now.space.now c.args.walk.now.tree.now (g.M.Machine.space c.loop-at.machine) (g.M.Machine.setting c.args.machine.now) (g.M.Machine.setting c.loop-at.machine)
          c.args.walk.now.ops.now c.args.start c.loop-at.at (Open 0) (assignment_of c.args.numbers.now) (g.M.Machine.state c.args.machine.now) (g.M.Machine.state c.loop-at.machine)
          (g.M.Machine.touches c.args.machine.now) (g.M.Machine.touches c.loop-at.machine) over c.loop-at-test.true plain c.loop-at.invariant.left c.requires.few;
    }

pub run_part-loop-at-preserved : goal.run_part-loop-at-preserved
run_part-loop-at-preserved g t c =
    let plain : IsPlain (get_or c.args.walk.now.ops.now c.loop-at.at (Open 0)) = plain-is (get_or c.args.walk.now.ops.now c.loop-at.at (Open 0)) c.in_default.not-Open c.in_default.not-Close in
    let over : RunsOver c.args.walk.now.space.now c.args.walk.now.tree.now (g.M.Machine.space c.loop-at.machine) (g.M.Machine.setting c.loop-at.machine) =
    over-later c.loop-at.invariant.space c.loop-at.invariant.setting c.requires.over in
    record {
      setting = c.run_action.ensures.upheld.setting ∙ c.loop-at.invariant.setting;
      space = c.run_action.ensures.upheld.space ∙ c.loop-at.invariant.space;
      ready = (c.in_ok-run_action-in_default.ensures).ready;
      kept = g.met.M.Machine.keeps_on c.args.machine.now c.loop-at.machine c.run_action.new.machine c.loop-at.invariant.kept c.run_action.ensures.upheld.kept;
      counted = (c.in_ok-run_action-in_default.ensures).upheld.fault_reported.quiet (search rules) ∙ c.loop-at.invariant.counted;
      left =
          plain-left c.args.walk.now.space.now c.args.walk.now.tree.now (g.M.Machine.space c.loop-at.machine) (g.M.Machine.setting c.args.machine.now) (g.M.Machine.setting c.loop-at.machine)
          c.args.walk.now.ops.now c.args.start c.loop-at.at (Open 0) (assignment_of c.args.numbers.now) (g.M.Machine.state c.args.machine.now) (g.M.Machine.state c.loop-at.machine)
          (g.M.Machine.state c.run_action.new.machine) (g.M.Machine.touches c.args.machine.now) (g.M.Machine.touches c.loop-at.machine)
          (g.M.Machine.touches c.run_action.new.machine) over c.loop-at.invariant.setting c.loop-at-test.true plain c.loop-at.invariant.left
          (subst (λ ns. IsRun (g.M.Machine.space c.loop-at.machine) (g.M.Machine.setting c.loop-at.machine).tree (g.M.Machine.setting c.loop-at.machine)
          (plain_program (get_or c.args.walk.now.ops.now c.loop-at.at (Open 0))) (assignment_of ns) (g.M.Machine.state c.loop-at.machine)
          (g.M.Machine.state c.run_action.new.machine) (g.M.Machine.touches c.loop-at.machine) (g.M.Machine.touches c.run_action.new.machine))
          c.loop-at.invariant.numbers_same (c.in_ok-run_action-in_default.ensures).run);
      part = plain-rest c.args.walk.now.space.now c.args.walk.now.tree.now c.args.walk.now.ops.now c.loop-at.at (Open 0) (assignment_of c.args.numbers.now) c.loop-at-test.true plain c.loop-at.invariant.part;
      numbers_same = c.loop-at.invariant.numbers_same;
      behind = omega (arith, c.loop-at.invariant.behind);
      within = omega (arith, c.loop-at-test.true);
    }

pub run_turns-extent-extent-requires : goal.run_turns-extent-extent-requires
run_turns-extent-extent-requires g t c = (loop-index c.requires.limits c.requires.over.measured c.requires.part).declared

pub run_turns-bounds-numbers-i : goal.run_turns-bounds-numbers-i
run_turns-bounds-numbers-i g t c = (loop-index c.requires.limits c.requires.over.measured c.requires.part).small

pub run_turns-bounds-numbers-i-2 : goal.run_turns-bounds-numbers-i-2
run_turns-bounds-numbers-i-2 g t c = (loop-index c.requires.limits c.requires.over.measured c.requires.part).small

pub run_turns-run_part-requires : goal.run_turns-run_part-requires
run_turns-run_part-requires g t c = λ κs lives.
    let index : IsIndex c.args.walk.now.space.now c.args.head.index = loop-index c.requires.limits c.requires.over.measured c.requires.part in
    let within : c.args.head.index < length c.args.numbers.now = omega (arith, index.small, c.told-numbers) in
    let part =
    turn-part c.args.walk.now.space.now c.args.walk.now.tree.now c.args.head.index (program_at c.args.walk.now.ops.now (c.args.head.at + 1)) (assignment_of c.args.numbers.now)
    (assignment_of (set c.args.numbers.now c.args.head.index 0)) 0 (assignment-set c.args.numbers.now c.args.head.index 0 within) index.some c.requires.part in
    let few =
    turn-few c.args.walk.now.space.now c.args.walk.now.tree.now (g.M.Machine.setting c.args.machine.now) c.args.head.index (program_at c.args.walk.now.ops.now (c.args.head.at + 1))
    (assignment_of c.args.numbers.now) 0 (g.M.Machine.state c.args.machine.now) (g.M.Machine.state c.args.machine.now)
    (g.M.Machine.touches c.args.machine.now) (g.M.Machine.touches c.args.machine.now) c.requires.no_tail index.some
    (turns-none c.args.walk.now.space.now c.args.walk.now.tree.now (g.M.Machine.setting c.args.machine.now) c.args.head.index (program_at c.args.walk.now.ops.now (c.args.head.at + 1))
    (assignment_of c.args.numbers.now) (g.M.Machine.state c.args.machine.now) (g.M.Machine.touches c.args.machine.now)) c.requires.few in
    (omega (arith, c.requires.within), (lives, (omega (arith, c.requires.within), (c.requires.limits, (c.requires.fused, (c.requires.over, (part, (c.requires.ready, few))))))))

pub run_turns-loop-x-init : goal.run_turns-loop-x-init
run_turns-loop-x-init g t c =
    let index : IsIndex c.args.walk.now.space.now c.args.head.index = loop-index c.requires.limits c.requires.over.measured c.requires.part in
    let within : c.args.head.index < length c.args.numbers.now = omega (arith, index.small, c.told-numbers) in
    record {
      setting = c.run_part.ensures.upheld.setting;
      space = c.run_part.ensures.upheld.space;
      ready = (c.in_ok-close.ensures).ready;
      kept = c.run_part.ensures.upheld.kept;
      counted = (c.in_ok-close.ensures).upheld.fault_reported.quiet (search rules);
      turns =
          turns-next c.args.walk.now.space.now c.args.walk.now.tree.now (g.M.Machine.setting c.args.machine.now) (g.M.Machine.setting c.args.machine.now) c.args.head.index
          (program_at c.args.walk.now.ops.now (c.args.head.at + 1)) (assignment_of c.args.numbers.now) (assignment_of (set c.args.numbers.now c.args.head.index 0)) 0
          (g.M.Machine.state c.args.machine.now) (g.M.Machine.state c.args.machine.now) (g.M.Machine.state c.run_part.new.machine)
          (g.M.Machine.touches c.args.machine.now) (g.M.Machine.touches c.args.machine.now) (g.M.Machine.touches c.run_part.new.machine) refl
          (assignment-set c.args.numbers.now c.args.head.index 0 within)
          (turns-none c.args.walk.now.space.now c.args.walk.now.tree.now (g.M.Machine.setting c.args.machine.now) c.args.head.index (program_at c.args.walk.now.ops.now (c.args.head.at + 1))
          (assignment_of c.args.numbers.now) (g.M.Machine.state c.args.machine.now) (g.M.Machine.touches c.args.machine.now)) (c.in_ok-close.ensures).run;
      numbers_set = (c.in_ok-close.ensures).numbers;
      end = (c.in_ok-close.ensures).end;
    }

pub run_turns-run_part-requires-in-loop-x : goal.run_turns-run_part-requires-in-loop-x
run_turns-run_part-requires-in-loop-x g t c = λ κs lives.
    let index : IsIndex c.args.walk.now.space.now c.args.head.index = loop-index c.requires.limits c.requires.over.measured c.requires.part in
    let within : c.args.head.index < length c.args.numbers.now = omega (arith, index.small, c.told-numbers) in
    let turn : c.loop-x.x < extent_at c.args.walk.now.space.now c.args.head.index = omega (arith, c.loop-x-test.true, c.extent-extent.ensures.extent) in
    let over = over-later c.loop-x.invariant.space c.loop-x.invariant.setting c.requires.over in
    let part =
    turn-part c.args.walk.now.space.now c.args.walk.now.tree.now c.args.head.index (program_at c.args.walk.now.ops.now (c.args.head.at + 1)) (assignment_of c.args.numbers.now)
    (assignment_of (set c.loop-x.numbers c.args.head.index c.loop-x.x)) c.loop-x.x
    (set-again c.args.numbers.now c.loop-x.numbers c.args.head.index c.loop-x.x (c.loop-x.x - 1) within c.loop-x.invariant.numbers_set) turn c.requires.part in
    let few =
    turn-few c.args.walk.now.space.now c.args.walk.now.tree.now (g.M.Machine.setting c.args.machine.now) c.args.head.index (program_at c.args.walk.now.ops.now (c.args.head.at + 1))
    (assignment_of c.args.numbers.now) c.loop-x.x (g.M.Machine.state c.args.machine.now) (g.M.Machine.state c.loop-x.machine)
    (g.M.Machine.touches c.args.machine.now) (g.M.Machine.touches c.loop-x.machine) c.requires.no_tail turn c.loop-x.invariant.turns c.requires.few in
    (omega (arith, c.requires.within), (lives, (omega (arith, c.requires.within), (c.requires.limits, (ap (λ (s : Setting). s.fusion) c.loop-x.invariant.setting ∙ c.requires.fused, (over, (part, (c.loop-x.invariant.ready, few))))))))

pub run_turns-loop-x-preserved : goal.run_turns-loop-x-preserved
run_turns-loop-x-preserved g t c =
    let index : IsIndex c.args.walk.now.space.now c.args.head.index = loop-index c.requires.limits c.requires.over.measured c.requires.part in
    let within : c.args.head.index < length c.args.numbers.now = omega (arith, index.small, c.told-numbers) in
    let back : c.loop-x.x ≡ c.loop-x.x + 1 - 1 = omega arith in
    record {
      setting = c.run_part-in-loop-x.ensures.upheld.setting ∙ c.loop-x.invariant.setting;
      space = c.run_part-in-loop-x.ensures.upheld.space ∙ c.loop-x.invariant.space;
      ready = (c.in_ok-close-2.ensures).ready;
      kept = g.met.M.Machine.keeps_on c.args.machine.now c.loop-x.machine c.run_part-in-loop-x.new.machine c.loop-x.invariant.kept c.run_part-in-loop-x.ensures.upheld.kept;
      counted = (c.in_ok-close-2.ensures).upheld.fault_reported.quiet (search rules) ∙ c.loop-x.invariant.counted;
      turns =
          turns-next c.args.walk.now.space.now c.args.walk.now.tree.now (g.M.Machine.setting c.args.machine.now) (g.M.Machine.setting c.loop-x.machine) c.args.head.index
          (program_at c.args.walk.now.ops.now (c.args.head.at + 1)) (assignment_of c.args.numbers.now) (assignment_of (set c.loop-x.numbers c.args.head.index c.loop-x.x)) c.loop-x.x
          (g.M.Machine.state c.args.machine.now) (g.M.Machine.state c.loop-x.machine) (g.M.Machine.state c.run_part-in-loop-x.new.machine)
          (g.M.Machine.touches c.args.machine.now) (g.M.Machine.touches c.loop-x.machine) (g.M.Machine.touches c.run_part-in-loop-x.new.machine) c.loop-x.invariant.setting
          (set-again c.args.numbers.now c.loop-x.numbers c.args.head.index c.loop-x.x (c.loop-x.x - 1) within c.loop-x.invariant.numbers_set)
          c.loop-x.invariant.turns (c.in_ok-close-2.ensures).run;
      numbers_set =
          set-next c.args.numbers.now c.loop-x.numbers c.run_part-in-loop-x.new.numbers c.args.head.index c.loop-x.x (c.loop-x.x - 1) c.loop-x.invariant.numbers_set
          (c.in_ok-close-2.ensures).numbers ∙ ap (set c.args.numbers.now c.args.head.index) back;
      end = (c.in_ok-close-2.ensures).end;
    }

pub run_turns-bounds-numbers-i-3 : goal.run_turns-bounds-numbers-i-3
run_turns-bounds-numbers-i-3 g t c = (loop-index c.requires.limits c.requires.over.measured c.requires.part).small

pub run_turns-returns : goal.run_turns-returns
run_turns-returns g t c =
    let index : IsIndex c.args.walk.now.space.now c.args.head.index = loop-index c.requires.limits c.requires.over.measured c.requires.part in
    let all : c.loop-x.x ≡ extent_at c.args.walk.now.space.now c.args.head.index = omega (arith, c.loop-x-test.false, c.extent-extent.ensures.extent, c.extent-extent.ensures.positive, c.loop-x.auto) in
    record {
      ready = c.loop-x.invariant.ready;
      run =
          turns-all c.args.walk.now.space.now c.args.walk.now.tree.now (g.M.Machine.setting c.args.machine.now) c.args.head.index (program_at c.args.walk.now.ops.now (c.args.head.at + 1))
          (assignment_of c.args.numbers.now) (g.M.Machine.state c.args.machine.now) (g.M.Machine.state c.loop-x.machine) (g.M.Machine.touches c.args.machine.now)
          (g.M.Machine.touches c.loop-x.machine) c.requires.over.extents c.requires.no_tail
          (subst (λ n. AreTurns c.args.walk.now.space.now c.args.walk.now.tree.now (g.M.Machine.setting c.args.machine.now) c.args.head.index (program_at c.args.walk.now.ops.now (c.args.head.at + 1))
          (assignment_of c.args.numbers.now) n (g.M.Machine.state c.args.machine.now) (g.M.Machine.state c.loop-x.machine) (g.M.Machine.touches c.args.machine.now)
          (g.M.Machine.touches c.loop-x.machine)) all c.loop-x.invariant.turns);
      end = c.loop-x.invariant.end;
      numbers = set-back c.args.numbers.now c.loop-x.numbers c.args.head.index (c.loop-x.x - 1) (omega (arith, index.small, c.told-numbers)) c.loop-x.invariant.numbers_set;
      upheld = record {
        space = c.loop-x.invariant.space;
        setting = c.loop-x.invariant.setting;
        kept = c.loop-x.invariant.kept;
        fault_reported = record { cause = no_cause _ _ c.loop-x.invariant.counted false≢true; quiet = λ none. c.loop-x.invariant.counted };
      };
    }

pub run_loop-run_tail-requires-clause-few : goal.run_loop-run_tail-requires-clause-few
run_loop-run_tail-requires-clause-few g t c =
    tail-few c.args.walk.now.space.now c.args.walk.now.tree.now (g.M.Machine.space c.args.machine.now) (g.M.Machine.setting c.args.machine.now) c.args.head.index
    (program_at c.args.walk.now.ops.now (c.args.head.at + 1)) c.in-Some.found.tail (g.M.Machine.touches c.args.machine.now) c.requires.over (c.in-Some.ensures).0 c.requires.few

pub run_loop-returns-in_err-run_tail : goal.run_loop-returns-in_err-run_tail
run_loop-returns-in_err-run_tail g t c =
    let p = err_from_is_err_and c.from_residual.result c.from_residual.ensures.1 in
    rw p.1 (record {
      ready = tt;
      run = tt;
      end = tt;
      numbers = tt;
      upheld = record {
        space = c.run_tail.ensures.upheld.space;
        setting = c.run_tail.ensures.upheld.setting;
        kept = c.run_tail.ensures.upheld.kept;
        fault_reported = c.in_err-run_tail.ensures.upheld.fault_reported;
      };
    })

pub run_loop-returns-in-Some : goal.run_loop-returns-in-Some
run_loop-returns-in-Some g t c =
    let e = c.in_ok-run_tail.ensures in
    record {
      ready = e.ready;
      run =
          tail-run c.args.walk.now.space.now c.args.walk.now.tree.now (g.M.Machine.space c.args.machine.now) (g.M.Machine.setting c.args.machine.now) c.args.head.index
          (program_at c.args.walk.now.ops.now (c.args.head.at + 1)) c.in-Some.found.tail (assignment_of c.args.numbers.now) (g.M.Machine.state c.args.machine.now)
          (g.M.Machine.state c.run_tail.new.self) (g.M.Machine.touches c.args.machine.now) (g.M.Machine.touches c.run_tail.new.self) c.requires.over (c.in-Some.ensures).0
          e.state e.touches;
      end = (c.in-Some.ensures).1;
      numbers = refl {a = c.args.numbers.now};
      upheld = record {
        space = c.run_tail.ensures.upheld.space;
        setting = c.run_tail.ensures.upheld.setting;
        kept = c.run_tail.ensures.upheld.kept;
        fault_reported = e.upheld.fault_reported;
      };
    }

pub run_loop-returns : goal.run_loop-returns
run_loop-returns g t c = record {
  ready = c.run_turns.ensures.ready;
  run = c.run_turns.ensures.run;
  end = c.run_turns.ensures.end;
  numbers = c.run_turns.ensures.numbers;
  upheld = c.run_turns.ensures.upheld;
}

pub run_part-returns-in-Close : goal.run_part-returns-in-Close
run_part-returns-in-Close g t c = record {
  ready = c.loop-at.invariant.ready;
  run =
      close-run c.args.walk.now.space.now c.args.walk.now.tree.now (g.M.Machine.setting c.args.machine.now) c.args.walk.now.ops.now c.args.start c.loop-at.at (Open 0) (assignment_of c.args.numbers.now)
      (g.M.Machine.state c.args.machine.now) (g.M.Machine.state c.loop-at.machine) (g.M.Machine.touches c.args.machine.now) (g.M.Machine.touches c.loop-at.machine)
      c.loop-at-test.true c.in-Close.is c.loop-at.invariant.left;
  end =
      close-end c.args.walk.now.space.now c.args.walk.now.tree.now (g.M.Machine.setting c.args.machine.now) c.args.walk.now.ops.now c.args.start c.loop-at.at (Open 0) (assignment_of c.args.numbers.now)
      (g.M.Machine.state c.args.machine.now) (g.M.Machine.state c.loop-at.machine) (g.M.Machine.touches c.args.machine.now) (g.M.Machine.touches c.loop-at.machine)
      c.loop-at-test.true c.in-Close.is c.loop-at.invariant.behind c.loop-at.invariant.left;
  numbers = c.loop-at.invariant.numbers_same;
  upheld = record {
    space = c.loop-at.invariant.space;
    setting = c.loop-at.invariant.setting;
    kept = c.loop-at.invariant.kept;
    fault_reported = record { cause = no_cause _ _ c.loop-at.invariant.counted false≢true; quiet = λ none. c.loop-at.invariant.counted };
  };
}

pub run_part-returns-in_err-close-in-Open : goal.run_part-returns-in_err-close-in-Open
run_part-returns-in_err-close-in-Open g t c =
    let p = err_from_is_err_and c.from_residual.result c.from_residual.ensures.1 in
    rw p.1 (record {
      ready = tt;
      run = tt;
      end = tt;
      numbers = tt;
      upheld = record {
        space = c.run_loop.ensures.upheld.space ∙ c.loop-at.invariant.space;
        setting = c.run_loop.ensures.upheld.setting ∙ c.loop-at.invariant.setting;
        kept = g.met.M.Machine.keeps_on c.args.machine.now c.loop-at.machine c.run_loop.new.machine c.loop-at.invariant.kept c.run_loop.ensures.upheld.kept;
        fault_reported = record { cause = cause_after _ _ _ c.loop-at.invariant.counted c.in_err-close-in-Open.ensures.upheld.fault_reported.cause; quiet = λ none. c.in_err-close-in-Open.ensures.upheld.fault_reported.quiet none ∙ c.loop-at.invariant.counted };
      };
    })

pub run_part-returns-in_err-run_action-in_default : goal.run_part-returns-in_err-run_action-in_default
run_part-returns-in_err-run_action-in_default g t c =
    let p = err_from_is_err_and c.from_residual-in_err-run_action-in_default.result c.from_residual-in_err-run_action-in_default.ensures.1 in
    rw p.1 (record {
      ready = tt;
      run = tt;
      end = tt;
      numbers = tt;
      upheld = record {
        space = c.run_action.ensures.upheld.space ∙ c.loop-at.invariant.space;
        setting = c.run_action.ensures.upheld.setting ∙ c.loop-at.invariant.setting;
        kept = g.met.M.Machine.keeps_on c.args.machine.now c.loop-at.machine c.run_action.new.machine c.loop-at.invariant.kept c.run_action.ensures.upheld.kept;
        fault_reported = record { cause = cause_after _ _ _ c.loop-at.invariant.counted c.in_err-run_action-in_default.ensures.upheld.fault_reported.cause; quiet = λ none. c.in_err-run_action-in_default.ensures.upheld.fault_reported.quiet none ∙ c.loop-at.invariant.counted };
      };
    })

pub run_part-returns : goal.run_part-returns
run_part-returns g t c = record {
  ready = c.loop-at.invariant.ready;
  run =
      past-run c.args.walk.now.space.now c.args.walk.now.tree.now (g.M.Machine.setting c.args.machine.now) c.args.walk.now.ops.now c.args.start c.loop-at.at (assignment_of c.args.numbers.now)
      (g.M.Machine.state c.args.machine.now) (g.M.Machine.state c.loop-at.machine) (g.M.Machine.touches c.args.machine.now) (g.M.Machine.touches c.loop-at.machine)
      c.loop-at-test.false c.loop-at.invariant.left;
  end =
      past-end c.args.walk.now.space.now c.args.walk.now.tree.now (g.M.Machine.setting c.args.machine.now) c.args.walk.now.ops.now c.args.start c.loop-at.at (assignment_of c.args.numbers.now)
      (g.M.Machine.state c.args.machine.now) (g.M.Machine.state c.loop-at.machine) (g.M.Machine.touches c.args.machine.now) (g.M.Machine.touches c.loop-at.machine)
      c.loop-at-test.false c.loop-at.invariant.behind c.loop-at.invariant.within c.loop-at.invariant.left;
  numbers = c.loop-at.invariant.numbers_same;
  upheld = record {
    space = c.loop-at.invariant.space;
    setting = c.loop-at.invariant.setting;
    kept = c.loop-at.invariant.kept;
    fault_reported = record { cause = no_cause _ _ c.loop-at.invariant.counted false≢true; quiet = λ none. c.loop-at.invariant.counted };
  };
}

pub run_turns-returns-in_err-close : goal.run_turns-returns-in_err-close
run_turns-returns-in_err-close g t c =
    let p = err_from_is_err_and c.from_residual.result c.from_residual.ensures.1 in
    rw p.1 (record {
      ready = tt;
      run = tt;
      end = tt;
      numbers = tt;
      upheld = record {
        space = c.run_part.ensures.upheld.space;
        setting = c.run_part.ensures.upheld.setting;
        kept = c.run_part.ensures.upheld.kept;
        fault_reported = c.in_err-close.ensures.upheld.fault_reported;
      };
    })

pub run_turns-returns-in_err-close-2 : goal.run_turns-returns-in_err-close-2
run_turns-returns-in_err-close-2 g t c =
    let p = err_from_is_err_and c.from_residual-in_err-close-2.result c.from_residual-in_err-close-2.ensures.1 in
    rw p.1 (record {
      ready = tt;
      run = tt;
      end = tt;
      numbers = tt;
      upheld = record {
        space = c.run_part-in-loop-x.ensures.upheld.space ∙ c.loop-x.invariant.space;
        setting = c.run_part-in-loop-x.ensures.upheld.setting ∙ c.loop-x.invariant.setting;
        kept = g.met.M.Machine.keeps_on c.args.machine.now c.loop-x.machine c.run_part-in-loop-x.new.machine c.loop-x.invariant.kept c.run_part-in-loop-x.ensures.upheld.kept;
        fault_reported = record { cause = cause_after _ _ _ c.loop-x.invariant.counted c.in_err-close-2.ensures.upheld.fault_reported.cause; quiet = λ none. c.in_err-close-2.ensures.upheld.fault_reported.quiet none ∙ c.loop-x.invariant.counted };
      };
    })

pub run_part-loop-at-init : goal.run_part-loop-at-init
run_part-loop-at-init g t c = record {
  setting = refl {a = g.M.Machine.setting c.args.machine.now};
  space = refl {a = g.M.Machine.space c.args.machine.now};
  ready = c.requires.ready;
  kept = g.met.M.Machine.keeps_own c.args.machine.now;
  counted = refl {a = g.M.Machine.faults c.args.machine.now};
  left =
      left-start c.args.walk.now.space.now c.args.walk.now.tree.now (g.M.Machine.setting c.args.machine.now) c.args.walk.now.ops.now c.args.start (assignment_of c.args.numbers.now)
      (g.M.Machine.state c.args.machine.now) (g.M.Machine.touches c.args.machine.now);
  part = c.requires.part;
  numbers_same = refl {a = c.args.numbers.now};
  behind = omega arith;
  within = c.requires.start;
}

pub run_along-bounds-numbers-i : goal.run_along-bounds-numbers-i
run_along-bounds-numbers-i g t c =
    subst (λ xs. get_or xs c.args.d 0 < 24) (sym c.deref.ensures.0) (loop-index c.requires.limits c.requires.over.measured (loop-part c.args.walk.now.space.now c.args.walk.now.tree.now (program_at c.args.walk.now.ops.now c.args.band.now.at) c.args.band.now.loops.0.items c.args.d (assignment_of c.args.numbers.now) (omega (arith, c.if-d-len.false, c.len.ensures.value)) c.requires.part)).small

pub run_along-bounds-numbers-i-in-loop-x : goal.run_along-bounds-numbers-i-in-loop-x
run_along-bounds-numbers-i-in-loop-x g t c =
    subst (λ xs. get_or xs c.args.d 0 < 24) (sym c.deref.ensures.0) (loop-index c.requires.limits c.requires.over.measured (loop-part c.args.walk.now.space.now c.args.walk.now.tree.now (program_at c.args.walk.now.ops.now c.args.band.now.at) c.args.band.now.loops.0.items c.args.d (assignment_of c.args.numbers.now) (omega (arith, c.if-d-len.false, c.len.ensures.value)) c.requires.part)).small

pub run_along-bounds-numbers-i-2 : goal.run_along-bounds-numbers-i-2
run_along-bounds-numbers-i-2 g t c =
    subst (λ xs. get_or xs c.args.d 0 < 24) (sym c.deref.ensures.0) (loop-index c.requires.limits c.requires.over.measured (loop-part c.args.walk.now.space.now c.args.walk.now.tree.now (program_at c.args.walk.now.ops.now c.args.band.now.at) c.args.band.now.loops.0.items c.args.d (assignment_of c.args.numbers.now) (omega (arith, c.if-d-len.false, c.len.ensures.value)) c.requires.part)).small

pub run_along-run_along-requires : goal.run_along-run_along-requires
run_along-run_along-requires g t c = λ κs lives.
    let loops : List ℕ = c.args.band.now.loops.0.items in
    let part : Part = part_of c.args.block.now in
    let here : get_or c.deref.result.now c.args.d 0 ≡ get_or loops c.args.d 0 = ap (λ xs. get_or xs c.args.d 0) c.deref.ensures.0 in
    let first : get_or c.deref-2.result.now c.args.d 0 ≡ get_or part.from c.args.d 0 = ap (λ xs. get_or xs c.args.d 0) c.deref-2.ensures.0 in
    let low : c.args.d < length loops = omega (arith, c.if-d-len.false, c.len.ensures.value) in
    let whole = loop-part c.args.walk.now.space.now c.args.walk.now.tree.now (program_at c.args.walk.now.ops.now c.args.band.now.at) loops c.args.d (assignment_of c.args.numbers.now) low c.requires.part in
    let index : IsIndex c.args.walk.now.space.now (get_or loops c.args.d 0) = loop-index c.requires.limits c.requires.over.measured whole in
    let at : assignment_of (set c.loop-x.numbers (get_or c.deref.result.now c.args.d 0) (get_or c.deref-2.result.now c.args.d 0 + c.loop-x.x))
    ≡ with_number (assignment_of c.args.numbers.now) (get_or loops c.args.d 0) (get_or part.from c.args.d 0 + c.loop-x.x) =
    turn-numbers c.args.numbers.now c.loop-x.numbers (get_or c.deref.result.now c.args.d 0) (get_or c.deref-2.result.now c.args.d 0 + c.loop-x.x)
    (omega (arith, here, index.small, c.told-numbers)) c.loop-x.invariant.numbers_set
    ∙ ap₂ (with_number (assignment_of c.args.numbers.now)) here (ap (λ f. f + c.loop-x.x) first) in
    let over : RunsOver c.args.walk.now.space.now c.args.walk.now.tree.now (g.M.Machine.space c.loop-x.machine) (g.M.Machine.setting c.loop-x.machine) =
    over-later c.loop-x.invariant.space c.loop-x.invariant.setting c.requires.over in
    let last : get_or c.deref-3.result.now c.args.d 0 ≡ get_or part.len c.args.d 0 = ap (λ xs. get_or xs c.args.d 0) c.deref-3.ensures.0 in
    let turn : c.loop-x.x < get_or part.len c.args.d 0 = omega (arith, c.loop-x-test.true, last) in
    let next =
    turn-part c.args.walk.now.space.now c.args.walk.now.tree.now (get_or loops c.args.d 0) (loops_round (drop (c.args.d + 1) loops) (program_at c.args.walk.now.ops.now c.args.band.now.at)) (assignment_of c.args.numbers.now)
    (assignment_of (set c.loop-x.numbers (get_or c.deref.result.now c.args.d 0) (get_or c.deref-2.result.now c.args.d 0 + c.loop-x.x)))
    (get_or part.from c.args.d 0 + c.loop-x.x) at (omega (arith, turn, c.requires.fits.inside c.args.d low)) whole in
    let few =
    part_turn-few c.args.walk.now.space.now c.args.walk.now.tree.now (g.M.Machine.setting c.args.machine.now) (program_at c.args.walk.now.ops.now c.args.band.now.at) loops part c.args.d (assignment_of c.args.numbers.now) c.loop-x.x (g.M.Machine.state c.args.machine.now) (g.M.Machine.state c.loop-x.machine)
    (g.M.Machine.touches c.args.machine.now) (g.M.Machine.touches c.loop-x.machine) low c.requires.fits turn c.loop-x.invariant.turns c.requires.few in (
      omega (arith, low),
      (
        lives,
        (
          c.requires.within,
          (
            omega (arith, low),
            (
              c.requires.fits,
              (
                c.requires.limits,
                (ap (λ (s : Setting). s.fusion) c.loop-x.invariant.setting ∙ c.requires.fused, (over, (next, (c.loop-x.invariant.ready, few)))),
              ),
            ),
          ),
        ),
      ),
    )

pub run_along-loop-x-preserved : goal.run_along-loop-x-preserved
run_along-loop-x-preserved g t c =
    let loops : List ℕ = c.args.band.now.loops.0.items in
    let part : Part = part_of c.args.block.now in
    let here : get_or c.deref.result.now c.args.d 0 ≡ get_or loops c.args.d 0 = ap (λ xs. get_or xs c.args.d 0) c.deref.ensures.0 in
    let first : get_or c.deref-2.result.now c.args.d 0 ≡ get_or part.from c.args.d 0 = ap (λ xs. get_or xs c.args.d 0) c.deref-2.ensures.0 in
    let low : c.args.d < length loops = omega (arith, c.if-d-len.false, c.len.ensures.value) in
    let whole = loop-part c.args.walk.now.space.now c.args.walk.now.tree.now (program_at c.args.walk.now.ops.now c.args.band.now.at) loops c.args.d (assignment_of c.args.numbers.now) low c.requires.part in
    let index : IsIndex c.args.walk.now.space.now (get_or loops c.args.d 0) = loop-index c.requires.limits c.requires.over.measured whole in
    let at : assignment_of (set c.loop-x.numbers (get_or c.deref.result.now c.args.d 0) (get_or c.deref-2.result.now c.args.d 0 + c.loop-x.x))
    ≡ with_number (assignment_of c.args.numbers.now) (get_or loops c.args.d 0) (get_or part.from c.args.d 0 + c.loop-x.x) =
    turn-numbers c.args.numbers.now c.loop-x.numbers (get_or c.deref.result.now c.args.d 0) (get_or c.deref-2.result.now c.args.d 0 + c.loop-x.x)
    (omega (arith, here, index.small, c.told-numbers)) c.loop-x.invariant.numbers_set
    ∙ ap₂ (with_number (assignment_of c.args.numbers.now)) here (ap (λ f. f + c.loop-x.x) first) in
    record {
      setting = c.run_along.ensures.upheld.setting ∙ c.loop-x.invariant.setting;
      space = c.run_along.ensures.upheld.space ∙ c.loop-x.invariant.space;
      ready = (c.in_ok-run_along.ensures).ready;
      kept = g.met.M.Machine.keeps_on c.args.machine.now c.loop-x.machine c.run_along.new.machine c.loop-x.invariant.kept c.run_along.ensures.upheld.kept;
      counted = (c.in_ok-run_along.ensures).upheld.fault_reported.quiet (search rules) ∙ c.loop-x.invariant.counted;
      turns =
          part_turns-next c.args.walk.now.space.now c.args.walk.now.tree.now (g.M.Machine.setting c.args.machine.now) (g.M.Machine.setting c.loop-x.machine) (program_at c.args.walk.now.ops.now c.args.band.now.at) loops part c.args.d (assignment_of c.args.numbers.now)
          (assignment_of (set c.loop-x.numbers (get_or c.deref.result.now c.args.d 0) (get_or c.deref-2.result.now c.args.d 0 + c.loop-x.x))) c.loop-x.x
          (g.M.Machine.state c.args.machine.now) (g.M.Machine.state c.loop-x.machine) (g.M.Machine.state c.run_along.new.machine)
          (g.M.Machine.touches c.args.machine.now) (g.M.Machine.touches c.loop-x.machine) (g.M.Machine.touches c.run_along.new.machine) c.loop-x.invariant.setting at c.loop-x.invariant.turns
          (c.in_ok-run_along.ensures).run;
      numbers_set = ap (λ ns. set ns (get_or c.deref.result.now c.args.d 0) 0) (c.in_ok-run_along.ensures).numbers
          ∙ set-set c.loop-x.numbers (get_or c.deref.result.now c.args.d 0) (get_or c.deref-2.result.now c.args.d 0 + c.loop-x.x) 0 ∙ c.loop-x.invariant.numbers_set;
    }

pub run_along-returns-clause-run : goal.run_along-returns-clause-run
run_along-returns-clause-run g t c =
    let loops : List ℕ = c.args.band.now.loops.0.items in
    let part : Part = part_of c.args.block.now in
    let last : get_or c.deref-3.result.now c.args.d 0 ≡ get_or part.len c.args.d 0 = ap (λ xs. get_or xs c.args.d 0) c.deref-3.ensures.0 in
    let all : c.loop-x.x ≡ get_or part.len c.args.d 0 = omega (arith, c.loop-x-test.false, c.loop-x.auto.x-end, last) in
    part_turns-all c.args.walk.now.space.now c.args.walk.now.tree.now (g.M.Machine.setting c.args.machine.now) (program_at c.args.walk.now.ops.now c.args.band.now.at) loops part c.args.d (assignment_of c.args.numbers.now) (g.M.Machine.state c.args.machine.now) (g.M.Machine.state c.loop-x.machine) (g.M.Machine.touches c.args.machine.now) (g.M.Machine.touches c.loop-x.machine)
    (omega (arith, c.if-d-len.false, c.len.ensures.value)) c.requires.fits
    (subst (λ n. ArePartTurns c.args.walk.now.space.now c.args.walk.now.tree.now (g.M.Machine.setting c.args.machine.now) (program_at c.args.walk.now.ops.now c.args.band.now.at) loops part c.args.d (assignment_of c.args.numbers.now) n (g.M.Machine.state c.args.machine.now) (g.M.Machine.state c.loop-x.machine)
    (g.M.Machine.touches c.args.machine.now) (g.M.Machine.touches c.loop-x.machine)) all c.loop-x.invariant.turns)

pub run_along-returns-clause-numbers : goal.run_along-returns-clause-numbers
run_along-returns-clause-numbers g t c = set_restored c.args.numbers.now c.loop-x.numbers (get_or c.deref.result.now c.args.d 0) c.loop-x.invariant.numbers_set

pub run_band-find_terms-requires-clause-code : goal.run_band-find_terms-requires-clause-code
run_band-find_terms-requires-clause-code g t c =
    band_code c.args.walk.now.space.now c.args.walk.now.tree.now c.args.walk.now.ops.now c.args.band.now (assignment_of c.args.numbers.now) c.requires.part

pub run_band-run_terms_of_band-requires-clause-few : goal.run_band-run_terms_of_band-requires-clause-few
run_band-run_terms_of_band-requires-clause-few g t c =
    terms_few c.args.walk.now.space.now c.args.walk.now.tree.now c.args.walk.now.fusion.now.0.items c.args.walk.now.ops.now c.args.band.now c.in-Some.terms (g.M.Machine.touches c.args.machine.now)
    c.in-Some.ensures c.requires.few

pub run_band-last_block-last-requires-clause-declared : goal.run_band-last_block-last-requires-clause-declared
run_band-last_block-last-requires-clause-declared g t c =
    subst (λ xs. (k d : ℕ) → k < length xs → get_or xs k d < length c.args.walk.now.space.now.indexes) (sym c.as_slice.ensures.value)
    (each-declared c.args.walk.now.space.now c.args.walk.now.tree.now (program_at c.args.walk.now.ops.now c.args.band.now.at) c.args.band.now.loops.0.items (assignment_of c.args.numbers.now) c.requires.limits c.requires.over.measured c.requires.part)

pub run_band-run_along-requires : goal.run_band-run_along-requires
run_band-run_along-requires g t c = λ κs lives.
    let over : RunsOver c.args.walk.now.space.now c.args.walk.now.tree.now (g.M.Machine.space c.run_terms_of_band.new.machine) (g.M.Machine.setting c.run_terms_of_band.new.machine) =
    over-later c.run_terms_of_band.ensures.upheld.space c.run_terms_of_band.ensures.upheld.setting c.requires.over in
    let is_last : part_of c.last_block-last.result ≡ last_part (extent_at c.args.walk.now.space.now) c.args.band.now.loops.0.items =
    c.last_block-last.ensures ∙ ap (last_part (extent_at c.args.walk.now.space.now)) c.as_slice.ensures.value in
    let fits =
    subst (FitsLoops c.args.walk.now.space.now c.args.band.now.loops.0.items) (sym is_last)
    (last_fits c.args.walk.now.space.now c.args.band.now.loops.0.items (λ d l.
    (each-index c.args.walk.now.space.now c.args.walk.now.tree.now (program_at c.args.walk.now.ops.now c.args.band.now.at) c.args.band.now.loops.0.items (assignment_of c.args.numbers.now) c.requires.limits c.requires.over.measured c.requires.part d l).some)) in
    let many = few-loops c.args.walk.now.space.now c.args.walk.now.tree.now (program_at c.args.walk.now.ops.now c.args.band.now.at) c.args.band.now.loops.0.items (assignment_of c.args.numbers.now) c.requires.part in
    let few =
    last_few c.args.walk.now.space.now c.args.walk.now.tree.now c.args.walk.now.fusion.now.0.items (g.M.Machine.setting c.args.machine.now) c.args.walk.now.ops.now c.args.band.now c.in-Some.terms
    (assignment_of c.args.numbers.now) (part_of c.last_block-last.result) (g.M.Machine.state c.args.machine.now) (g.M.Machine.state c.run_terms_of_band.new.machine)
    (g.M.Machine.touches c.args.machine.now) (g.M.Machine.touches c.run_terms_of_band.new.machine) c.in-Some.ensures is_last (c.in_ok-run_terms_of_band.ensures).run c.requires.few in (
      omega (arith, many),
      (
        lives,
        (
          c.requires.band.within,
          (
            omega arith,
            (
              fits,
              (
                c.requires.limits,
                (
                  ap (λ (s : Setting). s.fusion) c.run_terms_of_band.ensures.upheld.setting ∙ c.requires.fused,
                  (over, (c.requires.part, ((c.in_ok-run_terms_of_band.ensures).ready, few))),
                ),
              ),
            ),
          ),
        ),
      ),
    )

pub run_band-returns-in-Some-clause-run : goal.run_band-returns-in-Some-clause-run
run_band-returns-in-Some-clause-run g t c =
    terms_make_band c.args.walk.now.space.now c.args.walk.now.tree.now c.args.walk.now.fusion.now.0.items (g.M.Machine.space c.args.machine.now) (g.M.Machine.setting c.args.machine.now)
    (g.M.Machine.setting c.run_terms_of_band.new.machine) c.args.walk.now.ops.now c.args.band.now c.in-Some.terms (assignment_of c.args.numbers.now) (part_of c.last_block-last.result)
    (g.M.Machine.state c.args.machine.now) (g.M.Machine.state c.run_terms_of_band.new.machine) (g.M.Machine.state c.run_along.new.machine)
    (g.M.Machine.touches c.args.machine.now) (g.M.Machine.touches c.run_terms_of_band.new.machine) (g.M.Machine.touches c.run_along.new.machine) c.requires.limits c.requires.over c.requires.fused
    c.requires.band c.requires.part c.in-Some.ensures c.run_terms_of_band.ensures.upheld.setting
    (c.last_block-last.ensures ∙ ap (last_part (extent_at c.args.walk.now.space.now)) c.as_slice.ensures.value) (c.in_ok-run_terms_of_band.ensures).run (c.in_ok-run_along.ensures).run

pub run_band-cuts_of-cuts-requires-clause-declared : goal.run_band-cuts_of-cuts-requires-clause-declared
run_band-cuts_of-cuts-requires-clause-declared g t c =
    subst (λ xs. (k d : ℕ) → k < length xs → get_or xs k d < length c.args.walk.now.space.now.indexes) (sym c.as_slice-2.ensures.value)
    (each-declared c.args.walk.now.space.now c.args.walk.now.tree.now (program_at c.args.walk.now.ops.now c.args.band.now.at) c.args.band.now.loops.0.items (assignment_of c.args.numbers.now) c.requires.limits c.requires.over.measured c.requires.part)

pub run_band-loop-parts-init : goal.run_band-loop-parts-init
run_band-loop-parts-init g t c = record {
  setting = refl;
  space = refl;
  ready = c.requires.ready;
  kept = g.met.M.Machine.keeps_own c.args.machine.now;
  counted = refl;
  left =
      let extents = c.cuts_of-cuts.ensures.extents ∙ ap (map (extent_at c.args.walk.now.space.now)) c.as_slice-2.ensures.value in
      let edges = c.cuts_of-cuts.ensures.edges ∙ ap (map (edge_at c.args.walk.now.space.now)) c.as_slice-2.ensures.value in
      blocks-begin c.args.walk.now.space.now c.args.walk.now.tree.now c.args.walk.now.fusion.now.0.items (g.M.Machine.space c.args.machine.now) (g.M.Machine.setting c.args.machine.now)
      c.args.walk.now.ops.now c.args.band.now (assignment_of c.args.numbers.now) (edges_of c.group_sizes-sizes.result.items) c.new-parts.result (g.M.Machine.state c.args.machine.now)
      (g.M.Machine.touches c.args.machine.now) c.requires.limits c.requires.over c.requires.fused c.requires.band c.requires.part
      (sizes-within c.as_slice-3.result.now c.group_sizes-sizes.result.items _ _ c.group_sizes-sizes.ensures.cuts c.group_sizes-sizes.ensures.counts
      (ap extents_of c.as_slice-3.ensures.value ∙ extents) (ap edges_of c.as_slice-3.ensures.value ∙ edges))
      (c.new-parts.ensures ∙ ap₂ (λ ns es. grouped_blocks ns es (edges_of c.group_sizes-sizes.result.items)) extents edges);
  numbers_same = refl;
}

pub run_band-run_block_of_band-requires : goal.run_band-run_block_of_band-requires
run_band-run_block_of_band-requires g t c = λ κs lives.
    let over : RunsOver c.args.walk.now.space.now c.args.walk.now.tree.now (g.M.Machine.space c.loop-parts.machine) (g.M.Machine.setting c.loop-parts.machine) =
    over-later c.loop-parts.invariant.space c.loop-parts.invariant.setting c.requires.over in
    let told : slice_get c.loop-parts.parts 0 ≡ Some (part_of c.next_in.new.block) = sym c.loop-parts-test.ensures.block in
    let part = subst (λ ns. IsPart c.args.walk.now.space.now c.args.walk.now.tree.now (band_program c.args.walk.now.ops.now c.args.band.now) (assignment_of ns)) (sym c.loop-parts.invariant.numbers_same) c.requires.part in
    let few =
    block-few c.args.walk.now.space.now c.args.walk.now.tree.now (g.M.Machine.setting c.args.machine.now) c.args.walk.now.ops.now c.args.band.now (assignment_of c.args.numbers.now) c.loop-parts.parts (part_of c.next_in.new.block)
    (g.M.Machine.state c.args.machine.now) (g.M.Machine.state c.loop-parts.machine) (g.M.Machine.touches c.args.machine.now) (g.M.Machine.touches c.loop-parts.machine) c.requires.limits c.requires.over.measured c.requires.part
    c.loop-parts.invariant.left told c.requires.few in (
      omega arith,
      (
        lives,
        (
          c.requires.band.within,
          (
            first-block (part_of c.next_in.new.block) c.loop-parts.invariant.left told,
            (
              c.requires.limits,
              (ap (λ (s : Setting). s.fusion) c.loop-parts.invariant.setting ∙ c.requires.fused, (over, (part, (c.loop-parts.invariant.ready, few)))),
            ),
          ),
        ),
      ),
    )

pub run_band-loop-parts-preserved : goal.run_band-loop-parts-preserved
run_band-loop-parts-preserved g t c = record {
  setting = c.run_block_of_band.ensures.upheld.setting ∙ c.loop-parts.invariant.setting;
  space = c.run_block_of_band.ensures.upheld.space ∙ c.loop-parts.invariant.space;
  ready = (c.in_ok-run_block_of_band.ensures).ready;
  kept = g.met.M.Machine.keeps_on c.args.machine.now c.loop-parts.machine c.run_block_of_band.new.machine c.loop-parts.invariant.kept c.run_block_of_band.ensures.upheld.kept;
  counted = (c.in_ok-run_block_of_band.ensures).upheld.fault_reported.quiet (search rules) ∙ c.loop-parts.invariant.counted;
  left =
      blocks-next c.args.walk.now.space.now c.args.walk.now.tree.now (g.M.Machine.setting c.args.machine.now) (g.M.Machine.setting c.loop-parts.machine) (program_at c.args.walk.now.ops.now c.args.band.now.at) c.args.band.now.loops.0.items (assignment_of c.args.numbers.now) c.loop-parts.parts c.next_in.new.self (part_of c.next_in.new.block)
      (g.M.Machine.state c.args.machine.now) (g.M.Machine.state c.loop-parts.machine) (g.M.Machine.state c.run_block_of_band.new.machine)
      (g.M.Machine.touches c.args.machine.now) (g.M.Machine.touches c.loop-parts.machine) (g.M.Machine.touches c.run_block_of_band.new.machine) c.loop-parts.invariant.setting
      (sym c.loop-parts-test.ensures.block) c.next_in.ensures.rest c.loop-parts.invariant.left
      (subst (λ ns. IsPartRun c.args.walk.now.space.now c.args.walk.now.tree.now (g.M.Machine.setting c.loop-parts.machine) (program_at c.args.walk.now.ops.now c.args.band.now.at) c.args.band.now.loops.0.items (part_of c.next_in.new.block) (assignment_of ns)
      (g.M.Machine.state c.loop-parts.machine) (g.M.Machine.state c.run_block_of_band.new.machine) (g.M.Machine.touches c.loop-parts.machine) (g.M.Machine.touches c.run_block_of_band.new.machine))
      c.loop-parts.invariant.numbers_same (c.in_ok-run_block_of_band.ensures).run);
  numbers_same = (c.in_ok-run_block_of_band.ensures).numbers ∙ c.loop-parts.invariant.numbers_same;
}

pub run_band-returns-clause-run : goal.run_band-returns-clause-run
run_band-returns-clause-run g t c =
    blocks-all c.args.walk.now.space.now c.args.walk.now.tree.now c.args.walk.now.fusion.now.0.items (g.M.Machine.space c.args.machine.now) (g.M.Machine.setting c.args.machine.now) c.args.walk.now.ops.now c.args.band.now (assignment_of c.args.numbers.now) c.loop-parts.parts
    (g.M.Machine.state c.args.machine.now) (g.M.Machine.state c.loop-parts.machine) (g.M.Machine.touches c.args.machine.now) (g.M.Machine.touches c.loop-parts.machine) c.requires.limits c.requires.over c.requires.fused
    c.requires.band c.requires.part (sym c.loop-parts-test.ensures.block) c.loop-parts.invariant.left

pub run_block_of_band-run_along-requires : goal.run_block_of_band-run_along-requires
run_block_of_band-run_along-requires g t c = λ κs lives.
    let fits =
    block-fits c.args.walk.now.space.now c.args.walk.now.tree.now (program_at c.args.walk.now.ops.now c.args.band.now.at) c.args.band.now.loops.0.items
    (assignment_of c.args.numbers.now) (part_of c.args.block.now) c.requires.limits c.requires.over.measured c.requires.part c.requires.block in
    let few = few-loops c.args.walk.now.space.now c.args.walk.now.tree.now (program_at c.args.walk.now.ops.now c.args.band.now.at) c.args.band.now.loops.0.items (assignment_of c.args.numbers.now) c.requires.part in (
      omega (arith, few),
      (
        lives,
        (
          c.requires.within,
          (
            omega arith,
            (
              fits,
              (
                c.requires.limits,
                (
                  c.requires.fused,
                  (
                    c.requires.over,
                    (
                      c.requires.part,
                      (c.requires.ready, c.requires.few),
                    ),
                  ),
                ),
              ),
            ),
          ),
        ),
      ),
    )

pub run_loop-run_band-requires : goal.run_loop-run_band-requires
run_loop-run_band-requires g t c = λ κs lives.
    let begins : BeginsBand c.args.walk.now.tree.now c.args.walk.now.fusion.now.0.items c.args.walk.now.ops.now c.args.head.at c.args.head.index c.in-Some-find_band.band = c.in-Some-find_band.ensures in
    let no_tail : HasNoTail c.args.walk.now.tree.now c.args.head.index (program_at c.args.walk.now.ops.now (c.args.head.at + 1)) = c.in_default.ensures in
    let part = band-part c.args.walk.now.space.now c.args.walk.now.tree.now c.args.walk.now.fusion.now.0.items c.args.walk.now.ops.now c.args.head.at c.args.head.index c.in-Some-find_band.band (assignment_of c.args.numbers.now) begins c.requires.part in
    let bound = band-bound c.args.walk.now.space.now c.args.walk.now.tree.now c.args.walk.now.fusion.now.0.items c.args.walk.now.ops.now c.args.head.at c.args.head.index c.in-Some-find_band.band begins no_tail in (
      omega (arith, begins.deeper, begins.body.within, c.requires.within),
      (
        lives,
        (
          begins.body,
          (
            c.requires.limits,
            (
              c.requires.fused,
              (
                c.requires.over,
                (
                  part,
                  (c.requires.ready, omega (arith, bound, c.requires.few)),
                ),
              ),
            ),
          ),
        ),
      ),
    )

pub run_loop-returns-in-Some-find_band-clause-run : goal.run_loop-returns-in-Some-find_band-clause-run
run_loop-returns-in-Some-find_band-clause-run g t c =
    band-run c.args.walk.now.space.now c.args.walk.now.tree.now c.args.walk.now.fusion.now.0.items (g.M.Machine.setting c.args.machine.now) c.args.walk.now.ops.now c.args.head.at c.args.head.index c.in-Some-find_band.band (assignment_of c.args.numbers.now)
    (g.M.Machine.state c.args.machine.now) (g.M.Machine.state c.run_band.new.machine) (g.M.Machine.touches c.args.machine.now) (g.M.Machine.touches c.run_band.new.machine)
    c.in-Some-find_band.ensures c.in_default.ensures (c.in_ok-run_band.ensures).run
