use Rattle.std.proofs.Common.{◌≡◌, ◌-◌, drop, slice_index, sym, subst, arith}
use mathlib.Core.Path.{fun_ext}
use Rattle.tce_exec.proofs.FirstTurn.{AreFirst, first_number, loop_in_front}
use Rattle.tce_exec.proofs.position.Position.begin.Goals as goal

pub set-requires-clause-known : goal.set-requires-clause-known
set-requires-clause-known c = c.requires.known (c.loop-d.d - 1) 0 (omega (arith, c.loop-d-test.true, c.loop-d.auto.d))

pub loop-d-preserved : goal.loop-d-preserved
loop-d-preserved c = record {
  first = subst (AreFirst c.args.self.now.numbers (drop (c.loop-d.d - 1) c.args.loops.now) (drop (c.loop-d.d - 1) c.args.from.now)) (sym c.set.ensures.numbers)
      (loop_in_front c.args.self.now.numbers c.args.loops.now c.args.from.now c.loop-d.self.numbers c.loop-d.d c.loop-d-test.true c.loop-d.auto.d c.requires.each
      (c.requires.known (c.loop-d.d - 1) 0 (omega (arith, c.loop-d-test.true, c.loop-d.auto.d))) c.loop-d.invariant.first);
  position = c.set.ensures.position;
}

pub returns-clause-numbers : goal.returns-clause-numbers
returns-clause-numbers c =
    let none : c.loop-d.d ≡ 0 = omega (arith, c.loop-d-test.false) in
    subst (λ d. slice_index c.loop-d.self.numbers ≡ first_number c.args.self.now.numbers (drop d c.args.loops.now) (drop d c.args.from.now)) none (fun_ext c.loop-d.invariant.first.are)

pub returns-clause-position : goal.returns-clause-position
returns-clause-position c = c.loop-d.invariant.position
