use Rattle.std.proofs.Common.{◌∙◌, ◌+◌, ◌-◌, ℕ, drop, sym, subst, arith}
use Rattle.std.proofs.lemmas.List.{length-take-le, length-drop}
use Rattle.tce_sym.specs.Lines.{IsGrid}
use Rattle.tce_sym.proofs.HeldLines.{part_read}
use Rattle.tce_sym.proofs.StoredReads.{front_read}
use Rattle.tce_sym.proofs.lines.put_lines.Goals as goal

pub put_line-requires-clause-start : goal.put_line-requires-clause-start
put_line-requires-clause-start c = omega (arith, c.requires.start, c.requires.count)

pub put_line-requires-clause-whole : goal.put_line-requires-clause-whole
put_line-requires-clause-whole c = λ k l inside.
    let whole = c.requires.whole k l inside in
    let size = length-take-le c.min-first.result c.args.words.now (omega (arith, c.min-first.ensures)) in
    omega (arith, whole, size, c.min-first.ensures)

pub loop-step-init : goal.loop-step-init
loop-step-init c = record {
  kept = λ bytes before read. c.put_line.ensures bytes before (front_read bytes c.args.words.now c.args.start c.min-first.result (omega (arith, c.min-first.ensures)) read);
  slot = c.requires.slot;
  from = omega arith;
  step = omega (arith, c.min-step.ensures);
}

pub put_line-requires-then-grid-words-clause-grid : goal.put_line-requires-then-grid-words-clause-grid
put_line-requires-then-grid-words-clause-grid c = subst (IsGrid c.args.grid.now) (sym (c.loop-step.auto.lines ∙ c.put_line.auto.lines)) c.requires.grid

pub put_line-requires-then-grid-words-clause-slot : goal.put_line-requires-then-grid-words-clause-slot
put_line-requires-then-grid-words-clause-slot c = omega (arith, c.if-wanted-grid.true, c.loop-step.invariant.slot)

pub put_line-requires-then-grid-words-clause-start : goal.put_line-requires-then-grid-words-clause-start
put_line-requires-then-grid-words-clause-start c = omega (arith, c.requires.start, c.requires.count, c.loop-step.invariant.from, c.loop-step-test.true, c.max-from.ensures, c.requires.grid.some)

pub put_line-requires-then-grid-words-clause-short : goal.put_line-requires-then-grid-words-clause-short
put_line-requires-then-grid-words-clause-short c =
    let from : ℕ = c.loop-step.from + c.max-from.result in
    let size = length-take-le (from + c.args.grid.now.line - from) (drop from c.args.words.now) (omega (arith, length-drop from c.args.words.now, c.if-grid-words.true)) in
    omega (arith, size)

pub put_line-requires-then-grid-words-clause-whole : goal.put_line-requires-then-grid-words-clause-whole
put_line-requires-then-grid-words-clause-whole c = λ k l inside.
    let from : ℕ = c.loop-step.from + c.max-from.result in
    let size = length-take-le (from + c.args.grid.now.line - from) (drop from c.args.words.now) (omega (arith, length-drop from c.args.words.now, c.if-grid-words.true)) in
    omega (arith, size, l)

pub loop-step-preserved : goal.loop-step-preserved
loop-step-preserved c = record {
  kept = c.loop-step.invariant.kept;
  slot = omega (arith, c.if-wanted-grid.true, c.loop-step.invariant.slot);
  from = omega (arith, c.loop-step-test.true, c.max-from.ensures, c.loop-step.invariant.from, c.requires.grid.some);
  step = omega (arith, c.loop-step.invariant.step, c.min.ensures, c.max-from.ensures);
}

pub loop-step-preserved-then-grid-words : goal.loop-step-preserved-then-grid-words
loop-step-preserved-then-grid-words c =
    let from : ℕ = c.loop-step.from + c.max-from.result in
    record {
      kept = λ bytes before read. c.put_line-then-grid-words.ensures bytes (c.loop-step.invariant.kept bytes before read)
          (part_read bytes c.args.words.now c.args.start from (from + c.args.grid.now.line - from) (omega (arith, c.if-grid-words.true)) read);
      slot = omega (arith, c.if-wanted-grid.true, c.loop-step.invariant.slot);
      from = omega (arith, c.loop-step-test.true, c.max-from.ensures, c.loop-step.invariant.from, c.requires.grid.some);
      step = omega (arith, c.loop-step.invariant.step, c.min.ensures, c.max-from.ensures);
    }

pub slice_bounds-put_line-end : goal.slice_bounds-put_line-end
slice_bounds-put_line-end c = sym (length-take-le c.min-first.result c.args.words.now (omega (arith, c.min-first.ensures)))

pub put_line-requires-clause-grid : goal.put_line-requires-clause-grid
put_line-requires-clause-grid c = c.requires.grid

pub put_line-requires-clause-slot : goal.put_line-requires-clause-slot
put_line-requires-clause-slot c = c.requires.slot

pub put_line-requires-clause-short : goal.put_line-requires-clause-short
put_line-requires-clause-short c =
    let size = length-take-le c.min-first.result c.args.words.now (omega (arith, c.min-first.ensures)) in
    omega (arith, size, c.min-first.ensures)

pub overflow_sub-grid : goal.overflow_sub-grid
overflow_sub-grid c = c.loop-step.invariant.slot

pub returns-else-wanted-grid : goal.returns-else-wanted-grid
returns-else-wanted-grid c = c.loop-step.invariant.kept

pub returns-after-loop-step : goal.returns-after-loop-step
returns-after-loop-step c = c.loop-step.invariant.kept
