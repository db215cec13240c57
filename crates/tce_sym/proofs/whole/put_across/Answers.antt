use Rattle.std.proofs.Common.{◌∙◌, ◌+◌, length, refl, arith}
use Rattle.tce_sym.proofs.Across.{word_within, put_more, put_kept}
use Rattle.tce_sym.proofs.whole.put_across.Goals as goal

pub loop-k-init : goal.loop-k-init
loop-k-init c = record { put = λ j l. absurd (omega arith); kept = λ other pair l far. refl }

pub overflow_mul-lines : goal.overflow_mul-lines
overflow_mul-lines c =
    omega (arith, word_within c.args.grid.now (length c.args.lines.now) (c.args.from + c.loop-k.k) c.args.outer c.requires.room (omega (arith, c.loop-k-test.true, c.requires.pairs, c.loop-k.auto.k-end)) c.requires.outer)

pub overflow_add-lines-in-loop-k : goal.overflow_add-lines-in-loop-k
overflow_add-lines-in-loop-k c =
    omega (arith, word_within c.args.grid.now (length c.args.lines.now) (c.args.from + c.loop-k.k) c.args.outer c.requires.room (omega (arith, c.loop-k-test.true, c.requires.pairs, c.loop-k.auto.k-end)) c.requires.outer)

pub bounds-lines-from : goal.bounds-lines-from
bounds-lines-from c =
    omega (arith, c.loop-k.auto.lines, word_within c.args.grid.now (length c.args.lines.now) (c.args.from + c.loop-k.k) c.args.outer c.requires.room (omega (arith, c.loop-k-test.true, c.requires.pairs, c.loop-k.auto.k-end)) c.requires.outer)

pub loop-k-preserved : goal.loop-k-preserved
loop-k-preserved c = record {
  put = put_more c.args.grid.now (length c.args.lines.now) c.args.from c.args.outer c.loop-k.k c.args.words.now c.loop-k.lines c.requires.room c.requires.outer
      (omega (arith, c.loop-k-test.true, c.requires.pairs, c.loop-k.auto.k-end)) c.loop-k.auto.lines c.loop-k.invariant.put;
  kept = λ other pair l far. put_kept c.args.grid.now (length c.args.lines.now) c.args.from c.args.outer c.loop-k.k _ c.loop-k.lines c.requires.room c.requires.outer other pair l far
      ∙ c.loop-k.invariant.kept other pair l far;
}

pub returns-clause-put : goal.returns-clause-put
returns-clause-put c = λ k l. c.loop-k.invariant.put k (omega (arith, l, c.loop-k-test.false, c.loop-k.auto.k-end))

pub returns-clause-kept : goal.returns-clause-kept
returns-clause-kept c = c.loop-k.invariant.kept
