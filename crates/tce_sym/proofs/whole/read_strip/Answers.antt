use Rattle.std.proofs.Common.{◌≡◌, ◌∙◌, ℕ, ◌+◌, ◌*◌, length, replicate, sym, subst, arith}
use Rattle.std.proofs.lemmas.List.{length-take-le, length-replicate}
use Rattle.tce_outside.specs.Files.{file}
use Rattle.tce_outside.proofs.Causes.{failed_after}
use Rattle.tce_tools.specs.Flat.{contents}
use Rattle.tce_sym.specs.Lines.{IsAcross}
use Rattle.tce_sym.proofs.StoredReads.{words_there, strip_there}
use Rattle.tce_sym.proofs.HeldLines.{line_read}
use Rattle.tce_sym.proofs.Across.{strip_more, strip_before, strip_all}
use Rattle.std.proofs.lemmas.Result.{IfOk-from_err}
use Rattle.std.proofs.lemmas.Bool.{false≢true}
use Rattle.tce_sym.proofs.whole.read_strip.Goals as goal

pub loop-outer-preserved : goal.loop-outer-preserved
loop-outer-preserved g c =
    let whole : length (replicate {A = ℕ} 512 0) ≡ 512 = length-replicate {A = ℕ} 512 0 in
    let size = length-take-le c.min-len.result (replicate {A = ℕ} 512 0) (omega (arith, whole, c.min-len.ensures)) in
    record {
      before = λ x told was. strip_before c.args.grid.now (length c.args.lines.now) c.args.from c.loop-outer.outer (contents x c.args.packed.now) c.loop-outer.lines c.put_across.new.lines
          c.requires.room c.put_across.ensures.kept (c.loop-outer.invariant.before x told was);
      read = λ x told. strip_more c.args.grid.now (length c.args.lines.now) c.args.from c.min-len.result c.loop-outer.outer (contents x c.args.packed.now) c.read_words.new.words c.loop-outer.lines c.put_across.new.lines
          c.requires.room (omega (arith, c.loop-outer-test.true, c.loop-outer.auto.outer-end)) (omega (arith, size, c.read_words.auto.words, c.loop-outer.auto.words)) c.put_across.ensures.put c.put_across.ensures.kept
          (line_read (contents x c.args.packed.now) c.read_words.new.words (c.loop-outer.outer * c.args.grid.now.pairs + c.args.from) (c.in_ok-read_words.ensures.read x (c.loop-outer.invariant.files ∙ told)))
          (c.loop-outer.invariant.read x told);
      files = c.in_ok-read_words.ensures.same ∙ c.loop-outer.invariant.files;
      later = omega (arith, c.in_ok-read_words.ensures.fault_reported.cause.later, c.loop-outer.invariant.later);
      counted = c.in_ok-read_words.ensures.fault_reported.quiet false≢true ∙ c.loop-outer.invariant.counted;
    }

pub returns-clause-read : goal.returns-clause-read
returns-clause-read g c x told was =
    strip_all c.args.grid.now c.args.from c.min-len.result (contents x c.args.packed.now) c.loop-outer.lines (c.loop-outer.invariant.before x told was)
    (λ other k h l. c.loop-outer.invariant.read x told other k (omega (arith, h, c.loop-outer-test.false, c.loop-outer.auto.outer-end)) l)

pub overflow_mul-outer : goal.overflow_mul-outer
overflow_mul-outer g c =
    omega (arith, strip_there c.args.grid.now (length c.args.lines.now) c.args.from c.min-len.result c.loop-outer.outer c.requires.room (omega (arith, c.loop-outer-test.true, c.loop-outer.auto.outer-end)) (omega (arith, c.min-len.ensures, c.requires.from)), c.requires.count)

pub overflow_add-outer : goal.overflow_add-outer
overflow_add-outer g c =
    omega (arith, strip_there c.args.grid.now (length c.args.lines.now) c.args.from c.min-len.result c.loop-outer.outer c.requires.room (omega (arith, c.loop-outer-test.true, c.loop-outer.auto.outer-end)) (omega (arith, c.min-len.ensures, c.requires.from)), c.requires.count)

pub overflow_mul-outer-in-loop-outer : goal.overflow_mul-outer-in-loop-outer
overflow_mul-outer-in-loop-outer g c =
    omega (arith, strip_there c.args.grid.now (length c.args.lines.now) c.args.from c.min-len.result c.loop-outer.outer c.requires.room (omega (arith, c.loop-outer-test.true, c.loop-outer.auto.outer-end)) (omega (arith, c.min-len.ensures, c.requires.from)), c.requires.count)

pub overflow_add-outer-in-loop-outer : goal.overflow_add-outer-in-loop-outer
overflow_add-outer-in-loop-outer g c =
    omega (arith, strip_there c.args.grid.now (length c.args.lines.now) c.args.from c.min-len.result c.loop-outer.outer c.requires.room (omega (arith, c.loop-outer-test.true, c.loop-outer.auto.outer-end)) (omega (arith, c.min-len.ensures, c.requires.from)), c.requires.count)

pub read_words-requires-clause-file : goal.read_words-requires-clause-file
read_words-requires-clause-file g c = λ x told.
    let size = length-take-le c.min-len.result (replicate {A = ℕ} 512 0) (omega (arith, length-replicate {A = ℕ} 512 0, c.min-len.ensures)) in
    let fits = strip_there c.args.grid.now (length c.args.lines.now) c.args.from c.min-len.result c.loop-outer.outer c.requires.room (omega (arith, c.loop-outer-test.true, c.loop-outer.auto.outer-end)) (omega (arith, c.min-len.ensures, c.requires.from)) in
    words_there (c.loop-outer.outer * c.args.grid.now.pairs + c.args.from) (length c.loop-outer.words) c.args.grid.now.count (file x c.args.packed.now) (omega (arith, size, fits, c.loop-outer.auto.words)) (c.requires.file x (sym c.loop-outer.invariant.files ∙ told))

pub put_across-requires-clause-room : goal.put_across-requires-clause-room
put_across-requires-clause-room g c = subst (IsAcross c.args.grid.now) (sym c.loop-outer.auto.lines) c.requires.room

pub put_across-requires-clause-outer : goal.put_across-requires-clause-outer
put_across-requires-clause-outer g c = omega (arith, c.loop-outer-test.true, c.loop-outer.auto.outer-end)

pub put_across-requires-clause-pairs : goal.put_across-requires-clause-pairs
put_across-requires-clause-pairs g c =
    let size = length-take-le c.min-len.result (replicate {A = ℕ} 512 0) (omega (arith, length-replicate {A = ℕ} 512 0, c.min-len.ensures)) in
    omega (arith, size, c.read_words.auto.words, c.loop-outer.auto.words, c.min-len.ensures, c.requires.from)

pub returns-in_err-read_words-clause-same : goal.returns-in_err-read_words-clause-same
returns-in_err-read_words-clause-same g c = c.read_words.ensures.same ∙ c.loop-outer.invariant.files

pub returns-clause-some : goal.returns-clause-some
returns-clause-some g c = (omega (arith, c.min-len.ensures, c.requires.from), omega (arith, c.min-len.ensures, c.requires.from))

pub returns-clause-same : goal.returns-clause-same
returns-clause-same g c = c.loop-outer.invariant.files

pub returns-clause-fault_reported : goal.returns-clause-fault_reported
returns-clause-fault_reported g c = record {
  cause = record { later = c.loop-outer.invariant.later; rose = λ e. absurd (false≢true e) };
  quiet = λ _. c.loop-outer.invariant.counted;
}

pub overflow_sub-grid : goal.overflow_sub-grid
overflow_sub-grid g c = omega (arith, c.requires.from)

pub returns-in_err-read_words-clause-some : goal.returns-in_err-read_words-clause-some
returns-in_err-read_words-clause-some g c = IfOk-from_err c.from_residual.result _ c.from_residual.ensures.0

pub returns-in_err-read_words-clause-read : goal.returns-in_err-read_words-clause-read
returns-in_err-read_words-clause-read g c = IfOk-from_err c.from_residual.result _ c.from_residual.ensures.0

pub returns-in_err-read_words-clause-fault_reported : goal.returns-in_err-read_words-clause-fault_reported
returns-in_err-read_words-clause-fault_reported g c = record {
  cause = failed_after (g.D.Disk.faults c.args.disk.now) (g.D.Disk.faults c.loop-outer.disk) (g.D.Disk.faults c.read_words.new.disk) c.loop-outer.invariant.counted c.in_err-read_words.ensures.fault_reported.cause;
  quiet = λ fine. absurd (fine c.from_residual.ensures.0);
}
