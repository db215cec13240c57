use Rattle.std.proofs.Common.{◌≡◌, ◌∙◌, ℕ, ◌+◌, ◌-◌, length, take, drop, arith, refl}
use Rattle.std.proofs.lemmas.List.{length-take-le, length-drop}
use Rattle.tce_tools.specs.Flat.{contents}
use Rattle.tce_sym.proofs.HeldLines.{line_read, words_more}
use Rattle.std.proofs.lemmas.Result.{IfOk-from_err}
use Rattle.std.proofs.lemmas.Bool.{false≢true}
use Rattle.tce_outside.proofs.Causes.{failed_after, no_cause}
use Rattle.tce_sym.proofs.whole.read_whole.Goals as goal

pub loop-done-preserved : goal.loop-done-preserved
loop-done-preserved g c =
    let n : ℕ = c.loop-done.done + c.min-len.result - c.loop-done.done in
    let part : length (take n (drop c.loop-done.done c.loop-done.lines)) ≡ n =
    length-take-le n (drop c.loop-done.done c.loop-done.lines) (omega (arith, length-drop c.loop-done.done c.loop-done.lines, c.loop-done.auto.lines, c.min-len.ensures, c.loop-done-test.true, c.requires.room)) in
    let size : length c.read_words.new.words ≡ c.min-len.result = omega (arith, c.read_words.auto.words, part) in
    record {
      done = omega (arith, c.min-len.ensures, c.loop-done-test.true);
      read = λ x told. words_more (contents x c.args.packed.now) c.loop-done.done c.min-len.result c.loop-done.lines c.read_words.new.words size
          (omega (arith, c.loop-done.auto.lines, c.min-len.ensures, c.loop-done-test.true, c.requires.room))
          (line_read (contents x c.args.packed.now) c.read_words.new.words c.loop-done.done (c.in_ok-read_words.ensures.read x (c.loop-done.invariant.files ∙ told)))
          (c.loop-done.invariant.read x told);
      files = c.in_ok-read_words.ensures.same ∙ c.loop-done.invariant.files;
      later = omega (arith, c.in_ok-read_words.ensures.fault_reported.cause.later, c.loop-done.invariant.later);
      counted = c.in_ok-read_words.ensures.fault_reported.quiet false≢true ∙ c.loop-done.invariant.counted;
    }

pub loop-done-init : goal.loop-done-init
loop-done-init g c = record { done = omega arith; read = λ x told k l. absurd (omega (arith, l)); files = refl; later = omega arith; counted = refl }

pub overflow_sub-grid : goal.overflow_sub-grid
overflow_sub-grid g c = c.loop-done.invariant.done

pub returns-in_err-read_words-clause-read : goal.returns-in_err-read_words-clause-read
returns-in_err-read_words-clause-read g c = IfOk-from_err c.from_residual.result _ c.from_residual.ensures.0

pub returns-in_err-read_words-clause-same : goal.returns-in_err-read_words-clause-same
returns-in_err-read_words-clause-same g c = c.read_words.ensures.same ∙ c.loop-done.invariant.files

pub returns-in_err-read_words-clause-fault_reported : goal.returns-in_err-read_words-clause-fault_reported
returns-in_err-read_words-clause-fault_reported g c = record {
  cause = failed_after (g.D.Disk.faults c.args.disk.now) (g.D.Disk.faults c.loop-done.disk) (g.D.Disk.faults c.read_words.new.disk) c.loop-done.invariant.counted c.in_err-read_words.ensures.fault_reported.cause;
  quiet = λ fine. absurd (fine c.from_residual.ensures.0);
}

pub loop-done-smaller : goal.loop-done-smaller
loop-done-smaller g c = omega (arith, c.min-len.ensures, c.loop-done-test.true)

pub returns-clause-same : goal.returns-clause-same
returns-clause-same g c = c.loop-done.invariant.files

pub returns-clause-fault_reported : goal.returns-clause-fault_reported
returns-clause-fault_reported g c = record {
  cause = no_cause (g.D.Disk.faults c.args.disk.now) (g.D.Disk.faults c.loop-done.disk) c.loop-done.invariant.counted false≢true;
  quiet = λ _. c.loop-done.invariant.counted;
}
