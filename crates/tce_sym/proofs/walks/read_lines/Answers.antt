use Rattle.std.proofs.Common.{◌≡◌, ◌∙◌, ◌<◌, ℕ, refl, sym, ap, subst, arith}
use Rattle.std.proofs.lemmas.List.{length-set}
use Rattle.tce_tools.specs.Flat.{contents}
use Rattle.tce_sym.specs.Storage.{stored_word}
use Rattle.tce_sym.specs.Lines.{IsGrid, walk_place}
use Rattle.tce_sym.proofs.Walked.{more}
use Rattle.tce_sym.proofs.StoredReads.{place_small}
use Rattle.std.proofs.lemmas.Result.{IfOk-from_err}
use Rattle.std.proofs.lemmas.Bool.{false≢true}
use Rattle.tce_outside.proofs.Causes.{failed_after}
use Rattle.tce_sym.proofs.walks.read_lines.Goals as goal

pub loop-done-init : goal.loop-done-init
loop-done-init g c = record {
  done = c.held-done.ensures.within.1;
  read = λ x told. c.held-done.ensures.held (contents x c.args.packed.now) (c.requires.lines x told) (λ k l. absurd (omega arith));
  lines = c.requires.lines;
  files = refl;
  later = omega arith;
  counted = refl;
}

pub place_at-place-requires-clause-small : goal.place_at-place-requires-clause-small
place_at-place-requires-clause-small g c = place_small _ c.args.grid.now.count (c.requires.places c.loop-done.done (omega (arith, c.loop-done-test.true, c.loop-done.auto.words))) c.requires.count

pub place_at-place-requires-clause-few : goal.place_at-place-requires-clause-few
place_at-place-requires-clause-few g c = omega (arith, c.loop-done-test.true, c.loop-done.auto.words, c.requires.few)

pub wanted_at-wanted-requires-clause-place : goal.wanted_at-wanted-requires-clause-place
wanted_at-wanted-requires-clause-place g c =
    subst (λ (n : ℕ). n < c.args.grid.now.count) (sym c.place_at-place.ensures) (c.requires.places c.loop-done.done (omega (arith, c.loop-done-test.true, c.loop-done.auto.words)))

pub read_word-requires-clause-grid : goal.read_word-requires-clause-grid
read_word-requires-clause-grid g c = subst (IsGrid c.args.grid.now) (sym c.loop-done.auto.lines) c.requires.grid

pub read_word-requires-clause-file : goal.read_word-requires-clause-file
read_word-requires-clause-file g c = λ x told. c.requires.file x (sym c.loop-done.invariant.files ∙ told)

pub read_word-requires-clause-lines : goal.read_word-requires-clause-lines
read_word-requires-clause-lines g c = λ x told. c.loop-done.invariant.lines x (sym c.loop-done.invariant.files ∙ told)

pub held-done-requires-in-loop-done-clause-grid : goal.held-done-requires-in-loop-done-clause-grid
held-done-requires-in-loop-done-clause-grid g c = subst (IsGrid c.args.grid.now) (sym (c.read_word.auto.lines ∙ c.loop-done.auto.lines)) c.requires.grid

pub held-done-requires-in-loop-done-clause-places : goal.held-done-requires-in-loop-done-clause-places
held-done-requires-in-loop-done-clause-places g c = λ k l. c.requires.places k (omega (arith, l, length-set c.loop-done.words c.loop-done.done c.in_ok-words.field-0, c.loop-done.auto.words))

pub loop-done-preserved : goal.loop-done-preserved
loop-done-preserved g c = record {
  done = c.held-done-in-loop-done.ensures.within.1;
  read = λ x told.
      let lines = c.in_ok-words.ensures.lines x (c.loop-done.invariant.files ∙ told) in
      let place : c.wanted_at-wanted.result.place ≡ walk_place c.args.walk.now c.loop-done.done = c.wanted_at-wanted.ensures.place ∙ c.place_at-place.ensures in
      c.held-done-in-loop-done.ensures.held (contents x c.args.packed.now) lines
      (more (λ j. stored_word (contents x c.args.packed.now) (walk_place c.args.walk.now j)) c.loop-done.words c.loop-done.done _ c.loop-done-test.true
      (c.in_ok-words.ensures.word x (c.loop-done.invariant.files ∙ told) ∙ ap (stored_word (contents x c.args.packed.now)) place) (c.loop-done.invariant.read x told));
  lines = λ x told. c.in_ok-words.ensures.lines x (c.loop-done.invariant.files ∙ told);
  files = c.in_ok-words.ensures.same ∙ c.loop-done.invariant.files;
  later = omega (arith, c.in_ok-words.ensures.fault_reported.cause.later, c.loop-done.invariant.later);
  counted = c.in_ok-words.ensures.fault_reported.quiet false≢true ∙ c.loop-done.invariant.counted;
}

pub returns-in_err-words-clause-same : goal.returns-in_err-words-clause-same
returns-in_err-words-clause-same g c = c.read_word.ensures.same ∙ c.loop-done.invariant.files

pub returns-clause-read : goal.returns-clause-read
returns-clause-read g c = λ x told k l. c.loop-done.invariant.read x told k (omega (arith, l, c.loop-done-test.false))

pub returns-clause-lines : goal.returns-clause-lines
returns-clause-lines g c = c.loop-done.invariant.lines

pub returns-clause-same : goal.returns-clause-same
returns-clause-same g c = c.loop-done.invariant.files

pub returns-clause-fault_reported : goal.returns-clause-fault_reported
returns-clause-fault_reported g c = record {
  cause = record { later = c.loop-done.invariant.later; rose = λ e. absurd (false≢true e) };
  quiet = λ _. c.loop-done.invariant.counted;
}

pub held-done-requires-clause-grid : goal.held-done-requires-clause-grid
held-done-requires-clause-grid g c = c.requires.grid

pub held-done-requires-clause-count : goal.held-done-requires-clause-count
held-done-requires-clause-count g c = c.requires.count

pub held-done-requires-clause-places : goal.held-done-requires-clause-places
held-done-requires-clause-places g c = c.requires.places

pub held-done-requires-clause-few : goal.held-done-requires-clause-few
held-done-requires-clause-few g c = c.requires.few

pub held-done-requires-clause-from : goal.held-done-requires-clause-from
held-done-requires-clause-from g c = omega arith

pub wanted_at-wanted-requires-clause-line : goal.wanted_at-wanted-requires-clause-line
wanted_at-wanted-requires-clause-line g c = c.requires.grid.short

pub wanted_at-wanted-requires-clause-count : goal.wanted_at-wanted-requires-clause-count
wanted_at-wanted-requires-clause-count g c = c.requires.count

pub read_word-requires-clause-wanted : goal.read_word-requires-clause-wanted
read_word-requires-clause-wanted g c = c.wanted_at-wanted.ensures.wanted

pub returns-in_err-words-clause-read : goal.returns-in_err-words-clause-read
returns-in_err-words-clause-read g c = IfOk-from_err c.from_residual.result _ c.from_residual.ensures.0

pub returns-in_err-words-clause-lines : goal.returns-in_err-words-clause-lines
returns-in_err-words-clause-lines g c = IfOk-from_err c.from_residual.result _ c.from_residual.ensures.0

pub returns-in_err-words-clause-fault_reported : goal.returns-in_err-words-clause-fault_reported
returns-in_err-words-clause-fault_reported g c = record {
  cause = failed_after (g.D.Disk.faults c.args.disk.now) (g.D.Disk.faults c.loop-done.disk) (g.D.Disk.faults c.read_word.new.disk) c.loop-done.invariant.counted c.in_err-words.ensures.fault_reported.cause;
  quiet = λ fine. absurd (fine c.from_residual.ensures.0);
}

pub bounds-words-done : goal.bounds-words-done
bounds-words-done g c = omega (arith, c.loop-done-test.true)

pub overflow_add-done : goal.overflow_add-done
overflow_add-done g c = omega (arith, c.loop-done-test.true, c.loop-done.auto.words, c.requires.few)

pub held-done-requires-in-loop-done-clause-count : goal.held-done-requires-in-loop-done-clause-count
held-done-requires-in-loop-done-clause-count g c = c.requires.count

pub held-done-requires-in-loop-done-clause-few : goal.held-done-requires-in-loop-done-clause-few
held-done-requires-in-loop-done-clause-few g c = omega (arith, length-set c.loop-done.words c.loop-done.done c.in_ok-words.field-0, c.loop-done.auto.words, c.requires.few)

pub held-done-requires-in-loop-done-clause-from : goal.held-done-requires-in-loop-done-clause-from
held-done-requires-in-loop-done-clause-from g c = omega (arith, length-set c.loop-done.words c.loop-done.done c.in_ok-words.field-0, c.loop-done-test.true)
