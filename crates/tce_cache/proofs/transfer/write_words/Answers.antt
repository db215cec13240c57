use Rattle.std.proofs.Common.{arith, refl, sym, ◌≡◌, ◌∙◌, ◌*◌, subst}
use Rattle.std.proofs.lemmas.List.{length-take-le}
use Rattle.std.proofs.lemmas.Result.{IfOk-from_err}
use Rattle.std.proofs.lemmas.Bool.{false≢true}
use Rattle.tce_outside.proofs.Causes.{failed_after, no_cause}
use Rattle.tce_cache.specs.Transfer.{IsWritten}
use Rattle.tce_cache.proofs.Transfers.{told_before, told_once, written_joined, nothing_written}
use Rattle.tce_cache.proofs.transfer.write_words.Goals as goal

pub loop-done-init : goal.loop-done-init
loop-done-init g c = record {
  done = omega arith;
  others = refl;
  begins = refl;
  counted = refl;
  written = λ x told y now. told_once (g.D.Disk.files c.args.disk.now) x y told now (λ z. IsWritten c.args.array.now x z c.args.span.from c.args.words.now c.args.span.at 0) (nothing_written c.args.array.now x c.args.span.from c.args.span.at c.args.words.now (c.requires.file x told));
}

pub overflow_sub-span : goal.overflow_sub-span
overflow_sub-span g c = c.loop-done.invariant.done

pub overflow_add-next : goal.overflow_add-next
overflow_add-next g c = omega (arith, c.requires.limits.room, c.requires.inside, c.loop-done.invariant.done)

pub overflow_add-next-in-loop-done : goal.overflow_add-next-in-loop-done
overflow_add-next-in-loop-done g c = omega (arith, c.requires.room, c.requires.bounded, c.loop-done.invariant.done)

pub overflow_mul-piece : goal.overflow_mul-piece
overflow_mul-piece g c = omega (arith, c.min-count.ensures, c.requires.limits.room, c.requires.inside)

pub slice_bounds-piece-end : goal.slice_bounds-piece-end
slice_bounds-piece-end g c = omega (arith, c.min-count.ensures, c.loop-done.auto.buffer)

pub slice_bounds-piece-end-in-loop-done : goal.slice_bounds-piece-end-in-loop-done
slice_bounds-piece-end-in-loop-done g c = sym (length-take-le (8 * c.min-count.result) c.loop-done.buffer (omega (arith, c.min-count.ensures, c.loop-done.auto.buffer)))

pub write_piece-requires-clause-whole : goal.write_piece-requires-clause-whole
write_piece-requires-clause-whole g c = length-take-le (8 * c.min-count.result) c.loop-done.buffer (omega (arith, c.min-count.ensures, c.loop-done.auto.buffer))

pub write_piece-requires-clause-one : goal.write_piece-requires-clause-one
write_piece-requires-clause-one g c = c.requires.one

pub write_piece-requires-clause-limits : goal.write_piece-requires-clause-limits
write_piece-requires-clause-limits g c = c.requires.limits

pub write_piece-requires-clause-inside : goal.write_piece-requires-clause-inside
write_piece-requires-clause-inside g c = omega (arith, c.requires.inside, c.loop-done.invariant.done, c.min-count.ensures)

pub write_piece-requires-clause-room : goal.write_piece-requires-clause-room
write_piece-requires-clause-room g c = omega (arith, c.requires.room, c.loop-done.invariant.done, c.min-count.ensures)

pub write_piece-requires-clause-bounded : goal.write_piece-requires-clause-bounded
write_piece-requires-clause-bounded g c = c.requires.bounded

pub write_piece-requires-clause-file : goal.write_piece-requires-clause-file
write_piece-requires-clause-file g c x told =
    let first = told_before c.args.array.now.file.bytes _ _ x c.loop-done.invariant.others told in
    (c.loop-done.invariant.written first.0 first.1 x told).has_file

pub overflow_add-done : goal.overflow_add-done
overflow_add-done g c = omega (arith, c.requires.limits.room, c.requires.inside, c.loop-done.invariant.done, c.min-count.ensures)

pub loop-done-smaller : goal.loop-done-smaller
loop-done-smaller g c = omega (arith, c.requires.some, c.loop-done-test.true, c.min-count.ensures)

pub loop-done-preserved : goal.loop-done-preserved
loop-done-preserved g c =
    let piece = c.in_ok-write_piece.ensures in
    let before = c.loop-done.invariant in
    record {
      done = omega (arith, c.min-count.ensures);
      others = piece.others ∙ before.others;
      begins = piece.begins ∙ before.begins;
      counted = piece.fault_reported.quiet false≢true ∙ before.counted;
      written = λ x told y now.
          let middle = told_before c.args.array.now.file.bytes _ _ y piece.others now in
          written_joined c.args.array.now x middle.0 y c.args.span.from c.args.span.at c.loop-done.done c.min-count.result c.args.words.now
          (before.written x told middle.0 middle.1) (piece.written middle.0 middle.1 y now);
    }

pub returns-in_err-write_piece-clause-written : goal.returns-in_err-write_piece-clause-written
returns-in_err-write_piece-clause-written g c = IfOk-from_err c.from_residual.result _ c.from_residual.ensures.0

pub returns-in_err-write_piece-clause-others : goal.returns-in_err-write_piece-clause-others
returns-in_err-write_piece-clause-others g c = c.write_piece.ensures.others ∙ c.loop-done.invariant.others

pub returns-in_err-write_piece-clause-begins : goal.returns-in_err-write_piece-clause-begins
returns-in_err-write_piece-clause-begins g c = c.write_piece.ensures.begins ∙ c.loop-done.invariant.begins

pub returns-in_err-write_piece-clause-fault_reported : goal.returns-in_err-write_piece-clause-fault_reported
returns-in_err-write_piece-clause-fault_reported g c = record {
  cause = failed_after (g.D.Disk.faults c.args.disk.now) (g.D.Disk.faults c.loop-done.disk) (g.D.Disk.faults c.write_piece.new.disk) c.loop-done.invariant.counted c.in_err-write_piece.ensures.fault_reported.cause;
  quiet = λ none. absurd (none c.from_residual.ensures.0);
}

pub returns-clause-written : goal.returns-clause-written
returns-clause-written g c x told y now =
    let all : c.loop-done.done ≡ c.args.span.n = omega (arith, c.loop-done.invariant.done, c.loop-done-test.false) in
    subst (IsWritten c.args.array.now x y c.args.span.from c.args.words.now c.args.span.at) all (c.loop-done.invariant.written x told y now)

pub returns-clause-others : goal.returns-clause-others
returns-clause-others g c = c.loop-done.invariant.others

pub returns-clause-begins : goal.returns-clause-begins
returns-clause-begins g c = c.loop-done.invariant.begins

pub returns-clause-fault_reported : goal.returns-clause-fault_reported
returns-clause-fault_reported g c = record {
  cause = no_cause (g.D.Disk.faults c.args.disk.now) (g.D.Disk.faults c.loop-done.disk) c.loop-done.invariant.counted false≢true;
  quiet = λ _. c.loop-done.invariant.counted;
}
