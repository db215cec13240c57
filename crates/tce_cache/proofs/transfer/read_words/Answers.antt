use Rattle.std.proofs.Common.{◌*◌, ◌/◌, length, refl, sym, ap, arith, ◌∙◌}
use Rattle.std.proofs.lemmas.List.{length-take-le}
use Rattle.std.proofs.lemmas.Result.{IfOk-from_err}
use Rattle.std.proofs.lemmas.Bool.{false≢true}
use Rattle.tce_outside.proofs.Causes.{failed_after, no_cause}
use Rattle.tce_cache.proofs.Transfers.{words_joined, others_joined, few_bytes, piece_end}
use Rattle.tce_cache.proofs.transfer.read_words.Goals as goal

pub loop-done-init : goal.loop-done-init
loop-done-init g c = record {
  done = omega arith;
  len = refl;
  files = refl;
  counted = refl;
  read = λ x told k l. absurd (omega (arith, l));
  others = λ p out. refl;
}

pub overflow_sub-span : goal.overflow_sub-span
overflow_sub-span g c = c.loop-done.invariant.done

pub overflow_add-next : goal.overflow_add-next
overflow_add-next g c = omega (arith, c.requires.limits.room, c.requires.inside, c.loop-done.invariant.done)

pub overflow_add-next-in-loop-done : goal.overflow_add-next-in-loop-done
overflow_add-next-in-loop-done g c = omega (arith, c.requires.room, c.requires.bounded, c.loop-done.invariant.done)

pub overflow_mul-piece : goal.overflow_mul-piece
overflow_mul-piece g c =
    let few = few_bytes c.args.array.now.form c.width-width.result c.min-count.result c.width-width.ensures in
    omega (arith, few, c.min-count.ensures, c.requires.limits.room, c.requires.inside)

pub slice_bounds-piece-end : goal.slice_bounds-piece-end
slice_bounds-piece-end g c =
    piece_end c.args.array.now.form c.width-width.result c.min-count.result (length c.args.buffer.now / 8) (length c.loop-done.buffer) c.width-width.ensures (omega (arith, c.min-count.ensures, c.min-most.ensures)) (ap (λ n. n / 8) (sym c.loop-done.auto.buffer))

pub slice_bounds-piece-end-in-loop-done : goal.slice_bounds-piece-end-in-loop-done
slice_bounds-piece-end-in-loop-done g c = sym (length-take-le (c.width-width.result * c.min-count.result) c.loop-done.buffer (piece_end c.args.array.now.form c.width-width.result c.min-count.result (length c.args.buffer.now / 8) (length c.loop-done.buffer) c.width-width.ensures (omega (arith, c.min-count.ensures, c.min-most.ensures)) (ap (λ n. n / 8) (sym c.loop-done.auto.buffer))))

pub read_piece-requires-clause-whole : goal.read_piece-requires-clause-whole
read_piece-requires-clause-whole g c =
    length-take-le (c.width-width.result * c.min-count.result) c.loop-done.buffer (piece_end c.args.array.now.form c.width-width.result c.min-count.result (length c.args.buffer.now / 8) (length c.loop-done.buffer) c.width-width.ensures (omega (arith, c.min-count.ensures, c.min-most.ensures)) (ap (λ n. n / 8) (sym c.loop-done.auto.buffer))) ∙ ap (λ n. n * c.min-count.result) c.width-width.ensures

pub read_piece-requires-clause-limits : goal.read_piece-requires-clause-limits
read_piece-requires-clause-limits g c = c.requires.limits

pub read_piece-requires-clause-inside : goal.read_piece-requires-clause-inside
read_piece-requires-clause-inside g c = omega (arith, c.requires.inside, c.loop-done.invariant.done, c.min-count.ensures)

pub read_piece-requires-clause-room : goal.read_piece-requires-clause-room
read_piece-requires-clause-room g c = omega (arith, c.requires.room, c.loop-done.invariant.len, c.loop-done.invariant.done, c.min-count.ensures)

pub read_piece-requires-clause-file : goal.read_piece-requires-clause-file
read_piece-requires-clause-file g c = λ x told. c.requires.file x (sym c.loop-done.invariant.files ∙ told)

pub overflow_add-done : goal.overflow_add-done
overflow_add-done g c = omega (arith, c.requires.limits.room, c.requires.inside, c.loop-done.invariant.done, c.min-count.ensures)

pub loop-done-smaller : goal.loop-done-smaller
loop-done-smaller g c = omega (arith, c.requires.some, c.loop-done-test.true, c.min-count.ensures, c.min-most.ensures)

pub loop-done-preserved : goal.loop-done-preserved
loop-done-preserved g c =
    let read = c.in_ok-read_piece.ensures in
    let before = c.loop-done.invariant in
    record {
      done = omega (arith, c.min-count.ensures);
      len = read.len ∙ before.len;
      files = read.same ∙ before.files;
      counted = read.fault_reported.quiet false≢true ∙ before.counted;
      read = λ x told. words_joined c.args.array.now x c.args.span.from c.args.span.at c.loop-done.done c.min-count.result c.loop-done.words c.read_piece.new.words (before.read x told) (read.read x (before.files ∙ told)) read.others;
      others = others_joined c.args.span.at c.loop-done.done c.min-count.result c.args.span.n c.args.words.now c.loop-done.words c.read_piece.new.words (omega (arith, c.min-count.ensures)) before.others read.others;
    }

pub returns-in_err-read_piece-clause-read : goal.returns-in_err-read_piece-clause-read
returns-in_err-read_piece-clause-read g c = IfOk-from_err c.from_residual.result _ c.from_residual.ensures.0

pub returns-in_err-read_piece-clause-len : goal.returns-in_err-read_piece-clause-len
returns-in_err-read_piece-clause-len g c = c.read_piece.ensures.len ∙ c.loop-done.invariant.len

pub returns-in_err-read_piece-clause-others : goal.returns-in_err-read_piece-clause-others
returns-in_err-read_piece-clause-others g c =
    others_joined c.args.span.at c.loop-done.done c.min-count.result c.args.span.n c.args.words.now c.loop-done.words c.read_piece.new.words (omega (arith, c.min-count.ensures)) c.loop-done.invariant.others c.read_piece.ensures.others

pub returns-in_err-read_piece-clause-same : goal.returns-in_err-read_piece-clause-same
returns-in_err-read_piece-clause-same g c = c.read_piece.ensures.same ∙ c.loop-done.invariant.files

pub returns-in_err-read_piece-clause-fault_reported : goal.returns-in_err-read_piece-clause-fault_reported
returns-in_err-read_piece-clause-fault_reported g c = record {
  cause = failed_after (g.D.Disk.faults c.args.disk.now) (g.D.Disk.faults c.loop-done.disk) (g.D.Disk.faults c.read_piece.new.disk) c.loop-done.invariant.counted c.in_err-read_piece.ensures.fault_reported.cause;
  quiet = λ none. absurd (none c.from_residual.ensures.0);
}

pub returns-clause-read : goal.returns-clause-read
returns-clause-read g c = λ x told k l. c.loop-done.invariant.read x told k (omega (arith, l, c.loop-done-test.false))

pub returns-clause-len : goal.returns-clause-len
returns-clause-len g c = c.loop-done.invariant.len

pub returns-clause-others : goal.returns-clause-others
returns-clause-others g c = c.loop-done.invariant.others

pub returns-clause-same : goal.returns-clause-same
returns-clause-same g c = c.loop-done.invariant.files

pub returns-clause-fault_reported : goal.returns-clause-fault_reported
returns-clause-fault_reported g c = record {
  cause = no_cause (g.D.Disk.faults c.args.disk.now) (g.D.Disk.faults c.loop-done.disk) c.loop-done.invariant.counted false≢true;
  quiet = λ _. c.loop-done.invariant.counted;
}
