use Rattle.std.proofs.Common.{◌≡◌, ◌∙◌, ◌+◌, ◌-◌, ap, arith, refl, sym}
use Rattle.std.proofs.lemmas.List.{length-take-le}
use Rattle.tce_outside.specs.Files.{file}
use Rattle.tce_outside.proofs.Causes.{failed_after}
use Rattle.tce_tools.specs.Flat.{contents}
use Rattle.tce_sym.specs.Storage.{stored_word}
use Rattle.tce_sym.proofs.HeldLines.{line_read}
use Rattle.tce_sym.proofs.StoredReads.{words_there}
use Rattle.std.proofs.lemmas.Result.{IfOk-from_err}
use Rattle.std.proofs.lemmas.Bool.{false≢true}
use Rattle.tce_sym.proofs.lines.read_through.Goals as goal

pub slice_bounds-words-end : goal.slice_bounds-words-end
slice_bounds-words-end g c = omega (arith, c.min-len.ensures, c.requires.span)

pub read_words-requires-clause-buffer : goal.read_words-requires-clause-buffer
read_words-requires-clause-buffer g c =
    let size = length-take-le c.min-len.result c.args.buffers.words.now (omega (arith, c.min-len.ensures, c.requires.span)) in
    omega (arith, size, c.min-len.ensures, c.requires.bytes)

pub read_words-requires-clause-file : goal.read_words-requires-clause-file
read_words-requires-clause-file g c = λ x told.
    let size = length-take-le c.min-len.result c.args.buffers.words.now (omega (arith, c.min-len.ensures, c.requires.span)) in
    words_there c.args.wanted.start _ c.args.grid.now.count (file x c.args.packed.now) (omega (arith, size, c.min-len.ensures, c.requires.wanted.start, c.requires.wanted.place)) (c.requires.file x told)

pub put_lines-requires-clause-start : goal.put_lines-requires-clause-start
put_lines-requires-clause-start g c =
    let size = length-take-le c.min-len.result c.args.buffers.words.now (omega (arith, c.min-len.ensures, c.requires.span)) in
    omega (arith, size, c.read_words.auto.words, c.min-len.ensures, c.requires.wanted.start, c.requires.wanted.place)

pub put_lines-requires-clause-whole : goal.put_lines-requires-clause-whole
put_lines-requires-clause-whole g c = λ k l inside.
    let size = length-take-le c.min-len.result c.args.buffers.words.now (omega (arith, c.min-len.ensures, c.requires.span)) in
    omega (arith, size, l, inside, c.read_words.auto.words, c.min-len.ensures, c.requires.wanted.line)

pub bounds-words-wanted : goal.bounds-words-wanted
bounds-words-wanted g c =
    let size = length-take-le c.min-len.result c.args.buffers.words.now (omega (arith, c.min-len.ensures, c.requires.span)) in
    omega (arith, size, c.read_words.auto.words, c.min-len.ensures, c.requires.wanted.start, c.requires.wanted.near, c.requires.wanted.place)

pub returns-clause-word : goal.returns-clause-word
returns-clause-word g c x told =
    let values = line_read (contents x c.args.packed.now) c.read_words.new.words c.args.wanted.start (c.in_ok-read_words.ensures.read x told) in
    let size = length-take-le c.min-len.result c.args.buffers.words.now (omega (arith, c.min-len.ensures, c.requires.span)) in
    let at : c.args.wanted.start + (c.args.wanted.place - c.args.wanted.start) ≡ c.args.wanted.place = omega (arith, c.requires.wanted.start) in
    values (c.args.wanted.place - c.args.wanted.start) (omega (arith, size, c.read_words.auto.words, c.min-len.ensures, c.requires.wanted.start, c.requires.wanted.near, c.requires.wanted.place)) ∙ ap (stored_word (contents x c.args.packed.now)) at

pub returns-clause-lines : goal.returns-clause-lines
returns-clause-lines g c x told =
    c.put_lines.ensures (contents x c.args.packed.now) (c.requires.lines x told) (line_read (contents x c.args.packed.now) c.read_words.new.words c.args.wanted.start (c.in_ok-read_words.ensures.read x told))

pub returns-clause-same : goal.returns-clause-same
returns-clause-same g c = c.in_ok-read_words.ensures.same

pub returns-clause-fault_reported : goal.returns-clause-fault_reported
returns-clause-fault_reported g c = record {
  cause = record { later = c.in_ok-read_words.ensures.fault_reported.cause.later; rose = λ e. absurd (false≢true e) };
  quiet = λ _. c.in_ok-read_words.ensures.fault_reported.quiet false≢true;
}

pub overflow_sub-grid : goal.overflow_sub-grid
overflow_sub-grid g c = omega (arith, c.requires.wanted.start, c.requires.wanted.place)

pub slice_bounds-words-end-2 : goal.slice_bounds-words-end-2
slice_bounds-words-end-2 g c = sym (length-take-le c.min-len.result c.args.buffers.words.now (omega (arith, c.min-len.ensures, c.requires.span)))

pub overflow_mul-wanted : goal.overflow_mul-wanted
overflow_mul-wanted g c = omega (arith, c.requires.wanted.start, c.requires.wanted.place, c.requires.wanted.count)

pub overflow_add-wanted : goal.overflow_add-wanted
overflow_add-wanted g c = omega (arith, c.requires.wanted.start, c.requires.wanted.place, c.requires.wanted.count)

pub returns-in_err-read_words-clause-word : goal.returns-in_err-read_words-clause-word
returns-in_err-read_words-clause-word g c = IfOk-from_err c.from_residual.result _ c.from_residual.ensures.0

pub returns-in_err-read_words-clause-lines : goal.returns-in_err-read_words-clause-lines
returns-in_err-read_words-clause-lines g c = IfOk-from_err c.from_residual.result _ c.from_residual.ensures.0

pub returns-in_err-read_words-clause-same : goal.returns-in_err-read_words-clause-same
returns-in_err-read_words-clause-same g c = c.read_words.ensures.same

pub returns-in_err-read_words-clause-fault_reported : goal.returns-in_err-read_words-clause-fault_reported
returns-in_err-read_words-clause-fault_reported g c = record {
  cause = failed_after (g.D.Disk.faults c.args.disk.now) (g.D.Disk.faults c.args.disk.now) (g.D.Disk.faults c.read_words.new.disk) refl c.in_err-read_words.ensures.fault_reported.cause;
  quiet = λ fine. absurd (fine c.from_residual.ensures.0);
}

pub put_lines-requires-clause-grid : goal.put_lines-requires-clause-grid
put_lines-requires-clause-grid g c = c.requires.grid

pub put_lines-requires-clause-slot : goal.put_lines-requires-clause-slot
put_lines-requires-clause-slot g c = c.requires.wanted.slot

pub put_lines-requires-clause-count : goal.put_lines-requires-clause-count
put_lines-requires-clause-count g c = c.requires.wanted.count

pub overflow_sub-result : goal.overflow_sub-result
overflow_sub-result g c = c.requires.wanted.start

pub offset_bounds-words-wanted : goal.offset_bounds-words-wanted
offset_bounds-words-wanted g c = omega (arith, c.requires.wanted.place, c.requires.wanted.count)
