use Rattle.std.proofs.Common.{◌+◌, ◌*◌, ◌≤◌, ℕ, length, sym, subst, arith, ◌∙◌, refl}
use Rattle.tce_space.specs.Tiling.{Tiling}
use Rattle.tce_outside.specs.Files.{file}
use Rattle.tce_outside.proofs.Causes.{failed_after}
use Rattle.tce_array.specs.declared.form.Form.TheVariants.{One}
use Rattle.tce_tools.specs.declared.storage.Storage.{Storage}
use Rattle.tce_tools.specs.declared.storage.Storage.TheVariants.{Array}
use Rattle.tce_tools.specs.Flat.{contents}
use Rattle.tce_tools.specs.Storage.{element_in, stored_len}
use Rattle.tce_tools.specs.Runs.{AreElements}
use Rattle.tce_tools.specs.Told.{HasStoredIn}
use Rattle.tce_tools.proofs.PieceReads.{flat_read}
use Rattle.tce_tools.proofs.PieceWrites.{words_there, buffer_fits}
use Rattle.std.proofs.lemmas.Result.{IfOk-from_err}
use Rattle.std.proofs.lemmas.List.{length-take-le}
use Rattle.tce_tools.proofs.banding.read_band.Goals as goal

pub overflow_mul-band : goal.overflow_mul-band
overflow_mul-band g c = omega (arith, c.requires.band.inside, c.requires.band.few, c.requires.band.tiling.room)

pub read_words-requires-clause-buffer : goal.read_words-requires-clause-buffer
read_words-requires-clause-buffer g c = buffer_fits One _ _ (omega (arith, c.requires.words, c.requires.band.short)) c.requires.buffer

pub read_words-requires-clause-file : goal.read_words-requires-clause-file
read_words-requires-clause-file g c = λ x told.
    let s : Tiling = c.args.file.now.shape.now in
    let n : ℕ = length c.args.words.now in
    words_there c.args.file.now.storage s One (8 * c.args.band.start) n (file x c.args.file.now.name.now)
    (subst (λ (t : Storage). 8 * c.args.band.start + 8 * n ≤ stored_len t s) (sym c.in-Flat.is) (omega (arith, c.requires.words, c.requires.band.inside))) (c.requires.file x told)

pub overflow_mul-pieces : goal.overflow_mul-pieces
overflow_mul-pieces g c = omega (arith, c.requires.band.small)

pub slice_bounds-pieces-end : goal.slice_bounds-pieces-end
slice_bounds-pieces-end g c = omega (arith, c.requires.band.small, c.requires.tiled)

pub read_pieces-requires-clause-file : goal.read_pieces-requires-clause-file
read_pieces-requires-clause-file g c = subst (λ (t : Storage). HasStoredIn (g.D.Disk.files c.args.disk.now) c.args.file.now.name.now t c.args.file.now.shape.now) c.in-Array.is c.requires.file

pub returns-in_ok-read_words-in-Flat-clause-read : goal.returns-in_ok-read_words-in-Flat-clause-read
returns-in_ok-read_words-in-Flat-clause-read g c = λ x told. flat_read c.args.file.now.storage c.args.file.now.shape.now (contents x c.args.file.now.name.now) c.read_words.new.words c.args.band.start c.in-Flat.is (c.in_ok-read_words-in-Flat.ensures.read x told)

pub returns-in_ok-read_pieces-in-Array-clause-read : goal.returns-in_ok-read_pieces-in-Array-clause-read
returns-in_ok-read_pieces-in-Array-clause-read g c = λ x told.
    subst (λ (t : Storage). AreElements c.args.file.now.shape.now (element_in t c.args.file.now.shape.now (contents x c.args.file.now.name.now)) c.args.band.start c.flatten.new.words) (sym c.in-Array.is)
    (c.flatten.ensures (element_in (Array c.in-Array.form) c.args.file.now.shape.now (contents x c.args.file.now.name.now)) (c.in_ok-read_pieces-in-Array.ensures.read x told))

pub returns-in_err-read_words-in-Flat-clause-same : goal.returns-in_err-read_words-in-Flat-clause-same
returns-in_err-read_words-in-Flat-clause-same g c = c.read_words.ensures.same

pub returns-in_ok-read_words-in-Flat-clause-same : goal.returns-in_ok-read_words-in-Flat-clause-same
returns-in_ok-read_words-in-Flat-clause-same g c = c.read_words.ensures.same

pub returns-in_err-read_pieces-in-Array-clause-same : goal.returns-in_err-read_pieces-in-Array-clause-same
returns-in_err-read_pieces-in-Array-clause-same g c = c.read_pieces.ensures.same

pub returns-in_ok-read_pieces-in-Array-clause-same : goal.returns-in_ok-read_pieces-in-Array-clause-same
returns-in_ok-read_pieces-in-Array-clause-same g c = c.read_pieces.ensures.same

pub read_pieces-requires-clause-band : goal.read_pieces-requires-clause-band
read_pieces-requires-clause-band g c = c.requires.band

pub flatten-requires-clause-band : goal.flatten-requires-clause-band
flatten-requires-clause-band g c = c.requires.band

pub returns-in_err-read_words-in-Flat-clause-read : goal.returns-in_err-read_words-in-Flat-clause-read
returns-in_err-read_words-in-Flat-clause-read g c = IfOk-from_err c.from_residual.result _ c.from_residual.ensures.0

pub returns-in_err-read_words-in-Flat-clause-len : goal.returns-in_err-read_words-in-Flat-clause-len
returns-in_err-read_words-in-Flat-clause-len g c = c.read_words.auto.words ∙ c.requires.words

pub returns-in_err-read_words-in-Flat-clause-fault_reported : goal.returns-in_err-read_words-in-Flat-clause-fault_reported
returns-in_err-read_words-in-Flat-clause-fault_reported g c = record {
  cause = failed_after (g.D.Disk.faults c.args.disk.now) (g.D.Disk.faults c.args.disk.now) (g.D.Disk.faults c.read_words.new.disk) refl c.in_err-read_words-in-Flat.ensures.fault_reported.cause;
  quiet = λ fine. absurd (fine c.from_residual.ensures.0);
}

pub slice_bounds-pieces-end-in-Array : goal.slice_bounds-pieces-end-in-Array
slice_bounds-pieces-end-in-Array g c = sym (length-take-le (c.args.band.pieces * c.args.band.piece_len) c.args.tiled.now (omega (arith, c.requires.band.small, c.requires.tiled)))

pub read_pieces-requires-clause-buffer : goal.read_pieces-requires-clause-buffer
read_pieces-requires-clause-buffer g c = c.requires.buffer

pub read_pieces-requires-clause-tiled : goal.read_pieces-requires-clause-tiled
read_pieces-requires-clause-tiled g c = length-take-le (c.args.band.pieces * c.args.band.piece_len) c.args.tiled.now (omega (arith, c.requires.band.small, c.requires.tiled))

pub returns-in_err-read_pieces-in-Array-clause-read : goal.returns-in_err-read_pieces-in-Array-clause-read
returns-in_err-read_pieces-in-Array-clause-read g c = IfOk-from_err c.from_residual-in_err-read_pieces-in-Array.result _ c.from_residual-in_err-read_pieces-in-Array.ensures.0

pub returns-in_err-read_pieces-in-Array-clause-len : goal.returns-in_err-read_pieces-in-Array-clause-len
returns-in_err-read_pieces-in-Array-clause-len g c = c.requires.words

pub returns-in_err-read_pieces-in-Array-clause-fault_reported : goal.returns-in_err-read_pieces-in-Array-clause-fault_reported
returns-in_err-read_pieces-in-Array-clause-fault_reported g c = record {
  cause = failed_after (g.D.Disk.faults c.args.disk.now) (g.D.Disk.faults c.args.disk.now) (g.D.Disk.faults c.read_pieces.new.disk) refl c.in_err-read_pieces-in-Array.ensures.fault_reported.cause;
  quiet = λ fine. absurd (fine c.from_residual-in_err-read_pieces-in-Array.ensures.0);
}

pub flatten-requires-clause-tiled : goal.flatten-requires-clause-tiled
flatten-requires-clause-tiled g c = c.read_pieces.auto.tiled ∙ length-take-le (c.args.band.pieces * c.args.band.piece_len) c.args.tiled.now (omega (arith, c.requires.band.small, c.requires.tiled))

pub flatten-requires-clause-words : goal.flatten-requires-clause-words
flatten-requires-clause-words g c = c.requires.words

pub returns-in_ok-read_words-in-Flat-clause-len : goal.returns-in_ok-read_words-in-Flat-clause-len
returns-in_ok-read_words-in-Flat-clause-len g c = c.read_words.auto.words ∙ c.requires.words

pub returns-in_ok-read_words-in-Flat-clause-fault_reported : goal.returns-in_ok-read_words-in-Flat-clause-fault_reported
returns-in_ok-read_words-in-Flat-clause-fault_reported g c = c.in_ok-read_words-in-Flat.ensures.fault_reported

pub returns-in_ok-read_pieces-in-Array-clause-len : goal.returns-in_ok-read_pieces-in-Array-clause-len
returns-in_ok-read_pieces-in-Array-clause-len g c = c.flatten.auto.words ∙ c.requires.words

pub returns-in_ok-read_pieces-in-Array-clause-fault_reported : goal.returns-in_ok-read_pieces-in-Array-clause-fault_reported
returns-in_ok-read_pieces-in-Array-clause-fault_reported g c = c.in_ok-read_pieces-in-Array.ensures.fault_reported
