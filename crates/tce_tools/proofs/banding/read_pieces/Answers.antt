use Rattle.std.proofs.Common.{◌∙◌, ℕ, sym, arith, ap, is_err}
use Rattle.tce_outside.specs.Files.{file}
use Rattle.tce_tools.specs.declared.storage.Storage.TheVariants.{Array}
use Rattle.tce_tools.specs.Flat.{contents}
use Rattle.tce_tools.proofs.PieceReads.{piece_read}
use Rattle.tce_tools.proofs.PieceWrites.{piece_room, piece_copy, piece_fits, words_there, buffer_fits, index_below}
use Rattle.tce_tools.proofs.Told.{failed_from}
use Rattle.std.proofs.lemmas.Result.{IfOk-from_err}
use Rattle.std.proofs.lemmas.Bool.{false≢true}
use Rattle.tce_tools.proofs.banding.read_pieces.Goals as goal

pub overflow_mul-from : goal.overflow_mul-from
overflow_mul-from g c = omega (arith, piece_room c.args.band c.loop-piece.piece c.loop-piece-test.true, c.requires.band.small)

pub overflow_add-words : goal.overflow_add-words
overflow_add-words g c = omega (arith, piece_room c.args.band c.loop-piece.piece c.loop-piece-test.true, c.requires.band.small)

pub slice_bounds-words-end : goal.slice_bounds-words-end
slice_bounds-words-end g c = omega (arith, piece_room c.args.band c.loop-piece.piece c.loop-piece-test.true, c.loop-piece.auto.tiled, c.requires.tiled)

pub read_words-requires-clause-buffer : goal.read_words-requires-clause-buffer
read_words-requires-clause-buffer g c =
    let len = (piece_copy c.args.band c.loop-piece.piece c.loop-piece.tiled c.loop-piece-test.true (omega (arith, c.loop-piece.auto.tiled, c.requires.tiled))).len in
    buffer_fits c.args.form _ _ (omega (arith, len, piece_room c.args.band c.loop-piece.piece c.loop-piece-test.true, c.requires.band.small)) (omega (arith, c.loop-piece.auto.bytes, c.requires.buffer))

pub read_words-requires-clause-file : goal.read_words-requires-clause-file
read_words-requires-clause-file g c = λ x told.
    let len = (piece_copy c.args.band c.loop-piece.piece c.loop-piece.tiled c.loop-piece-test.true (omega (arith, c.loop-piece.auto.tiled, c.requires.tiled))).len in
    words_there (Array c.args.form) c.args.file.now.shape.now c.args.form c.piece_place.result _ (file x c.args.file.now.name.now)
    (piece_fits c.args.form c.args.file.now.shape.now c.args.band c.loop-piece.piece c.piece_place.result _ c.requires.band c.loop-piece-test.true len c.piece_place.ensures) (c.requires.file x (sym c.loop-piece.invariant.files ∙ told))

pub loop-piece-preserved : goal.loop-piece-preserved
loop-piece-preserved g c =
    let t : ℕ = c.loop-piece.piece in
    let room = piece_room c.args.band t c.loop-piece-test.true in
    let all = c.loop-piece.auto.tiled in
    let len = (piece_copy c.args.band t c.loop-piece.tiled c.loop-piece-test.true (omega (arith, all, c.requires.tiled))).len in
    record {
      read = λ x told.
          piece_read c.args.form c.args.file.now.shape.now c.args.band (contents x c.args.file.now.name.now) c.loop-piece.tiled c.read_words.new.words t c.piece_place.result (omega (arith, c.read_words.auto.words, len)) (omega (arith, room, all, c.requires.tiled)) c.piece_place.ensures
          (c.in_ok-read_words.ensures.read x (c.loop-piece.invariant.files ∙ told)) (c.loop-piece.invariant.read x told);
      files = c.in_ok-read_words.ensures.same ∙ c.loop-piece.invariant.files;
      later = omega (arith, c.in_ok-read_words.ensures.fault_reported.cause.later, c.loop-piece.invariant.later);
      counted = c.in_ok-read_words.ensures.fault_reported.quiet false≢true ∙ c.loop-piece.invariant.counted;
    }

pub returns-clause-read : goal.returns-clause-read
returns-clause-read g c = λ x told xs h index at. c.loop-piece.invariant.read x told xs h index at (index_below c.args.band c.loop-piece.piece _ index (omega (arith, c.loop-piece-test.false)) at)

pub returns-clause-fault_reported : goal.returns-clause-fault_reported
returns-clause-fault_reported g c = record {
  cause = record { later = c.loop-piece.invariant.later; rose = λ e. absurd (false≢true e) };
  quiet = λ _. c.loop-piece.invariant.counted;
}

pub returns-clause-same : goal.returns-clause-same
returns-clause-same g c = c.loop-piece.invariant.files

pub piece_place-requires-clause-band : goal.piece_place-requires-clause-band
piece_place-requires-clause-band g c = c.requires.band

pub piece_place-requires-clause-among : goal.piece_place-requires-clause-among
piece_place-requires-clause-among g c = c.loop-piece-test.true

pub returns-in_err-read_words-clause-same : goal.returns-in_err-read_words-clause-same
returns-in_err-read_words-clause-same g c = c.read_words.ensures.same ∙ c.loop-piece.invariant.files

pub returns-in_err-read_words-clause-fault_reported : goal.returns-in_err-read_words-clause-fault_reported
returns-in_err-read_words-clause-fault_reported g c = record {
  cause = failed_from _ (g.D.Disk.faults c.loop-piece.disk) _ _ _ c.loop-piece.invariant.later c.read_words.ensures.fault_reported.cause (ap is_err c.in_err-read_words.was);
  quiet = λ fine. absurd (fine c.from_residual.ensures.0);
}

pub returns-in_err-read_words-clause-read : goal.returns-in_err-read_words-clause-read
returns-in_err-read_words-clause-read g c = IfOk-from_err c.from_residual.result _ c.from_residual.ensures.0
