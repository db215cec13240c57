use Rattle.std.proofs.Common.{◌∙◌, ◌+◌, ◌-◌, ◌*◌, List, ℕ, take, drop, refl, arith, ap, is_err}
use Rattle.std.specs.List.{flat_map}
use Rattle.tce_base.specs.Word.{word_bytes}
use Rattle.tce_space.specs.Tiling.{Tiling}
use Rattle.tce_outside.specs.Files.{file}
use Rattle.tce_array.specs.Forms.{width, head_len}
use Rattle.tce_tools.specs.declared.storage.Storage.TheVariants.{Array}
use Rattle.tce_tools.specs.Storage.{bare_bytes}
use Rattle.tce_tools.proofs.Told.{failed_from, held_told, held_written}
use Rattle.tce_tools.proofs.PieceWrites.{after_pieces, piece_bare, piece_room, piece_copy, piece_fits, piece_bytes_fit, words_there, buffer_fits, no_pieces, all_pieces, still_stored}
use Rattle.tce_tools.proofs.NoHalf.{shorter_before}
use Rattle.std.proofs.lemmas.Result.{IfOk-from_err}
use Rattle.std.proofs.lemmas.Bool.{false≢true}
use Rattle.tce_tools.proofs.banding.write_pieces.Goals as goal

pub loop-piece-init : goal.loop-piece-init
loop-piece-init g c = record {
  written = λ before old new is values keeps.
      held_told before _ c.args.file.now.name.now (λ fs. bare_bytes (Array c.args.form) c.args.file.now.shape.now (old fs)) _ is (λ fs was. no_pieces c.args.form c.args.file.now.shape.now c.args.band (old fs) (new fs) c.requires.band (keeps fs was));
  ahead = refl;
  there = c.requires.file;
  others = refl;
  later = omega arith;
  counted = refl;
}

pub overflow_mul-from : goal.overflow_mul-from
overflow_mul-from g c = omega (arith, piece_room c.args.band c.loop-piece.piece c.loop-piece-test.true, c.requires.band.small)

pub overflow_add-words : goal.overflow_add-words
overflow_add-words g c = omega (arith, piece_room c.args.band c.loop-piece.piece c.loop-piece-test.true, c.requires.band.small)

pub slice_bounds-words-end : goal.slice_bounds-words-end
slice_bounds-words-end g c = omega (arith, piece_room c.args.band c.loop-piece.piece c.loop-piece-test.true, c.requires.tiled)

pub write_words-requires-clause-buffer : goal.write_words-requires-clause-buffer
write_words-requires-clause-buffer g c =
    let len = (piece_copy c.args.band c.loop-piece.piece c.args.tiled.now c.loop-piece-test.true c.requires.tiled).len in
    buffer_fits c.args.form _ _ (omega (arith, len, piece_room c.args.band c.loop-piece.piece c.loop-piece-test.true, c.requires.band.small)) (omega (arith, c.loop-piece.auto.bytes, c.requires.buffer))

pub write_words-requires-clause-file : goal.write_words-requires-clause-file
write_words-requires-clause-file g c = λ x told.
    let len = (piece_copy c.args.band c.loop-piece.piece c.args.tiled.now c.loop-piece-test.true c.requires.tiled).len in
    words_there (Array c.args.form) c.args.file.now.shape.now c.args.form c.piece_place.result _ (file x c.args.file.now.name.now)
    (piece_fits c.args.form c.args.file.now.shape.now c.args.band c.loop-piece.piece c.piece_place.result _ c.requires.band c.loop-piece-test.true len c.piece_place.ensures) (c.loop-piece.invariant.there x told)

pub loop-piece-preserved : goal.loop-piece-preserved
loop-piece-preserved g c =
    let s : Tiling = c.args.file.now.shape.now in
    let n : ℕ = c.args.band.piece_len in
    let t : ℕ = c.loop-piece.piece in
    let vs : List ℕ = take (t * n + n - t * n) (drop (t * n) c.args.tiled.now) in
    let copy = piece_copy c.args.band t c.args.tiled.now c.loop-piece-test.true c.requires.tiled in
    record {
      written = λ before old new is values keeps.
          held_written before _ _ c.args.file.now.name.now (λ fs. bare_bytes (Array c.args.form) s (after_pieces s c.args.band (old fs) (new fs) t)) (λ fs. bare_bytes (Array c.args.form) s (after_pieces s c.args.band (old fs) (new fs) (t + 1))) c.piece_place.result (flat_map (word_bytes (width c.args.form)) vs)
          (c.loop-piece.invariant.written before old new is values keeps) c.in_ok-write_words.ensures.written
          (λ fs was. piece_bare c.args.form s c.args.band (old fs) (new fs) c.args.tiled.now vs t c.piece_place.result c.requires.band c.loop-piece-test.true copy (values fs was) (keeps fs was) c.requires.padding c.piece_place.ensures);
      ahead = shorter_before c.args.file.now.name.now (head_len c.args.form s) c.piece_place.result _ _ (omega (arith, c.piece_place.ensures)) c.write_words.ensures.before ∙ c.loop-piece.invariant.ahead;
      there = still_stored _ _ c.args.file.now.name.now (Array c.args.form) s c.piece_place.result (flat_map (word_bytes (width c.args.form)) vs) c.in_ok-write_words.ensures.written c.loop-piece.invariant.there
          (piece_bytes_fit c.args.form s c.args.band t c.piece_place.result vs c.requires.band c.loop-piece-test.true copy.len c.piece_place.ensures);
      others = c.in_ok-write_words.ensures.others ∙ c.loop-piece.invariant.others;
      later = omega (arith, c.in_ok-write_words.ensures.fault_reported.cause.later, c.loop-piece.invariant.later);
      counted = c.in_ok-write_words.ensures.fault_reported.quiet false≢true ∙ c.loop-piece.invariant.counted;
    }

pub returns-in_err-write_words-clause-ahead : goal.returns-in_err-write_words-clause-ahead
returns-in_err-write_words-clause-ahead g c =
    shorter_before c.args.file.now.name.now (head_len c.args.form c.args.file.now.shape.now) c.piece_place.result _ _ (omega (arith, c.piece_place.ensures)) c.write_words.ensures.before ∙ c.loop-piece.invariant.ahead

pub returns-clause-written : goal.returns-clause-written
returns-clause-written g c = λ before old new is values keeps.
    held_told before _ c.args.file.now.name.now (λ fs. bare_bytes (Array c.args.form) c.args.file.now.shape.now (after_pieces c.args.file.now.shape.now c.args.band (old fs) (new fs) c.loop-piece.piece)) _ (c.loop-piece.invariant.written before old new is values keeps)
    (λ fs was. all_pieces c.args.form c.args.file.now.shape.now c.args.band (old fs) (new fs) c.loop-piece.piece c.requires.band (keeps fs was) (omega (arith, c.loop-piece-test.false)))

pub returns-clause-fault_reported : goal.returns-clause-fault_reported
returns-clause-fault_reported g c = record {
  cause = record { later = c.loop-piece.invariant.later; rose = λ e. absurd (false≢true e) };
  quiet = λ _. c.loop-piece.invariant.counted;
}

pub returns-clause-others : goal.returns-clause-others
returns-clause-others g c = c.loop-piece.invariant.others

pub returns-clause-ahead : goal.returns-clause-ahead
returns-clause-ahead g c = c.loop-piece.invariant.ahead

pub piece_place-requires-clause-band : goal.piece_place-requires-clause-band
piece_place-requires-clause-band g c = c.requires.band

pub piece_place-requires-clause-among : goal.piece_place-requires-clause-among
piece_place-requires-clause-among g c = c.loop-piece-test.true

pub returns-in_err-write_words-clause-others : goal.returns-in_err-write_words-clause-others
returns-in_err-write_words-clause-others g c = c.write_words.ensures.others ∙ c.loop-piece.invariant.others

pub returns-in_err-write_words-clause-fault_reported : goal.returns-in_err-write_words-clause-fault_reported
returns-in_err-write_words-clause-fault_reported g c = record {
  cause = failed_from _ (g.D.Disk.faults c.loop-piece.disk) _ _ _ c.loop-piece.invariant.later c.write_words.ensures.fault_reported.cause (ap is_err c.in_err-write_words.was);
  quiet = λ fine. absurd (fine c.from_residual.ensures.0);
}

pub returns-in_err-write_words-clause-written : goal.returns-in_err-write_words-clause-written
returns-in_err-write_words-clause-written g c = IfOk-from_err c.from_residual.result _ c.from_residual.ensures.0
