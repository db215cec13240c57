use Rattle.std.proofs.Common.{◌≡◌, ◌+◌, ◌*◌, ◌≤◌, ℕ, length, sym, subst, arith}
use Rattle.tce_space.specs.Tiling.{Tiling}
use Rattle.tce_outside.specs.Files.{file, KeepsBefore, KeepsFrom}
use Rattle.tce_array.specs.declared.form.Form.TheVariants.{One}
use Rattle.std.specs.List.{flat_map}
use Rattle.tce_base.specs.Word.{word_bytes}
use Rattle.tce_tools.specs.declared.storage.Storage.{Storage}
use Rattle.tce_tools.specs.Storage.{bare_bytes, bytes_ahead, holding_by, stored_len}
use Rattle.tce_tools.specs.Told.{HasStoredIn}
use Rattle.tce_tools.proofs.Apart.{flat_not_array}
use Rattle.tce_tools.proofs.Faults.{on_ok}
use Rattle.tce_tools.proofs.Told.{held_written}
use Rattle.tce_tools.proofs.PieceWrites.{flat_bare, words_there, buffer_fits}
use Rattle.std.proofs.lemmas.List.{length-take-le}
use Rattle.tce_tools.proofs.banding.write_band.Goals as goal

pub overflow_mul-band : goal.overflow_mul-band
overflow_mul-band g c = omega (arith, c.requires.band.inside, c.requires.band.few, c.requires.band.tiling.room)

pub write_words-requires-clause-buffer : goal.write_words-requires-clause-buffer
write_words-requires-clause-buffer g c = buffer_fits One _ _ (omega (arith, c.requires.words, c.requires.band.short)) c.requires.buffer

pub write_words-requires-clause-file : goal.write_words-requires-clause-file
write_words-requires-clause-file g c = λ x told.
    let s : Tiling = c.args.file.now.shape.now in
    let n : ℕ = length c.args.words.now in
    words_there c.args.file.now.storage s One (8 * c.args.band.start) n (file x c.args.file.now.name.now)
    (subst (λ (t : Storage). 8 * c.args.band.start + 8 * n ≤ stored_len t s) (sym c.in-Flat.is) (omega (arith, c.requires.words, c.requires.band.inside))) (c.requires.file x told)

pub overflow_mul-pieces : goal.overflow_mul-pieces
overflow_mul-pieces g c = omega (arith, c.requires.band.small)

pub slice_bounds-pieces-end : goal.slice_bounds-pieces-end
slice_bounds-pieces-end g c = omega (arith, c.requires.band.small, c.requires.tiled)

pub write_pieces-requires-clause-file : goal.write_pieces-requires-clause-file
write_pieces-requires-clause-file g c = subst (λ (t : Storage). HasStoredIn (g.D.Disk.files c.args.disk.now) c.args.file.now.name.now t c.args.file.now.shape.now) c.in-Array.is c.requires.file

pub returns-in-Flat-clause-written : goal.returns-in-Flat-clause-written
returns-in-Flat-clause-written g c =
    on_ok c.write_words.result _ _ (λ made. λ before old new is values keeps.
    held_written before _ _ c.args.file.now.name.now (λ fs. bare_bytes c.args.file.now.storage c.args.file.now.shape.now (old fs)) (λ fs. bare_bytes c.args.file.now.storage c.args.file.now.shape.now (new fs))
    (8 * c.args.band.start) (flat_map (word_bytes 8) c.args.words.now) is made
    (λ fs was. flat_bare c.args.file.now.storage c.args.file.now.shape.now c.args.band (old fs) (new fs) c.args.words.now c.in-Flat.is c.requires.band c.requires.words (values fs was) (keeps fs was)))
    c.write_words.ensures.written

pub returns-in-Array-clause-written : goal.returns-in-Array-clause-written
returns-in-Array-clause-written g c =
    on_ok c.write_pieces.result _ _ (λ made. λ before old new is values keeps.
    subst (λ (t : Storage). g.D.Disk.files c.args.disk.now ≡ holding_by c.args.file.now.name.now (λ fs. bare_bytes t c.args.file.now.shape.now (old fs)) before
    → g.D.Disk.files c.write_pieces.new.disk ≡ holding_by c.args.file.now.name.now (λ fs. bare_bytes t c.args.file.now.shape.now (new fs)) before) (sym c.in-Array.is)
    (λ was. made before old new was (λ fs told. c.tile.ensures.elements (new fs) (values fs told)) keeps) is)
    c.write_pieces.ensures.written

pub returns-in-Flat-clause-ahead : goal.returns-in-Flat-clause-ahead
returns-in-Flat-clause-ahead g c = subst (λ (t : Storage). KeepsBefore c.args.file.now.name.now (bytes_ahead t c.args.file.now.shape.now c.args.band.start) (g.D.Disk.files c.args.disk.now) (g.D.Disk.files c.write_words.new.disk)) (sym c.in-Flat.is) c.write_words.ensures.before

pub returns-in-Flat-clause-behind : goal.returns-in-Flat-clause-behind
returns-in-Flat-clause-behind g c = λ flat. subst (λ n. KeepsFrom c.args.file.now.name.now (8 * c.args.band.start + 8 * n) (g.D.Disk.files c.args.disk.now) (g.D.Disk.files c.write_words.new.disk)) c.requires.words c.write_words.ensures.behind

pub returns-in-Flat-clause-others : goal.returns-in-Flat-clause-others
returns-in-Flat-clause-others g c = c.write_words.ensures.others

pub returns-in-Flat-clause-fault_reported : goal.returns-in-Flat-clause-fault_reported
returns-in-Flat-clause-fault_reported g c = c.write_words.ensures.fault_reported

pub returns-in-Array-clause-ahead : goal.returns-in-Array-clause-ahead
returns-in-Array-clause-ahead g c = subst (λ (t : Storage). KeepsBefore c.args.file.now.name.now (bytes_ahead t c.args.file.now.shape.now c.args.band.start) (g.D.Disk.files c.args.disk.now) (g.D.Disk.files c.write_pieces.new.disk)) (sym c.in-Array.is) c.write_pieces.ensures.ahead

pub returns-in-Array-clause-behind : goal.returns-in-Array-clause-behind
returns-in-Array-clause-behind g c = λ flat. absurd (flat_not_array _ _ flat c.in-Array.is)

pub returns-in-Array-clause-others : goal.returns-in-Array-clause-others
returns-in-Array-clause-others g c = c.write_pieces.ensures.others

pub returns-in-Array-clause-fault_reported : goal.returns-in-Array-clause-fault_reported
returns-in-Array-clause-fault_reported g c = c.write_pieces.ensures.fault_reported

pub tile-requires-clause-band : goal.tile-requires-clause-band
tile-requires-clause-band g c = c.requires.band

pub tile-requires-clause-words : goal.tile-requires-clause-words
tile-requires-clause-words g c = c.requires.words

pub write_pieces-requires-clause-band : goal.write_pieces-requires-clause-band
write_pieces-requires-clause-band g c = c.requires.band

pub write_pieces-requires-clause-padding : goal.write_pieces-requires-clause-padding
write_pieces-requires-clause-padding g c = c.tile.ensures.padding

pub slice_bounds-pieces-end-in-Array : goal.slice_bounds-pieces-end-in-Array
slice_bounds-pieces-end-in-Array g c = sym (length-take-le (c.args.band.pieces * c.args.band.piece_len) c.args.tiled.now (omega (arith, c.requires.band.small, c.requires.tiled)))

pub tile-requires-clause-tiled : goal.tile-requires-clause-tiled
tile-requires-clause-tiled g c = length-take-le (c.args.band.pieces * c.args.band.piece_len) c.args.tiled.now (omega (arith, c.requires.band.small, c.requires.tiled))

pub write_pieces-requires-clause-buffer : goal.write_pieces-requires-clause-buffer
write_pieces-requires-clause-buffer g c = c.requires.buffer
