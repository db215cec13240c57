use Rattle.std.proofs.Common.{◌≡◌, ◌+◌, ◌*◌, ◌≤◌, ◌/◌, ◌∙◌, ℕ, List, Option, ap, sym, subst, Some, length, slice_range, arith}
use Rattle.std.proofs.lemmas.Result.{IfOk-from_err}
use Rattle.std.specs.List.{flat_map}
use Rattle.tce_base.specs.Word.{word_bytes}
use Rattle.tce_outside.specs.Files.{Files, written, bytes_before, others, HasPart}
use Rattle.tce_outside.proofs.Causes.{cause_of}
use Rattle.tce_space.specs.Tiling.{Tiling}
use Rattle.tce_array.specs.declared.form.Form.{Form}
use Rattle.tce_array.specs.Forms.{width, word_place}
use Rattle.tce_cache.proofs.Transfers.{has_piece, piece_written}
use Rattle.tce_cache.proofs.Tiles.{begins_so}
use Rattle.tce_cache.proofs.transfer.write_piece.Goals as goal

pub store-requires-clause-whole : goal.store-requires-clause-whole
store-requires-clause-whole g c = omega (arith, c.requires.whole)

pub store-requires-clause-room : goal.store-requires-clause-room
store-requires-clause-room g c = omega (arith, c.requires.whole, c.requires.room)

pub as_str-requires : goal.as_str-requires
as_str-requires g c = omega arith

pub place_of-requires-clause-limits : goal.place_of-requires-clause-limits
place_of-requires-clause-limits g c = c.requires.limits

pub place_of-requires-clause-inside : goal.place_of-requires-clause-inside
place_of-requires-clause-inside g c = omega (arith, c.requires.inside)

pub write_at-requires : goal.write_at-requires
write_at-requires g c = λ x told.
    let a = c.args.array.now in
    let whole : length c.store.new.out ≡ width a.form * c.args.span.n = c.store.auto.out ∙ c.requires.whole ∙ ap (λ (f : Form). width f * c.args.span.n) (sym c.requires.one) in
    subst (λ name. HasPart x name c.place_of.result (length c.store.new.out)) (sym c.as_str.ensures.value)
    (subst (λ at. HasPart x a.file.bytes at (length c.store.new.out)) (sym c.place_of.ensures.place)
    (subst (HasPart x a.file.bytes (word_place a.form a.shape c.args.span.from)) (sym whole) (has_piece a x c.args.span.from c.args.span.n (c.requires.file x told) c.requires.inside)))

pub returns-in_err-write_at-clause-written : goal.returns-in_err-write_at-clause-written
returns-in_err-write_at-clause-written g c = IfOk-from_err c.from_residual.result _ c.from_residual.ensures.0

pub returns-in_err-write_at-clause-others : goal.returns-in_err-write_at-clause-others
returns-in_err-write_at-clause-others g c = subst (λ name. others name (g.D.Disk.files c.write_at.new.self) ≡ others name (g.D.Disk.files c.args.disk.now)) c.as_str.ensures.value c.write_at.ensures.others

pub returns-in_err-write_at-clause-fault_reported : goal.returns-in_err-write_at-clause-fault_reported
returns-in_err-write_at-clause-fault_reported g c = record {
  cause = cause_of (g.D.Disk.faults c.args.disk.now) (g.D.Disk.faults c.write_at.new.self) c.in_err-write_at.ensures.fault_reported.cause;
  quiet = λ none. absurd (none c.from_residual.ensures.0);
}

pub returns-clause-written : goal.returns-clause-written
returns-clause-written g c x told y now =
    let a = c.args.array.now in
    let count : c.args.span.at + length c.args.piece.now / 8 ≡ c.args.span.at + c.args.span.n = omega (arith, c.requires.whole) in
    piece_written a x y c.args.span.from c.args.span.at c.args.span.n c.args.words.now c.requires.one (c.requires.file x told) c.requires.inside c.requires.room (λ k _. c.len-len.ensures.words (c.args.span.at + k))
    (sym now
    ∙ c.in_ok-write_at.ensures.written
    ∙ ap (written c.as_str.result.now c.place_of.result c.store.new.out) told
    ∙ ap (λ name. written name c.place_of.result c.store.new.out (Some x)) c.as_str.ensures.value
    ∙ ap (λ place. written a.file.bytes place c.store.new.out (Some x)) c.place_of.ensures.place
    ∙ ap (λ bytes. written a.file.bytes (word_place a.form a.shape c.args.span.from) bytes (Some x)) c.store.ensures
    ∙ ap (λ to. written a.file.bytes (word_place a.form a.shape c.args.span.from) (flat_map (word_bytes 8) (slice_range c.args.words.now c.args.span.at to)) (Some x)) count)

-- words stand behind the head
behind_head : (form : Form) (s : Tiling) (k : ℕ) → 8 ≤ word_place form s k
behind_head form s k = omega arith

begins_still : (name : List ℕ) (at : ℕ) (old new : Option Files) (other : List ℕ) (place : ℕ) → other ≡ name → at ≡ place → 8 ≤ place
    → bytes_before other at new ≡ bytes_before other at old → bytes_before name 8 new ≡ bytes_before name 8 old
begins_still name at old new other place named is le same =
    begins_so name at old new (omega (arith, is, le)) (subst (λ n. bytes_before n at new ≡ bytes_before n at old) named same)

pub returns-clause-begins : goal.returns-clause-begins
returns-clause-begins g c =
    let a = c.args.array.now in
    begins_still a.file.bytes c.place_of.result _ _ c.as_str.result.now (word_place a.form a.shape c.args.span.from) c.as_str.ensures.value c.place_of.ensures.place (behind_head a.form a.shape c.args.span.from) c.write_at.ensures.before

pub returns-in_err-write_at-clause-begins : goal.returns-in_err-write_at-clause-begins
returns-in_err-write_at-clause-begins g c =
    let a = c.args.array.now in
    begins_still a.file.bytes c.place_of.result _ _ c.as_str.result.now (word_place a.form a.shape c.args.span.from) c.as_str.ensures.value c.place_of.ensures.place (behind_head a.form a.shape c.args.span.from) c.write_at.ensures.before

pub returns-clause-others : goal.returns-clause-others
returns-clause-others g c = subst (λ name. others name (g.D.Disk.files c.write_at.new.self) ≡ others name (g.D.Disk.files c.args.disk.now)) c.as_str.ensures.value c.write_at.ensures.others

pub returns-clause-fault_reported : goal.returns-clause-fault_reported
returns-clause-fault_reported g c = c.in_ok-write_at.ensures.fault_reported
