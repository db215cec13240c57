use Rattle.std.proofs.Common.{◌≡◌, ◌+◌, ◌*◌, ◌≤◌, ◌∙◌, ap, refl, sym, subst, length, arith}
use Rattle.std.proofs.lemmas.Result.{IfOk-from_err}
use Rattle.tce_outside.specs.Files.{part, HasPart}
use Rattle.tce_outside.proofs.Causes.{cause_of}
use Rattle.tce_array.specs.Forms.{width, word_place}
use Rattle.tce_cache.proofs.Transfers.{piece_words, has_piece, piece_loaded, others_loaded}
use Rattle.tce_cache.proofs.transfer.read_piece.Goals as goal

pub as_str-requires : goal.as_str-requires
as_str-requires g c = omega arith

pub place_of-requires-clause-limits : goal.place_of-requires-clause-limits
place_of-requires-clause-limits g c = c.requires.limits

pub place_of-requires-clause-inside : goal.place_of-requires-clause-inside
place_of-requires-clause-inside g c = omega (arith, c.requires.inside)

pub read_at-requires : goal.read_at-requires
read_at-requires g c = λ x told.
    let a = c.args.array.now in
    subst (λ name. HasPart x name c.place_of.result (length c.args.piece.now)) (sym c.as_str.ensures.value)
    (subst (λ at. HasPart x a.file.bytes at (length c.args.piece.now)) (sym c.place_of.ensures.place)
    (subst (HasPart x a.file.bytes (word_place a.form a.shape c.args.span.from)) (sym c.requires.whole) (has_piece a x c.args.span.from c.args.span.n (c.requires.file x told) c.requires.inside)))

pub returns-in_err-read_at-clause-read : goal.returns-in_err-read_at-clause-read
returns-in_err-read_at-clause-read g c = IfOk-from_err c.from_residual.result _ c.from_residual.ensures.0

pub returns-in_err-read_at-clause-len : goal.returns-in_err-read_at-clause-len
returns-in_err-read_at-clause-len g c = refl

pub returns-in_err-read_at-clause-others : goal.returns-in_err-read_at-clause-others
returns-in_err-read_at-clause-others g c = λ p out. refl

pub returns-in_err-read_at-clause-same : goal.returns-in_err-read_at-clause-same
returns-in_err-read_at-clause-same g c = c.read_at.ensures.same

pub returns-in_err-read_at-clause-fault_reported : goal.returns-in_err-read_at-clause-fault_reported
returns-in_err-read_at-clause-fault_reported g c = record {
  cause = cause_of (g.D.Disk.faults c.args.disk.now) (g.D.Disk.faults c.read_at.new.self) c.in_err-read_at.ensures.fault_reported.cause;
  quiet = λ none. absurd (none c.from_residual.ensures.0);
}

pub load_piece-requires-clause-whole : goal.load_piece-requires-clause-whole
load_piece-requires-clause-whole g c = (piece_words c.args.array.now.form c.args.span.n (length c.read_at.new.out) (c.read_at.auto.out ∙ c.requires.whole)).0

pub load_piece-requires-clause-room : goal.load_piece-requires-clause-room
load_piece-requires-clause-room g c =
    subst (λ n. c.args.span.at + n ≤ length c.args.words.now) (sym (piece_words c.args.array.now.form c.args.span.n (length c.read_at.new.out) (c.read_at.auto.out ∙ c.requires.whole)).1) c.requires.room

pub returns-clause-read : goal.returns-clause-read
returns-clause-read g c x told =
    let a = c.args.array.now in
    let is : c.read_at.new.out ≡ part x a.file.bytes (word_place a.form a.shape c.args.span.from) (width a.form * c.args.span.n) =
    c.in_ok-read_at.ensures.read x told
    ∙ ap (λ name. part x name c.place_of.result (length c.args.piece.now)) c.as_str.ensures.value
    ∙ ap (λ place. part x a.file.bytes place (length c.args.piece.now)) c.place_of.ensures.place
    ∙ ap (part x a.file.bytes (word_place a.form a.shape c.args.span.from)) c.requires.whole in
    piece_loaded a x c.args.span.from c.args.span.n c.args.span.at c.read_at.new.out c.args.words.now c.load_piece.new.words is (omega (arith, c.requires.whole)) c.load_piece.ensures

pub returns-clause-len : goal.returns-clause-len
returns-clause-len g c = c.load_piece.ensures.same_length

pub returns-clause-others : goal.returns-clause-others
returns-clause-others g c = others_loaded c.args.array.now.form c.args.span.n c.args.span.at c.read_at.new.out c.args.words.now c.load_piece.new.words (c.read_at.auto.out ∙ c.requires.whole) c.load_piece.ensures

pub returns-clause-same : goal.returns-clause-same
returns-clause-same g c = c.read_at.ensures.same

pub returns-clause-fault_reported : goal.returns-clause-fault_reported
returns-clause-fault_reported g c = c.in_ok-read_at.ensures.fault_reported
