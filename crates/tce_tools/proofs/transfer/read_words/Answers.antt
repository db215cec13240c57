use Rattle.std.proofs.Common.{◌≡◌, ◌∙◌, ◌*◌, ◌≤◌, ap, refl, length, List, ℕ, arith, is_err}
use Rattle.std.proofs.lemmas.List.{length-take-le}
use Rattle.std.proofs.lemmas.Bool.{false≢true}
use Rattle.tce_array.specs.Forms.{width}
use Rattle.tce_tools.specs.Flat.{contents}
use Rattle.tce_tools.proofs.Pieces.{piece_is, word_of_piece}
use Rattle.tce_tools.proofs.transfer.read_words.Goals as goal

pub overflow_mul-piece : goal.overflow_mul-piece
overflow_mul-piece g c = omega (arith, ap (λ m. m * length c.args.words.now) c.width.ensures, c.requires.buffer)

pub slice_bounds-piece-end : goal.slice_bounds-piece-end
slice_bounds-piece-end g c = omega (arith, ap (λ m. m * length c.args.words.now) c.width.ensures, c.requires.buffer)

pub returns-clause-read : goal.returns-clause-read
returns-clause-read g c x told k lt =
    let bs : List ℕ = contents x c.args.name.now in
    let w : ℕ = width c.args.form in
    let n : ℕ = length c.args.words.now in
    let same : c.width.result * n ≡ w * n = ap (λ m. m * n) c.width.ensures in
    let room : c.width.result * n ≤ length c.args.bytes.now = omega (arith, same, c.requires.buffer) in
    c.decode.ensures k lt
    ∙ word_of_piece c.args.form bs c.read_at.new.out c.args.at n k (omega (arith, c.decode.auto.words))
    (piece_is bs c.read_at.new.out _ c.args.at (w * n) c.args.at (c.in_ok-read_at.ensures.read x told) (length-take-le (c.width.result * n) c.args.bytes.now room ∙ same) refl)

pub returns-in_err-read_at-clause-same : goal.returns-in_err-read_at-clause-same
returns-in_err-read_at-clause-same g c = c.read_at.ensures.same

pub returns-in_err-read_at-clause-fault_reported : goal.returns-in_err-read_at-clause-fault_reported
returns-in_err-read_at-clause-fault_reported g c = record {
  cause = record { later = c.read_at.ensures.fault_reported.cause.later; rose = λ e. c.read_at.ensures.fault_reported.cause.rose (ap is_err c.in_err-read_at.was) };
  quiet = λ fine. absurd (fine c.from_residual.ensures.0);
}

pub returns-clause-same : goal.returns-clause-same
returns-clause-same g c = c.read_at.ensures.same

pub returns-clause-fault_reported : goal.returns-clause-fault_reported
returns-clause-fault_reported g c = record {
  cause = record { later = c.read_at.ensures.fault_reported.cause.later; rose = λ e. absurd (false≢true e) };
  quiet = λ fine. c.in_ok-read_at.ensures.fault_reported.quiet false≢true;
}
