use Rattle.std.proofs.Common.{◌≡◌, ◌∙◌, ◌+◌, ◌*◌, ◌<◌, List, ℕ, length, sym, ap, subst, arith, refl}
use Rattle.std.specs.Option.{IsSomeAnd}
use Rattle.tce_outside.specs.Files.{file}
use Rattle.tce_outside.proofs.Causes.{failed_after, no_cause}
use Rattle.tce_tools.specs.Flat.{contents}
use Rattle.tce_sym.specs.Storage.{stored_word, turned}
use Rattle.tce_sym.specs.declared.cells.Pair.{Pair}
use Rattle.tce_sym.specs.Cells.{IsAmong, IsMirrored, moved_pair}
use Rattle.tce_sym.proofs.Walked.{mirrored_walk_is, mirrored_placed, moved_nowhere, number_left}
use Rattle.std.proofs.lemmas.Result.{IfOk-from_err}
use Rattle.std.proofs.lemmas.Bool.{false≢true}
use Rattle.tce_sym.proofs.rows.read_mirrored.Goals as goal

pub read_walk-requires-clause-places : goal.read_walk-requires-clause-places
read_walk-requires-clause-places g c k l =
    let at = mirrored_walk_is c.args.triangles.now c.args.row.now c.mirrored_walk-walk.result k c.mirrored_walk-walk.ensures in
    let within = (mirrored_placed c.args.triangles.now (moved_pair c.args.row.now k) c.requires.triangles (c.requires.among k l) (c.requires.mirrored k l)).within in
    omega (arith, at, within, c.requires.triangles.grid)

pub returns-clause-read : goal.returns-clause-read
returns-clause-read g c x told k l =
    let short : k < length c.read_walk.new.words = omega (arith, l, c.turn.auto.words) in
    c.turn.ensures k l
    ∙ ap (turned c.args.triangles.now.negated)
    (c.in_ok-read_walk.ensures.read x told k short
    ∙ ap (stored_word (contents x c.args.packed.now)) (mirrored_walk_is c.args.triangles.now c.args.row.now c.mirrored_walk-walk.result k c.mirrored_walk-walk.ensures))

pub mirrored_walk-walk-requires-clause-among : goal.mirrored_walk-walk-requires-clause-among
mirrored_walk-walk-requires-clause-among g c = subst (IsAmong c.args.triangles.now) (moved_nowhere c.args.row.now) (c.requires.among 0 (number_left (length c.args.words.now) _ c.is_empty.ensures c.if-is_empty.false))

pub mirrored_walk-walk-requires-clause-mirrored : goal.mirrored_walk-walk-requires-clause-mirrored
mirrored_walk-walk-requires-clause-mirrored g c = subst (λ (p : Pair). IsMirrored p) (moved_nowhere c.args.row.now) (c.requires.mirrored 0 (number_left (length c.args.words.now) _ c.is_empty.ensures c.if-is_empty.false))

pub read_walk-requires-clause-count : goal.read_walk-requires-clause-count
read_walk-requires-clause-count g c = omega (arith, c.requires.triangles.grid, c.requires.triangles.small)

pub read_walk-requires-clause-file : goal.read_walk-requires-clause-file
read_walk-requires-clause-file g c = λ x told.
    subst (λ (n : ℕ). IsSomeAnd (file x c.args.packed.now) (λ (bytes : List ℕ). length bytes ≡ 32 + 8 * n)) (sym c.requires.triangles.grid) (c.requires.file x told)

pub returns-clause-lines : goal.returns-clause-lines
returns-clause-lines g c = c.in_ok-read_walk.ensures.lines

pub returns-clause-same : goal.returns-clause-same
returns-clause-same g c = c.in_ok-read_walk.ensures.same

pub returns-clause-fault_reported : goal.returns-clause-fault_reported
returns-clause-fault_reported g c = record {
  cause = record { later = c.in_ok-read_walk.ensures.fault_reported.cause.later; rose = λ e. absurd (false≢true e) };
  quiet = λ _. c.in_ok-read_walk.ensures.fault_reported.quiet false≢true;
}

pub returns-then-is_empty-clause-lines : goal.returns-then-is_empty-clause-lines
returns-then-is_empty-clause-lines g c = c.requires.lines

pub returns-then-is_empty-clause-same : goal.returns-then-is_empty-clause-same
returns-then-is_empty-clause-same g c = refl

pub returns-then-is_empty-clause-fault_reported : goal.returns-then-is_empty-clause-fault_reported
returns-then-is_empty-clause-fault_reported g c = record {
  cause = no_cause (g.D.Disk.faults c.args.disk.now) (g.D.Disk.faults c.args.disk.now) refl false≢true;
  quiet = λ fine. refl;
}

pub mirrored_walk-walk-requires-clause-triangles : goal.mirrored_walk-walk-requires-clause-triangles
mirrored_walk-walk-requires-clause-triangles g c = c.requires.triangles

pub read_walk-requires-clause-room : goal.read_walk-requires-clause-room
read_walk-requires-clause-room g c = c.requires.room

pub read_walk-requires-clause-few : goal.read_walk-requires-clause-few
read_walk-requires-clause-few g c = c.requires.few

pub read_walk-requires-clause-lines : goal.read_walk-requires-clause-lines
read_walk-requires-clause-lines g c = c.requires.lines

pub returns-in_err-read_walk-clause-read : goal.returns-in_err-read_walk-clause-read
returns-in_err-read_walk-clause-read g c = IfOk-from_err c.from_residual.result _ c.from_residual.ensures.0

pub returns-in_err-read_walk-clause-lines : goal.returns-in_err-read_walk-clause-lines
returns-in_err-read_walk-clause-lines g c = IfOk-from_err c.from_residual.result _ c.from_residual.ensures.0

pub returns-in_err-read_walk-clause-same : goal.returns-in_err-read_walk-clause-same
returns-in_err-read_walk-clause-same g c = c.read_walk.ensures.same

pub returns-in_err-read_walk-clause-fault_reported : goal.returns-in_err-read_walk-clause-fault_reported
returns-in_err-read_walk-clause-fault_reported g c = record {
  cause = failed_after (g.D.Disk.faults c.args.disk.now) (g.D.Disk.faults c.args.disk.now) (g.D.Disk.faults c.read_walk.new.disk) refl c.in_err-read_walk.ensures.fault_reported.cause;
  quiet = λ fine. absurd (fine c.from_residual.ensures.0);
}
