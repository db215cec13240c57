use Rattle.std.proofs.Common.{◌≡◌, ◌∙◌, ◌+◌, ◌*◌, List, ℕ, length, sym, ap, subst, arith, refl}
use Rattle.std.specs.Option.{IsSomeAnd}
use Rattle.std.proofs.lemmas.Bool.{false≢true}
use Rattle.std.proofs.lemmas.Result.{on_ok_weaker}
use Rattle.tce_outside.specs.Files.{file}
use Rattle.tce_outside.proofs.Causes.{no_cause}
use Rattle.tce_tools.specs.Flat.{contents}
use Rattle.tce_sym.specs.declared.cells.Pair.{Pair}
use Rattle.tce_sym.specs.Storage.{stored_word}
use Rattle.tce_sym.specs.Cells.{IsAmong, IsStoredPair, moved_pair}
use Rattle.tce_sym.proofs.FullCells.{pair_placed}
use Rattle.tce_sym.proofs.Walked.{walk_is, moved_nowhere, number_left}
use Rattle.tce_sym.proofs.rows.read_stored.Goals as goal

pub stored_walk-walk-requires-clause-among : goal.stored_walk-walk-requires-clause-among
stored_walk-walk-requires-clause-among g c = subst (IsAmong c.args.triangles.now) (moved_nowhere c.args.row.now) (c.requires.among 0 (number_left (length c.args.words.now) _ c.is_empty.ensures c.if-is_empty.false))

pub stored_walk-walk-requires-clause-stored : goal.stored_walk-walk-requires-clause-stored
stored_walk-walk-requires-clause-stored g c =
    subst (λ (p : Pair). IsStoredPair c.args.triangles.now.negated p) (moved_nowhere c.args.row.now) (c.requires.stored 0 (number_left (length c.args.words.now) _ c.is_empty.ensures c.if-is_empty.false))

pub read_walk-requires-clause-count : goal.read_walk-requires-clause-count
read_walk-requires-clause-count g c = omega (arith, c.requires.triangles.grid, c.requires.triangles.small)

pub read_walk-requires-clause-file : goal.read_walk-requires-clause-file
read_walk-requires-clause-file g c = λ x told.
    subst (λ (n : ℕ). IsSomeAnd (file x c.args.packed.now) (λ (bytes : List ℕ). length bytes ≡ 32 + 8 * n)) (sym c.requires.triangles.grid) (c.requires.file x told)

pub read_walk-requires-clause-places : goal.read_walk-requires-clause-places
read_walk-requires-clause-places g c k l =
    let at = walk_is c.args.triangles.now c.args.row.now c.stored_walk-walk.result k c.stored_walk-walk.ensures in
    let within = (pair_placed c.args.triangles.now (moved_pair c.args.row.now k) c.requires.triangles (c.requires.among k l) (c.requires.stored k l)).within in
    omega (arith, at, within, c.requires.triangles.grid)

pub returns-clause-read : goal.returns-clause-read
returns-clause-read g c =
    on_ok_weaker c.read_walk.result
    (λ read. λ x told k l.
    read x told k l
    ∙ ap (stored_word (contents x c.args.packed.now)) (walk_is c.args.triangles.now c.args.row.now c.stored_walk-walk.result k c.stored_walk-walk.ensures))
    c.read_walk.ensures.read

pub returns-clause-lines : goal.returns-clause-lines
returns-clause-lines g c = c.read_walk.ensures.lines

pub returns-clause-same : goal.returns-clause-same
returns-clause-same g c = c.read_walk.ensures.same

pub returns-clause-fault_reported : goal.returns-clause-fault_reported
returns-clause-fault_reported g c = c.read_walk.ensures.fault_reported

pub returns-then-is_empty-clause-lines : goal.returns-then-is_empty-clause-lines
returns-then-is_empty-clause-lines g c = c.requires.lines

pub returns-then-is_empty-clause-same : goal.returns-then-is_empty-clause-same
returns-then-is_empty-clause-same g c = refl

pub returns-then-is_empty-clause-fault_reported : goal.returns-then-is_empty-clause-fault_reported
returns-then-is_empty-clause-fault_reported g c = record {
  cause = no_cause (g.D.Disk.faults c.args.disk.now) (g.D.Disk.faults c.args.disk.now) refl false≢true;
  quiet = λ fine. refl;
}

pub stored_walk-walk-requires-clause-triangles : goal.stored_walk-walk-requires-clause-triangles
stored_walk-walk-requires-clause-triangles g c = c.requires.triangles

pub read_walk-requires-clause-room : goal.read_walk-requires-clause-room
read_walk-requires-clause-room g c = c.requires.room

pub read_walk-requires-clause-few : goal.read_walk-requires-clause-few
read_walk-requires-clause-few g c = c.requires.few

pub read_walk-requires-clause-lines : goal.read_walk-requires-clause-lines
read_walk-requires-clause-lines g c = c.requires.lines
