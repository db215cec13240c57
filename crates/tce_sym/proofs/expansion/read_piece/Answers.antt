use Rattle.std.proofs.Common.{◌≡◌, ◌∙◌, ◌+◌, ◌-◌, ◌<◌, ℕ, List, length, take, drop, refl, sym, subst, arith}
use Rattle.std.proofs.lemmas.List.{length-take-le, length-drop}
use Rattle.tce_space.specs.Box.{IsInside}
use Rattle.tce_space.specs.Tiling.{Tiling}
use Rattle.tce_outside.specs.Files.{file}
use Rattle.tce_outside.proofs.Causes.{failed_after}
use Rattle.tce_tools.specs.Flat.{contents}
use Rattle.tce_tools.specs.Runs.{moved}
use Rattle.tce_sym.specs.Storage.{full_cell}
use Rattle.tce_sym.specs.Cells.{moved_pair}
use Rattle.tce_sym.specs.Lines.{HasRoom}
use Rattle.tce_sym.specs.TileRows.{AreWords}
use Rattle.tce_sym.proofs.StoredReads.{words_stored}
use Rattle.tce_sym.proofs.FullCells.{among, cell_is}
use Rattle.tce_sym.proofs.Moved.{moved_is}
use Rattle.tce_sym.proofs.WordCoords.{moved_none}
use Rattle.tce_sym.proofs.Pieces.{none_filled, more_filled}
use Rattle.std.proofs.lemmas.Result.{IfOk-from_err}
use Rattle.std.proofs.lemmas.Bool.{false≢true}
use Rattle.tce_sym.proofs.expansion.read_piece.Goals as goal

pub loop-filled-init : goal.loop-filled-init
loop-filled-init g c = record {
  filled = omega arith;
  read = λ x told. none_filled c.args.source.now.shape.now (full_cell c.args.source.now.shape.now.extents c.args.source.now.s.now (contents x c.args.source.now.packed.now)) c.args.start (length c.args.words.now) c.clear.new.words c.clear.ensures;
  lines = c.requires.lines;
  files = refl;
  later = omega arith;
  counted = refl;
}

pub row_of-row-requires-clause-inside : goal.row_of-row-requires-clause-inside
row_of-row-requires-clause-inside g c = λ some.
    subst (IsInside c.args.source.now.shape.now.extents) (moved_none c.tile_row_at-tile_row.result.coords.items) (c.tile_row_at-tile_row.ensures.row.inside 0 some)

pub read_row-requires-clause-among : goal.read_row-requires-clause-among
read_row-requires-clause-among g c k short =
    let xs : List ℕ = c.tile_row_at-tile_row.result.coords.items in
    let n : ℕ = c.loop-filled.filled + c.min-used.result - c.loop-filled.filled in
    let part : length (take n (drop c.loop-filled.filled c.loop-filled.words)) ≡ n =
    length-take-le n (drop c.loop-filled.filled c.loop-filled.words) (omega (arith, length-drop c.loop-filled.filled c.loop-filled.words, c.loop-filled-test.true, c.min-len.ensures, c.min-used.ensures)) in
    let within : k < c.tile_row_at-tile_row.result.used = omega (arith, part, short, c.min-used.ensures) in
    let some : 0 < c.tile_row_at-tile_row.result.used = omega (arith, within) in
    let first : IsInside c.args.source.now.shape.now.extents xs = subst (IsInside c.args.source.now.shape.now.extents) (moved_none xs) (c.tile_row_at-tile_row.ensures.row.inside 0 some) in
    among c.args.source.now.shape.now.extents c.args.source.now.s.now (moved xs k) c.args.source.now.triangles.now (moved_pair c.row_of-row.result k) c.requires.right (c.tile_row_at-tile_row.ensures.row.inside k within) c.requires.of
    (moved_is c.args.source.now.shape.now.extents c.args.source.now.s.now xs c.row_of-row.result k c.requires.right first (c.row_of-row.ensures.pair some) (c.row_of-row.ensures.second some) (c.row_of-row.ensures.other some))

pub loop-filled-smaller : goal.loop-filled-smaller
loop-filled-smaller g c = omega (arith, c.tile_row_at-tile_row.ensures.row.some, c.min-len.ensures, c.loop-filled-test.true, c.loop-filled.auto.words)

pub loop-filled-preserved : goal.loop-filled-preserved
loop-filled-preserved g c =
    let s : Tiling = c.args.source.now.shape.now in
    let ns : List ℕ = c.args.source.now.shape.now.extents in
    let xs : List ℕ = c.tile_row_at-tile_row.result.coords.items in
    let n : ℕ = c.loop-filled.filled + c.min-used.result - c.loop-filled.filled in
    let part : length (take n (drop c.loop-filled.filled c.loop-filled.words)) ≡ n =
    length-take-le n (drop c.loop-filled.filled c.loop-filled.words) (omega (arith, length-drop c.loop-filled.filled c.loop-filled.words, c.loop-filled-test.true, c.min-len.ensures, c.min-used.ensures)) in
    let size : length c.read_row.new.words ≡ c.min-used.result = omega (arith, c.read_row.auto.words, part) in
    let pair_at : (k : ℕ) (within : k < c.tile_row_at-tile_row.result.used) → _ = λ k within.
    let some : 0 < c.tile_row_at-tile_row.result.used = omega (arith, within) in
    moved_is c.args.source.now.shape.now.extents c.args.source.now.s.now xs c.row_of-row.result k c.requires.right (subst (IsInside c.args.source.now.shape.now.extents) (moved_none xs) (c.tile_row_at-tile_row.ensures.row.inside 0 some))
    (c.row_of-row.ensures.pair some) (c.row_of-row.ensures.second some) (c.row_of-row.ensures.other some) in
    record {
      filled = omega (arith, c.min-len.ensures, c.loop-filled-test.true, c.loop-filled.auto.words);
      read = λ x told.
          let bytes : List ℕ = contents x c.args.source.now.packed.now in
          let values = c.in_ok-read_row.ensures.read x (c.loop-filled.invariant.files ∙ told) in
          more_filled s (full_cell ns c.args.source.now.s.now bytes) c.args.start c.loop-filled.filled c.min-len.result c.min-used.result c.tile_row_at-tile_row.result c.loop-filled.words c.read_row.new.words
          c.tile_row_at-tile_row.ensures.limits c.tile_row_at-tile_row.ensures.row (omega (arith, c.min-len.ensures)) c.min-used.ensures size (omega (arith, c.min-len.ensures, c.loop-filled-test.true))
          (λ k short.
          let within : k < c.tile_row_at-tile_row.result.used = omega (arith, short, c.min-used.ensures) in
          values k (omega (arith, size, short))
          ∙ cell_is ns c.args.source.now.s.now bytes (moved xs k) c.args.source.now.triangles.now (moved_pair c.row_of-row.result k) c.requires.right (c.tile_row_at-tile_row.ensures.row.inside k within)
          c.requires.triangles c.requires.of (pair_at k within))
          (c.loop-filled.invariant.read x told);
      lines = λ x told. c.in_ok-read_row.ensures.lines x (c.loop-filled.invariant.files ∙ told);
      files = c.in_ok-read_row.ensures.same ∙ c.loop-filled.invariant.files;
      later = omega (arith, c.in_ok-read_row.ensures.fault_reported.cause.later, c.loop-filled.invariant.later);
      counted = c.in_ok-read_row.ensures.fault_reported.quiet false≢true ∙ c.loop-filled.invariant.counted;
    }

pub returns-clause-read : goal.returns-clause-read
returns-clause-read g c = λ x told.
    let all : c.loop-filled.filled ≡ length c.args.words.now = omega (arith, c.loop-filled.invariant.filled, c.loop-filled-test.false, c.loop-filled.auto.words) in
    subst (λ n. AreWords c.args.source.now.shape.now (full_cell c.args.source.now.shape.now.extents c.args.source.now.s.now (contents x c.args.source.now.packed.now)) c.args.start n c.loop-filled.words) all (c.loop-filled.invariant.read x told).values

pub returns-clause-fault_reported : goal.returns-clause-fault_reported
returns-clause-fault_reported g c = record {
  cause = record { later = c.loop-filled.invariant.later; rose = λ e. absurd (false≢true e) };
  quiet = λ _. c.loop-filled.invariant.counted;
}

pub tile_row_at-tile_row-requires-clause-rank : goal.tile_row_at-tile_row-requires-clause-rank
tile_row_at-tile_row-requires-clause-rank g c = omega (arith, c.requires.right.ordered, c.requires.right.inside)

pub read_row-requires-clause-file : goal.read_row-requires-clause-file
read_row-requires-clause-file g c = λ x told.
    words_stored c.args.source.now.shape.now.extents c.args.source.now.s.now c.args.source.now.triangles.now.count (file x c.args.source.now.packed.now) c.requires.count (c.requires.file x (sym c.loop-filled.invariant.files ∙ told))

pub read_row-requires-clause-room : goal.read_row-requires-clause-room
read_row-requires-clause-room g c =
    subst (λ (n : ℕ). HasRoom c.args.source.now.triangles.now.slots.grid.layout c.args.source.now.triangles.now.slots.grid n) (sym c.loop-filled.auto.lines) c.requires.room

pub read_row-requires-clause-lines : goal.read_row-requires-clause-lines
read_row-requires-clause-lines g c = λ x told. c.loop-filled.invariant.lines x (sym c.loop-filled.invariant.files ∙ told)

pub returns-in_err-read_row-clause-same : goal.returns-in_err-read_row-clause-same
returns-in_err-read_row-clause-same g c = c.read_row.ensures.same ∙ c.loop-filled.invariant.files

pub returns-clause-lines : goal.returns-clause-lines
returns-clause-lines g c = c.loop-filled.invariant.lines

pub returns-clause-same : goal.returns-clause-same
returns-clause-same g c = c.loop-filled.invariant.files

pub row_of-row-requires-clause-right : goal.row_of-row-requires-clause-right
row_of-row-requires-clause-right g c = c.requires.right

pub read_row-requires-clause-triangles : goal.read_row-requires-clause-triangles
read_row-requires-clause-triangles g c = c.requires.triangles

pub returns-in_err-read_row-clause-read : goal.returns-in_err-read_row-clause-read
returns-in_err-read_row-clause-read g c = IfOk-from_err c.from_residual.result _ c.from_residual.ensures.0

pub returns-in_err-read_row-clause-lines : goal.returns-in_err-read_row-clause-lines
returns-in_err-read_row-clause-lines g c = IfOk-from_err c.from_residual.result _ c.from_residual.ensures.0

pub returns-in_err-read_row-clause-fault_reported : goal.returns-in_err-read_row-clause-fault_reported
returns-in_err-read_row-clause-fault_reported g c = record {
  cause = failed_after (g.D.Disk.faults c.args.disk.now) (g.D.Disk.faults c.loop-filled.disk) (g.D.Disk.faults c.read_row.new.disk) c.loop-filled.invariant.counted c.in_err-read_row.ensures.fault_reported.cause;
  quiet = λ fine. absurd (fine c.from_residual.ensures.0);
}
