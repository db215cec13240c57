use Rattle.std.proofs.Common.{◌≡◌, ◌+◌, ◌*◌, ◌<◌, ◌≤◌, ◌∙◌, ap, sym, subst, true, length, arith}
use Rattle.std.proofs.lemmas.Result.{IfOk-from_err}
use Rattle.tce_space.specs.Tiling.{tile_words, tiles, padded_words}
use Rattle.tce_outside.specs.Files.{others}
use Rattle.tce_outside.proofs.Causes.{cause_of}
use Rattle.tce_cache.specs.declared.array.ArrayRef.{ArrayRef}
use Rattle.tce_cache.specs.Transfer.{HasFile}
use Rattle.tce_cache.specs.Cache.{State, IsCache, words_of_tile}
use Rattle.tce_cache.proofs.Tiles.{array_low, array_at, run_written, writes_differ}
use Rattle.tce_cache.proofs.Runs.{run_exists, run_writable, run_has_file, run_inside, run_low, run_room}
use Rattle.tce_cache.proofs.cache.Cache.write_run.Goals as goal

pub index-array-requires : goal.index-array-requires
index-array-requires g c =
    let is : IsCache c.args.self.now = subst IsCache c.self.view_is c.self.invariant.cache in
    let low = array_low (λ (x : ArrayRef). c.args.run.tile < tiles x.shape) c.args.self.now.arrays c.args.run.array (run_exists c.args.self.now c.args.run is c.requires.run) in
    let same : length c.self.inside.arrays.items ≡ length c.args.self.now.arrays = ap (λ (z : State). length z.arrays) c.self.view_is in
    omega (arith, low, same)

pub overflow_mul-span : goal.overflow_mul-span
overflow_mul-span g c =
    let is : IsCache c.args.self.now = subst IsCache c.self.view_is c.self.invariant.cache in
    let a = c.index-array.result.now in
    let here = array_at (λ (x : ArrayRef). c.args.run.tile < tiles x.shape) c.self.inside.arrays.items c.args.self.now.arrays c.args.run.array a (ap (λ (s : State). s.arrays) c.self.view_is) (run_exists c.args.self.now c.args.run is c.requires.run) c.index-array.ensures in
    let inside = run_inside c.args.self.now a c.args.run is c.requires.run here.0 in
    let n : c.tile_words-n.result * c.args.run.tile ≡ tile_words a.shape * c.args.run.tile = ap (λ m. m * c.args.run.tile) c.tile_words-n.ensures.words in
    omega (arith, inside, n, c.tile_words-n.ensures.limits.room)

pub place-at-requires-clause-frame : goal.place-at-requires-clause-frame
place-at-requires-clause-frame g c =
    let low = run_low c.args.self.now c.args.run (subst IsCache c.self.view_is c.self.invariant.cache) c.requires.run in
    omega (arith, low, c.requires.run.some)

pub place-at-requires-clause-bounded : goal.place-at-requires-clause-bounded
place-at-requires-clause-bounded g c = omega (arith, c.requires.room, c.requires.bounded)

pub overflow_mul-span-2 : goal.overflow_mul-span-2
overflow_mul-span-2 g c =
    let is : IsCache c.args.self.now = subst IsCache c.self.view_is c.self.invariant.cache in
    let a = c.index-array.result.now in
    let here = array_at (λ (x : ArrayRef). c.args.run.tile < tiles x.shape) c.self.inside.arrays.items c.args.self.now.arrays c.args.run.array a (ap (λ (s : State). s.arrays) c.self.view_is) (run_exists c.args.self.now c.args.run is c.requires.run) c.index-array.ensures in
    let inside = run_inside c.args.self.now a c.args.run is c.requires.run here.0 in
    let n : c.tile_words-n.result * c.args.run.n ≡ tile_words a.shape * c.args.run.n = ap (λ m. m * c.args.run.n) c.tile_words-n.ensures.words in
    omega (arith, inside, n, c.tile_words-n.ensures.limits.room)

pub write_words-requires-clause-one : goal.write_words-requires-clause-one
write_words-requires-clause-one g c =
    let is : IsCache c.args.self.now = subst IsCache c.self.view_is c.self.invariant.cache in
    let a = c.index-array.result.now in
    let here = array_at (λ (x : ArrayRef). x.writable ≡ true) c.self.inside.arrays.items c.args.self.now.arrays c.args.run.array a (ap (λ (s : State). s.arrays) c.self.view_is) (run_writable c.args.self.now c.args.run is c.requires.run) c.index-array.ensures in
    is.arrays.form c.args.run.array a here.0 here.1

pub write_words-requires-clause-limits : goal.write_words-requires-clause-limits
write_words-requires-clause-limits g c = c.tile_words-n.ensures.limits

pub write_words-requires-clause-bounded : goal.write_words-requires-clause-bounded
write_words-requires-clause-bounded g c = c.requires.bounded

pub write_words-requires-clause-inside : goal.write_words-requires-clause-inside
write_words-requires-clause-inside g c =
    let is : IsCache c.args.self.now = subst IsCache c.self.view_is c.self.invariant.cache in
    let a = c.index-array.result.now in
    let here = array_at (λ (x : ArrayRef). c.args.run.tile < tiles x.shape) c.self.inside.arrays.items c.args.self.now.arrays c.args.run.array a (ap (λ (s : State). s.arrays) c.self.view_is) (run_exists c.args.self.now c.args.run is c.requires.run) c.index-array.ensures in
    subst (λ n. n * c.args.run.tile + n * c.args.run.n ≤ padded_words a.shape) (sym c.tile_words-n.ensures.words) (run_inside c.args.self.now a c.args.run is c.requires.run here.0)

pub write_words-requires-clause-room : goal.write_words-requires-clause-room
write_words-requires-clause-room g c =
    let now = c.args.self.now in
    let is : IsCache now = subst IsCache c.self.view_is c.self.invariant.cache in
    let a = c.index-array.result.now in
    let here = array_at (λ (x : ArrayRef). c.args.run.tile < tiles x.shape) c.self.inside.arrays.items now.arrays c.args.run.array a (ap (λ (s : State). s.arrays) c.self.view_is) (run_exists now c.args.run is c.requires.run) c.index-array.ensures in
    let fits : c.tile_words-n.result ≤ now.frame_words = omega (arith, c.tile_words-n.ensures.words, is.arrays.fit c.args.run.array a here.0) in
    let room = run_room now c.args.words.now c.args.run c.tile_words-n.result is c.requires.run (c.tile_words-n.ensures.words ∙ sym (ap words_of_tile here.0)) fits c.requires.room in
    subst (λ p. p + c.tile_words-n.result * c.args.run.n ≤ length c.args.words.now) (sym c.place-at.ensures) room

pub write_words-requires-clause-file : goal.write_words-requires-clause-file
write_words-requires-clause-file g c x told =
    let now = c.args.self.now in
    (array_at (λ (b : ArrayRef). HasFile b x) c.self.inside.arrays.items now.arrays c.args.run.array c.index-array.result.now (ap (λ (s : State). s.arrays) c.self.view_is) (run_has_file now c.args.run x c.args.words.now (c.requires.ready x told) c.requires.run) c.index-array.ensures).1

pub returns-in_err-write_words-clause-others : goal.returns-in_err-write_words-clause-others
returns-in_err-write_words-clause-others g c =
    let now = c.args.self.now in
    let is : IsCache now = subst IsCache c.self.view_is c.self.invariant.cache in
    let a = c.index-array.result.now in
    let here = array_at (λ (x : ArrayRef). x.writable ≡ true) c.self.inside.arrays.items now.arrays c.args.run.array a (ap (λ (s : State). s.arrays) c.self.view_is) (run_writable now c.args.run is c.requires.run) c.index-array.ensures in
    writes_differ now a c.args.run.array _ _ here.0 here.1 c.write_words.ensures.others c.write_words.ensures.begins

pub returns-clause-written : goal.returns-clause-written
returns-clause-written g c x told y after =
    let now = c.args.self.now in
    let is : IsCache now = subst IsCache c.self.view_is c.self.invariant.cache in
    let a = c.index-array.result.now in
    let here = array_at (λ (b : ArrayRef). HasFile b x) c.self.inside.arrays.items now.arrays c.args.run.array a (ap (λ (s : State). s.arrays) c.self.view_is) (run_has_file now c.args.run x c.args.words.now (c.requires.ready x told) c.requires.run) c.index-array.ensures in
    run_written now a x y c.args.run c.tile_words-n.result c.place-at.result c.args.words.now is.arrays c.requires.run here.0 c.tile_words-n.ensures.words c.place-at.ensures here.1
    (ap (others a.file.bytes) (sym after) ∙ c.in_ok-write_words.ensures.others ∙ ap (others a.file.bytes) told)
    (c.in_ok-write_words.ensures.written x told y after)

pub returns-clause-others : goal.returns-clause-others
returns-clause-others g c =
    let now = c.args.self.now in
    let is : IsCache now = subst IsCache c.self.view_is c.self.invariant.cache in
    let a = c.index-array.result.now in
    let here = array_at (λ (x : ArrayRef). x.writable ≡ true) c.self.inside.arrays.items now.arrays c.args.run.array a (ap (λ (s : State). s.arrays) c.self.view_is) (run_writable now c.args.run is c.requires.run) c.index-array.ensures in
    writes_differ now a c.args.run.array _ _ here.0 here.1 c.write_words.ensures.others c.write_words.ensures.begins

pub returns-in_err-write_words-clause-written : goal.returns-in_err-write_words-clause-written
returns-in_err-write_words-clause-written g c = IfOk-from_err c.from_residual.result _ c.from_residual.ensures.0

pub returns-in_err-write_words-clause-fault_reported : goal.returns-in_err-write_words-clause-fault_reported
returns-in_err-write_words-clause-fault_reported g c = record {
  cause = cause_of (g.D.Disk.faults c.args.disk.now) (g.D.Disk.faults c.write_words.new.disk) c.in_err-write_words.ensures.fault_reported.cause;
  quiet = λ none. absurd (none c.from_residual.ensures.0);
}

pub returns-clause-fault_reported : goal.returns-clause-fault_reported
returns-clause-fault_reported g c = c.in_ok-write_words.ensures.fault_reported
