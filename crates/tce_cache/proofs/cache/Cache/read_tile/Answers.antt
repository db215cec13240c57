use Rattle.std.proofs.Common.{◌≡◌, ◌+◌, ◌*◌, ◌<◌, ◌≤◌, length, ap, sym, subst, arith}
use Rattle.std.proofs.lemmas.Result.{IfOk-from_err}
use Rattle.tce_outside.proofs.Causes.{cause_of}
use Rattle.tce_space.specs.Tiling.{tile_words, tiles, padded_words}
use Rattle.tce_cache.specs.declared.array.ArrayRef.{ArrayRef}
use Rattle.tce_cache.specs.Transfer.{HasFile}
use Rattle.tce_cache.specs.Cache.{State, IsCache}
use Rattle.tce_cache.proofs.Tiles.{array_low, array_at, at_array, tile_room, frame_room, inside_frame, tile_read}
use Rattle.tce_cache.proofs.cache.Cache.read_tile.Goals as goal

pub index-array-requires : goal.index-array-requires
index-array-requires g c =
    let low = array_low (λ (x : ArrayRef). c.args.tile < tiles x.shape) c.args.self.now.arrays c.args.array c.requires.exists in
    let same : length c.self.inside.arrays.items ≡ length c.args.self.now.arrays = ap (λ (s : State). length s.arrays) c.self.view_is in
    omega (arith, low, same)

pub place-at-requires-clause-frame : goal.place-at-requires-clause-frame
place-at-requires-clause-frame g c = c.requires.frame

pub place-at-requires-clause-bounded : goal.place-at-requires-clause-bounded
place-at-requires-clause-bounded g c = omega (arith, c.requires.room, c.requires.bounded)

pub overflow_mul-span : goal.overflow_mul-span
overflow_mul-span g c =
    let a = c.index-array.result.now in
    let here = array_at (λ (x : ArrayRef). c.args.tile < tiles x.shape) c.self.inside.arrays.items c.args.self.now.arrays c.args.array a (ap (λ (s : State). s.arrays) c.self.view_is) c.requires.exists c.index-array.ensures in
    let room = tile_room a.shape c.args.tile here.1 in
    let n : c.tile_words-n.result * c.args.tile ≡ tile_words a.shape * c.args.tile = ap (λ m. m * c.args.tile) c.tile_words-n.ensures.words in
    omega (arith, room, n, c.tile_words-n.ensures.limits.room)

pub read_words-requires-clause-limits : goal.read_words-requires-clause-limits
read_words-requires-clause-limits g c = c.tile_words-n.ensures.limits

pub read_words-requires-clause-bounded : goal.read_words-requires-clause-bounded
read_words-requires-clause-bounded g c = c.requires.bounded

pub read_words-requires-clause-inside : goal.read_words-requires-clause-inside
read_words-requires-clause-inside g c =
    let a = c.index-array.result.now in
    let here = array_at (λ (x : ArrayRef). c.args.tile < tiles x.shape) c.self.inside.arrays.items c.args.self.now.arrays c.args.array a (ap (λ (s : State). s.arrays) c.self.view_is) c.requires.exists c.index-array.ensures in
    subst (λ n. n * c.args.tile + n ≤ padded_words a.shape) (sym c.tile_words-n.ensures.words) (tile_room a.shape c.args.tile here.1)

pub read_words-requires-clause-room : goal.read_words-requires-clause-room
read_words-requires-clause-room g c =
    let a = c.index-array.result.now in
    let here = array_at (λ (x : ArrayRef). c.args.tile < tiles x.shape) c.self.inside.arrays.items c.args.self.now.arrays c.args.array a (ap (λ (s : State). s.arrays) c.self.view_is) c.requires.exists c.index-array.ensures in
    let fits : c.tile_words-n.result ≤ c.args.self.now.frame_words = omega (arith, c.tile_words-n.ensures.words, (subst IsCache c.self.view_is c.self.invariant.cache).arrays.fit c.args.array a here.0) in
    let room = frame_room c.args.self.now c.args.words.now c.args.frame c.tile_words-n.result c.requires.frame fits c.requires.room in
    omega (arith, room, c.place-at.ensures)

pub read_words-requires-clause-file : goal.read_words-requires-clause-file
read_words-requires-clause-file g c x told =
    let a = c.index-array.result.now in
    let here = array_at (λ (x : ArrayRef). c.args.tile < tiles x.shape) c.self.inside.arrays.items c.args.self.now.arrays c.args.array a (ap (λ (s : State). s.arrays) c.self.view_is) c.requires.exists c.index-array.ensures in
    at_array (λ (b : ArrayRef). HasFile b x) c.args.self.now.arrays c.args.array a (c.requires.file x told) here.0

pub returns-in_err-read_words-clause-read : goal.returns-in_err-read_words-clause-read
returns-in_err-read_words-clause-read g c = IfOk-from_err c.from_residual.result _ c.from_residual.ensures.0

pub returns-in_err-read_words-clause-len : goal.returns-in_err-read_words-clause-len
returns-in_err-read_words-clause-len g c = c.read_words.ensures.len

pub returns-in_err-read_words-clause-same : goal.returns-in_err-read_words-clause-same
returns-in_err-read_words-clause-same g c = c.read_words.ensures.same

pub returns-in_err-read_words-clause-fault_reported : goal.returns-in_err-read_words-clause-fault_reported
returns-in_err-read_words-clause-fault_reported g c = record {
  cause = cause_of (g.D.Disk.faults c.args.disk.now) (g.D.Disk.faults c.read_words.new.disk) c.in_err-read_words.ensures.fault_reported.cause;
  quiet = λ none. absurd (none c.from_residual.ensures.0);
}

pub returns-in_err-read_words-clause-others : goal.returns-in_err-read_words-clause-others
returns-in_err-read_words-clause-others g c =
    let a = c.index-array.result.now in
    let here = array_at (λ (x : ArrayRef). c.args.tile < tiles x.shape) c.self.inside.arrays.items c.args.self.now.arrays c.args.array a (ap (λ (s : State). s.arrays) c.self.view_is) c.requires.exists c.index-array.ensures in
    let fits : c.tile_words-n.result ≤ c.args.self.now.frame_words = omega (arith, c.tile_words-n.ensures.words, (subst IsCache c.self.view_is c.self.invariant.cache).arrays.fit c.args.array a here.0) in
    inside_frame c.args.self.now c.args.frame c.tile_words-n.result c.place-at.result c.args.words.now c.read_words.new.words fits c.place-at.ensures c.read_words.ensures.others

pub returns-clause-read : goal.returns-clause-read
returns-clause-read g c x told =
    let a = c.index-array.result.now in
    let here = array_at (λ (x : ArrayRef). c.args.tile < tiles x.shape) c.self.inside.arrays.items c.args.self.now.arrays c.args.array a (ap (λ (s : State). s.arrays) c.self.view_is) c.requires.exists c.index-array.ensures in
    tile_read c.args.self.now a x c.args.array c.args.tile c.args.frame c.tile_words-n.result c.place-at.result c.read_words.new.words here.0 c.tile_words-n.ensures.words c.place-at.ensures (c.in_ok-read_words.ensures.read x told)

pub returns-clause-others : goal.returns-clause-others
returns-clause-others g c =
    let a = c.index-array.result.now in
    let here = array_at (λ (x : ArrayRef). c.args.tile < tiles x.shape) c.self.inside.arrays.items c.args.self.now.arrays c.args.array a (ap (λ (s : State). s.arrays) c.self.view_is) c.requires.exists c.index-array.ensures in
    let fits : c.tile_words-n.result ≤ c.args.self.now.frame_words = omega (arith, c.tile_words-n.ensures.words, (subst IsCache c.self.view_is c.self.invariant.cache).arrays.fit c.args.array a here.0) in
    inside_frame c.args.self.now c.args.frame c.tile_words-n.result c.place-at.result c.args.words.now c.read_words.new.words fits c.place-at.ensures c.in_ok-read_words.ensures.others

pub returns-clause-len : goal.returns-clause-len
returns-clause-len g c = c.read_words.ensures.len

pub returns-clause-same : goal.returns-clause-same
returns-clause-same g c = c.read_words.ensures.same

pub returns-clause-fault_reported : goal.returns-clause-fault_reported
returns-clause-fault_reported g c = c.in_ok-read_words.ensures.fault_reported
