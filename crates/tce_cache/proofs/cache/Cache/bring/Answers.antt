use Rattle.std.proofs.Common.{◌≡◌, ◌∙◌, ◌+◌, ◌<◌, ℕ, ap, sym, subst, slice_get, slice_index}
use Rattle.std.proofs.lemmas.Result.{IfOk-from_err}
use Rattle.std.proofs.lemmas.Bool.{false≢true}
use Rattle.tce_cache.specs.Held.{Held}
use Rattle.tce_cache.specs.Current.{place, IsSameOutside}
use Rattle.tce_outside.proofs.Causes.{cause_of, failed_after, no_cause}
use Rattle.tce_cache.specs.declared.array.ArrayRef.{ArrayRef}
use Rattle.tce_cache.specs.Transfer.{HasFile}
use Rattle.tce_cache.specs.Cache.{State, IsCache, Exists, HasRoom, OnlyWritableDiffers, IsArrayAt, layout, stored, words_of_tile}
use Rattle.tce_cache.specs.Touch.{IsPlaced, IsSameArrays, with_held}
use Rattle.tce_cache.proofs.Counted.{nothing_outside}
use Rattle.tce_cache.proofs.Tiles.{outside_frames, told_from}
use Rattle.tce_cache.proofs.Steps.{has_after, same_brought}
use Rattle.tce_cache.proofs.cache.Cache.bring.Goals as goal

pub take_frame-requires-clause-exists : goal.take_frame-requires-clause-exists
take_frame-requires-clause-exists g c = c.requires.exists

pub take_frame-requires-clause-absent : goal.take_frame-requires-clause-absent
take_frame-requires-clause-absent g c = c.requires.absent

pub take_frame-requires-clause-writable : goal.take_frame-requires-clause-writable
take_frame-requires-clause-writable g c = c.requires.writable

pub take_frame-requires-clause-room : goal.take_frame-requires-clause-room
take_frame-requires-clause-room g c = c.requires.room

pub take_frame-requires-clause-bounded : goal.take_frame-requires-clause-bounded
take_frame-requires-clause-bounded g c = c.requires.bounded

pub take_frame-requires-clause-ready : goal.take_frame-requires-clause-ready
take_frame-requires-clause-ready g c x told = (c.requires.ready x told).0

pub returns-in_err-frame-clause-placed : goal.returns-in_err-frame-clause-placed
returns-in_err-frame-clause-placed g c = IfOk-from_err c.from_residual.result _ c.from_residual.ensures.0

pub returns-in_err-frame-clause-arrays : goal.returns-in_err-frame-clause-arrays
returns-in_err-frame-clause-arrays g c = IfOk-from_err c.from_residual.result _ c.from_residual.ensures.0

pub returns-in_err-frame-clause-same : goal.returns-in_err-frame-clause-same
returns-in_err-frame-clause-same g c = c.take_frame.ensures.same

pub returns-in_err-frame-clause-cache : goal.returns-in_err-frame-clause-cache
returns-in_err-frame-clause-cache g c = c.take_frame.ensures.cache

pub returns-in_err-frame-clause-outside : goal.returns-in_err-frame-clause-outside
returns-in_err-frame-clause-outside g c = nothing_outside c.args.self.now c.args.words.now

pub returns-in_err-frame-clause-others : goal.returns-in_err-frame-clause-others
returns-in_err-frame-clause-others g c = c.take_frame.ensures.others

pub returns-in_err-frame-clause-fault_reported : goal.returns-in_err-frame-clause-fault_reported
returns-in_err-frame-clause-fault_reported g c = record {
  cause = cause_of (g.D.Disk.faults c.args.disk.now) (g.D.Disk.faults c.take_frame.new.disk) c.in_err-frame.ensures.fault_reported.cause;
  quiet = λ none. absurd (none c.from_residual.ensures.0);
}

pub read_tile-requires-clause-exists : goal.read_tile-requires-clause-exists
read_tile-requires-clause-exists g c = subst (λ (z : State). Exists z c.args.array c.args.tile) (sym c.in_ok-frame.ensures.same) c.requires.exists

pub read_tile-requires-clause-frame : goal.read_tile-requires-clause-frame
read_tile-requires-clause-frame g c = subst (λ (z : State). c.in_ok-frame.frame < z.frames) (sym c.in_ok-frame.ensures.same) c.in_ok-frame.ensures.placed.low

pub read_tile-requires-clause-room : goal.read_tile-requires-clause-room
read_tile-requires-clause-room g c = subst (λ (z : State). HasRoom z c.args.words.now) (sym c.in_ok-frame.ensures.same) c.requires.room

pub read_tile-requires-clause-bounded : goal.read_tile-requires-clause-bounded
read_tile-requires-clause-bounded g c = c.requires.bounded

pub read_tile-requires-clause-file : goal.read_tile-requires-clause-file
read_tile-requires-clause-file g c y now =
    let took = c.in_ok-frame.ensures in
    let before = told_from _ _ y took.others.tells now in
    let arrays = took.arrays before.0 before.1 y now in
    subst (λ l. IsArrayAt l c.args.array (λ (a : ArrayRef). HasFile a y)) (sym (ap (λ (z : State). z.arrays) took.same)) (has_after c.args.self.now before.0 y c.args.array arrays.fronts ((c.requires.ready before.0 before.1).1))

pub returns-in_err-read_tile-clause-placed : goal.returns-in_err-read_tile-clause-placed
returns-in_err-read_tile-clause-placed g c = IfOk-from_err c.from_residual-in_err-read_tile.result _ c.from_residual-in_err-read_tile.ensures.0

pub returns-in_err-read_tile-clause-arrays : goal.returns-in_err-read_tile-clause-arrays
returns-in_err-read_tile-clause-arrays g c = IfOk-from_err c.from_residual-in_err-read_tile.result _ c.from_residual-in_err-read_tile.ensures.0

pub returns-in_err-read_tile-clause-same : goal.returns-in_err-read_tile-clause-same
returns-in_err-read_tile-clause-same g c = c.read_tile.ensures.cache ∙ c.take_frame.ensures.same ∙ ap (λ (z : State). with_held c.args.self.now z.held c.args.self.now.touches) (sym c.read_tile.ensures.cache)

pub returns-in_err-read_tile-clause-cache : goal.returns-in_err-read_tile-clause-cache
returns-in_err-read_tile-clause-cache g c = subst IsCache (sym c.read_tile.ensures.cache) c.take_frame.ensures.cache

pub returns-in_err-read_tile-clause-others : goal.returns-in_err-read_tile-clause-others
returns-in_err-read_tile-clause-others g c = subst (OnlyWritableDiffers c.args.self.now (g.D.Disk.files c.args.disk.now)) (sym c.read_tile.ensures.same) c.take_frame.ensures.others

pub returns-in_err-read_tile-clause-fault_reported : goal.returns-in_err-read_tile-clause-fault_reported
returns-in_err-read_tile-clause-fault_reported g c = record {
  cause = failed_after (g.D.Disk.faults c.args.disk.now) (g.D.Disk.faults c.take_frame.new.disk) (g.D.Disk.faults c.read_tile.new.disk) (c.in_ok-frame.ensures.fault_reported.quiet false≢true) c.in_err-read_tile.ensures.fault_reported.cause;
  quiet = λ none. absurd (none c.from_residual-in_err-read_tile.ensures.0);
}

pub returns-in_err-read_tile-clause-outside : goal.returns-in_err-read_tile-clause-outside
returns-in_err-read_tile-clause-outside g c =
    let s = c.args.self.now in
    let took = c.in_ok-frame.ensures in
    let others : IsSameOutside (layout s) c.in_ok-frame.frame c.args.words.now c.read_tile.new.words = subst (λ (z : State). IsSameOutside (layout z) c.in_ok-frame.frame c.args.words.now c.read_tile.new.words) took.same c.read_tile.ensures.others in
    outside_frames s c.in_ok-frame.frame c.args.words.now c.read_tile.new.words took.placed.low c.read_tile.ensures.len others

pub returns-clause-outside : goal.returns-clause-outside
returns-clause-outside g c =
    let s = c.args.self.now in
    let took = c.in_ok-frame.ensures in
    let others : IsSameOutside (layout s) c.in_ok-frame.frame c.args.words.now c.read_tile.new.words = subst (λ (z : State). IsSameOutside (layout z) c.in_ok-frame.frame c.args.words.now c.read_tile.new.words) took.same c.read_tile.ensures.others in
    outside_frames s c.in_ok-frame.frame c.args.words.now c.read_tile.new.words took.placed.low c.read_tile.ensures.len others

pub returns-clause-arrays : goal.returns-clause-arrays
returns-clause-arrays g c x told y now =
    let s = c.args.self.now in
    let took = c.in_ok-frame.ensures in
    let f = c.in_ok-frame.frame in
    let words = c.read_tile.new.words in
    let tile : Held = record { array = c.args.array; tile = c.args.tile; frame = f; marked = c.args.marked } in
    let middle = sym c.in_ok-read_tile.ensures.same ∙ now in
    let others : IsSameOutside (layout s) f c.args.words.now words = subst (λ (z : State). IsSameOutside (layout z) f c.args.words.now words) took.same c.read_tile.ensures.others in
    let loaded : (k : ℕ) → k < words_of_tile (slice_get s.arrays c.args.array) → slice_index words (place (layout s) f + k) ≡ stored s y c.args.array c.args.tile k =
    subst (λ (z : State). (k : ℕ) → k < words_of_tile (slice_get z.arrays c.args.array) → slice_index words (place (layout z) f + k) ≡ stored z y c.args.array c.args.tile k) took.same (c.in_ok-read_tile.ensures.read y middle) in
    subst (λ (z : State). IsSameArrays s z x y c.args.words.now words) (sym c.read_tile.ensures.cache) (same_brought s c.take_frame.new.self tile x y c.args.words.now words c.requires.cache took.placed (took.arrays x told y middle) ((c.requires.ready x told).1) others loaded)

pub returns-clause-placed : goal.returns-clause-placed
returns-clause-placed g c =
    let tile : Held = record { array = c.args.array; tile = c.args.tile; frame = c.in_ok-frame.frame; marked = c.args.marked } in
    subst (λ (z : State). IsPlaced c.args.self.now z tile) (sym c.read_tile.ensures.cache) c.in_ok-frame.ensures.placed

pub returns-clause-same : goal.returns-clause-same
returns-clause-same g c = c.read_tile.ensures.cache ∙ c.take_frame.ensures.same ∙ ap (λ (z : State). with_held c.args.self.now z.held c.args.self.now.touches) (sym c.read_tile.ensures.cache)

pub returns-clause-cache : goal.returns-clause-cache
returns-clause-cache g c = subst IsCache (sym c.read_tile.ensures.cache) c.take_frame.ensures.cache

pub returns-clause-others : goal.returns-clause-others
returns-clause-others g c = subst (OnlyWritableDiffers c.args.self.now (g.D.Disk.files c.args.disk.now)) (sym c.read_tile.ensures.same) c.take_frame.ensures.others

pub returns-clause-fault_reported : goal.returns-clause-fault_reported
returns-clause-fault_reported g c = record {
  cause = no_cause (g.D.Disk.faults c.args.disk.now) (g.D.Disk.faults c.read_tile.new.disk) (c.in_ok-read_tile.ensures.fault_reported.quiet false≢true ∙ c.in_ok-frame.ensures.fault_reported.quiet false≢true) false≢true;
  quiet = λ none. c.in_ok-read_tile.ensures.fault_reported.quiet false≢true ∙ c.in_ok-frame.ensures.fault_reported.quiet false≢true;
}
