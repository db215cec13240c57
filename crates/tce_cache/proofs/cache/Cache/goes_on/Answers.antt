use Rattle.std.proofs.Common.{◌≡◌, ◌+◌, ◌<◌, ◌∙◌, ap, sym, refl, subst, length, slice_get, Some, nat_eq, true, false, inl, inr, arith}
use Rattle.std.proofs.lemmas.Bool.{cases_eq, not-false}
use Rattle.tce_space.specs.Tiling.{tiles}
use Rattle.tce_cache.specs.Held.{look_up}
use Rattle.tce_cache.specs.Frames.{held_at, AreLow}
use Rattle.tce_cache.specs.declared.array.ArrayRef.{ArrayRef}
use Rattle.tce_cache.specs.Cache.{State, IsCache, words_of_tile}
use Rattle.tce_cache.proofs.Tiles.{array_low, array_at}
use Rattle.tce_cache.proofs.Runs.{run_exists, run_tiles, run_below, run_more, tiles_few}
use Rattle.tce_cache.proofs.cache.Cache.goes_on.Goals as goal

pub overflow_add-next : goal.overflow_add-next
overflow_add-next c =
    let low : AreLow c.args.self.now.held = subst (λ (z : State). AreLow z.held) c.self.view_is c.len-len.ensures.low in
    let below = run_below c.args.self.now c.args.run c.requires low in
    let count : length c.self.inside.table.held ≡ length c.args.self.now.held = ap (λ (z : State). length z.held) c.self.view_is in
    omega (arith, below, count, c.len-len.ensures.count)

pub index-array-requires : goal.index-array-requires
index-array-requires c =
    let low = array_low (λ (x : ArrayRef). c.args.run.tile < tiles x.shape) c.args.self.now.arrays c.args.run.array (run_exists c.args.self.now c.args.run (subst IsCache c.self.view_is c.self.invariant.cache) c.requires) in
    let same : length c.self.inside.arrays.items ≡ length c.args.self.now.arrays = ap (λ (z : State). length z.arrays) c.self.view_is in
    omega (arith, low, same)

pub overflow_add-result : goal.overflow_add-result
overflow_add-result c =
    let is : IsCache c.args.self.now = subst IsCache c.self.view_is c.self.invariant.cache in
    let a = c.index-array.result.now in
    let here = array_at (λ (x : ArrayRef). c.args.run.tile < tiles x.shape) c.self.inside.arrays.items c.args.self.now.arrays c.args.run.array a (ap (λ (z : State). z.arrays) c.self.view_is) (run_exists c.args.self.now c.args.run is c.requires) c.index-array.ensures in
    let room = run_tiles c.args.self.now a c.args.run is c.requires here.0 in
    let few = tiles_few a.shape c.tile_words.ensures.limits in
    omega (arith, room, few, c.tile_words.ensures.limits.room)

pub returns : goal.returns
returns c same =
    let now = c.args.self.now in
    let run = c.args.run in
    let held = c.frame-held.result in
    let is : IsCache now = subst IsCache c.self.view_is c.self.invariant.cache in
    let here = array_at (λ (x : ArrayRef). run.tile < tiles x.shape) c.self.inside.arrays.items now.arrays run.array c.index-array.result.now (ap (λ (z : State). z.arrays) c.self.view_is) (run_exists now run is c.requires) c.index-array.ensures in
    let full : c.tile_words.result ≡ c.self.inside.frame_words = omega (arith, c.if-tile_words-self.false) in
    let fill : words_of_tile (slice_get now.arrays run.array) ≡ now.frame_words = ap words_of_tile here.0 ∙ sym c.tile_words.ensures.words ∙ full ∙ ap (λ (z : State). z.frame_words) c.self.view_is in
    let found : look_up now.held held.array held.tile ≡ Some (held_at held.array held.tile (run.frame + run.n) held.marked) = ap (λ (z : State). look_up z.held held.array held.tile) (sym c.self.view_is) ∙ c.frame-held.ensures in
    let array_is : held.array ≡ run.array = omega (arith, c.if-held-run.false) in
    let equal : nat_eq held.tile (run.tile + run.n) ≡ true = same in
    let tile_is : held.tile ≡ run.tile + run.n = elim (cases_eq held.tile (run.tile + run.n)) [
      | inl e ↦ e
      | inr differs ↦
          let unequal : nat_eq held.tile (run.tile + run.n) ≡ false = grind (arith, differs) in
          let both : true ≡ false = sym equal ∙ unequal in
          absurd (cc)
    ] in
    run_more now run (run.frame + run.n) held.array held.tile held.marked c.requires fill found refl (not-false held.marked c.if-not-held.false) array_is tile_is
