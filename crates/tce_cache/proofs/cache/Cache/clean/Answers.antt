use Rattle.std.proofs.Common.{◌∙◌, sym, subst}
use Rattle.tce_cache.specs.Held.{cleaned}
use Rattle.tce_cache.specs.Frames.{HasTile}
use Rattle.tce_cache.specs.Table.{Holding}
use Rattle.tce_cache.specs.Cache.{State, IsCache}
use Rattle.tce_cache.proofs.Steps.{cache_cleaned, holding_is}
use Rattle.tce_cache.proofs.cache.Cache.clean.Goals as goal

pub invariant_of-self : goal.invariant_of-self
invariant_of-self c =
    let s = c.self.inside in
    let v : State = record { arrays = s.arrays.items; at = s.at; frames = s.table.frames; frame_words = s.frame_words; held = s.table.held; touches = s.touches } in
    let has : HasTile c.args.frame s.table.held = subst (λ (z : State). HasTile c.args.frame z.held) (sym c.self.view_is) c.requires in
    let a = has.0.array in
    let t = has.0.tile in
    let is = holding_is c.clean.new.self s.table.frames s.table.arrays (cleaned a t s.table.held) c.clean.ensures.same.0 c.clean.ensures.same.1 (c.clean.ensures.held a t has.0 has.1 has.2) in
    record {
      table_arrays = c.clean.ensures.same.1 ∙ c.self.invariant.table_arrays;
      buffer_len = c.self.invariant.buffer_len;
      cache = subst (λ (tb : Holding). IsCache (record { arrays = s.arrays.items; at = s.at; frames = tb.frames; frame_words = s.frame_words; held = tb.held; touches = s.touches })) is (cache_cleaned v a t s.touches c.self.invariant.cache);
    }

pub returns-clause-cache : goal.returns-clause-cache
returns-clause-cache c =
    let s = c.self.inside in
    let v : State = record { arrays = s.arrays.items; at = s.at; frames = s.table.frames; frame_words = s.frame_words; held = s.table.held; touches = s.touches } in
    let has : HasTile c.args.frame s.table.held = subst (λ (z : State). HasTile c.args.frame z.held) (sym c.self.view_is) c.requires in
    let a = has.0.array in
    let t = has.0.tile in
    let is = holding_is c.clean.new.self s.table.frames s.table.arrays (cleaned a t s.table.held) c.clean.ensures.same.0 c.clean.ensures.same.1 (c.clean.ensures.held a t has.0 has.1 has.2) in
    subst (λ (tb : Holding). IsCache (record { arrays = s.arrays.items; at = s.at; frames = tb.frames; frame_words = s.frame_words; held = tb.held; touches = s.touches })) is (cache_cleaned v a t s.touches c.self.invariant.cache)
