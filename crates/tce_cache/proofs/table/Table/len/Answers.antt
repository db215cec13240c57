use Rattle.std.proofs.Common.{◌≡◌, length, subst, sym, refl, arith}
use Rattle.tce_cache.specs.Table.{Holding}
use Rattle.tce_cache.proofs.Replacing.{held_apart, held_count, held_first}
use Rattle.tce_cache.proofs.table.Table.len.Goals as goal

pub returns-clause-count : goal.returns-clause-count
returns-clause-count c = sym (held_count c.self.inside.frames.items c.self.inside.held _ c.self.inside.order c.args.self.now c.self.view_is)

pub returns-clause-within : goal.returns-clause-within
returns-clause-within c =
    let count = held_count c.self.inside.frames.items c.self.inside.held _ c.self.inside.order c.args.self.now c.self.view_is in
    let frames : length c.self.inside.frames.items ≡ c.args.self.now.frames = subst (λ (x : Holding). length c.self.inside.frames.items ≡ x.frames) c.self.view_is refl in
    omega (arith, count, frames, c.self.invariant.held_le)

pub returns-clause-apart : goal.returns-clause-apart
returns-clause-apart c = held_apart c.self.inside.frames.items c.self.inside.held _ c.self.inside.order c.self.inside.buckets c.self.inside.spread c.args.self.now c.self.invariant c.self.view_is

pub returns-clause-low : goal.returns-clause-low
returns-clause-low c a t h e = held_first c.self.inside.frames.items c.self.inside.held _ c.self.inside.order c.self.inside.buckets c.self.inside.spread c.args.self.now a t h c.self.invariant c.self.view_is e
