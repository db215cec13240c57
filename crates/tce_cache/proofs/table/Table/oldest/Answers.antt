use Rattle.std.proofs.Common.{◌≡◌, ◌<◌, ◌∙◌, length, slice_index, ap, arith}
use Rattle.tce_cache.proofs.Replacing.{held_count, oldest_is, oldest_low}
use Rattle.tce_cache.proofs.table.Table.oldest.Goals as goal

pub returns-clause-last : goal.returns-clause-last
returns-clause-last c rest z e =
    let end : c.len.result ≡ length c.self.inside.frames.items = omega (arith, c.len.ensures) in
    oldest_is c.self.inside.frames.items c.self.inside.held _ c.self.inside.order c.self.inside.buckets c.self.inside.spread c.args.self.now c.before-2.result rest z c.self.invariant c.self.view_is
    (c.before-2.ensures.node ∙ ap (slice_index c.self.inside.order.before) end) e

pub returns-clause-held : goal.returns-clause-held
returns-clause-held c =
    let count = held_count c.self.inside.frames.items c.self.inside.held _ c.self.inside.order c.args.self.now c.self.view_is in
    let end : c.len.result ≡ length c.self.inside.frames.items = omega (arith, c.len.ensures) in
    let low : c.before-2.result < c.self.inside.held =
    oldest_low c.self.inside.frames.items c.self.inside.held c.self.inside.order c.self.inside.buckets c.self.inside.spread c.before-2.result c.self.invariant
    (c.before-2.ensures.node ∙ ap (slice_index c.self.inside.order.before) end) (omega (arith, count, c.requires)) in
    omega (arith, count, low)
