use Rattle.std.proofs.Common.{arith}
use Rattle.tce_cache.proofs.Replacing.{held_count, held_at}
use Rattle.tce_cache.proofs.table.Table.frame.Goals as goal

pub index-requires : goal.index-requires
index-requires c =
    let count = held_count c.self.inside.frames.items c.self.inside.held _ c.self.inside.order c.args.self.now c.self.view_is in
    omega (arith, count, c.requires, c.self.invariant.held_le)

pub returns : goal.returns
returns c =
    let count = held_count c.self.inside.frames.items c.self.inside.held _ c.self.inside.order c.args.self.now c.self.view_is in
    held_at c.self.inside.frames.items c.self.inside.held _ c.self.inside.order c.self.inside.buckets c.self.inside.spread c.args.self.now c.args.frame c.index.result.now c.self.invariant c.self.view_is (omega (arith, count, c.requires)) c.index.ensures
