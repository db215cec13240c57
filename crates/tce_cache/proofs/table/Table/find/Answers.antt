use Rattle.std.proofs.Common.{arith, ◌≡◌, ◌<◌, ◌≤◌, ◌+◌, ◌∙◌, ℕ, ap, sym, subst, length, slice_index}
use Rattle.tce_cache.specs.Table.{bucket_of, IsLeft}
use Rattle.tce_cache.proofs.Finding.{found_at, found_nowhere, first_low, left_first, left_more, left_low, fewer, tile_read, tile_unread}
use Rattle.tce_cache.proofs.table.Table.find.Goals as goal
use Rattle.tce_cache.proofs.table.Table.find.Goals.{else-frame-array-2-via-then-frame-array-2+else-frame-tile-2, else-frame-array-2-via-else-frame-array-2}

pub returns-then-frame-tile : goal.returns-then-frame-tile
returns-then-frame-tile c =
    let t = c.self.invariant in
    let fs = c.self.inside.frames.items in
    let below : c.after-latest.result < length fs = omega (arith, c.if-latest-len.true, c.len-2.ensures) in
    let node : c.after-latest.result ≡ slice_index c.self.inside.order.after (length fs) = let is : c.len.result ≡ length fs = omega (arith, c.len.ensures) in c.after-latest.ensures.node ∙ ap (slice_index c.self.inside.order.after) is in
    let low : c.after-latest.result < c.self.inside.held = first_low fs c.self.inside.held c.self.inside.order c.self.inside.buckets c.self.inside.spread c.after-latest.result t node below in
    found_at fs c.self.inside.held _ c.self.inside.order c.self.inside.buckets c.self.inside.spread c.args.self.now c.args.array c.args.tile c.after-latest.result t c.self.view_is low
    (tile_read fs c.after-latest.result c.index-frame.result.now c.args.array c.args.tile below c.index-frame.ensures c.if-frame-array.true c.if-frame-tile.true)

pub overflow_add-end : goal.overflow_add-end
overflow_add-end c = omega (arith, c.len-3.ensures, c.bucket.ensures.below, c.self.invariant.room)

pub loop-node-init : goal.loop-node-init
loop-node-init c =
    let fs = c.self.inside.frames.items in
    let b : ℕ = bucket_of c.self.inside.spread c.args.array c.args.tile in
    let low : b < c.self.inside.spread.mask + 1 = subst (λ x. x < c.self.inside.spread.mask + 1) c.bucket.ensures.bucket c.bucket.ensures.below in
    let end : c.len-3.result + c.bucket.result ≡ length fs + b = let is : c.len-3.result ≡ length fs = omega (arith, c.len-3.ensures) in ap (λ n. n + c.bucket.result) is ∙ ap (λ x. length fs + x) c.bucket.ensures.bucket in
    left_first fs c.self.inside.held c.self.inside.order c.self.inside.buckets c.self.inside.spread c.args.array c.args.tile c.after-node.result (c.len-3.result + c.bucket.result) c.self.invariant low end c.after-node.ensures.node

pub index-frame-requires-in-loop-node : goal.index-frame-requires-in-loop-node
index-frame-requires-in-loop-node c =
    let low : c.loop-node.node < c.self.inside.held = left_low _ _ _ _ _ _ _ c.loop-node.invariant c.loop-node-test.true in
    omega (arith, low, c.self.invariant.held_le)

pub returns-then-frame-tile-2 : goal.returns-then-frame-tile-2
returns-then-frame-tile-2 c =
    let fs = c.self.inside.frames.items in
    let low : c.loop-node.node < c.self.inside.held = left_low _ _ _ _ _ _ _ c.loop-node.invariant c.loop-node-test.true in
    let room : c.loop-node.node < length fs = omega (arith, low, c.self.invariant.held_le) in
    found_at fs c.self.inside.held _ c.self.inside.order c.self.inside.buckets c.self.inside.spread c.args.self.now c.args.array c.args.tile c.loop-node.node c.self.invariant c.self.view_is low
    (tile_read fs c.loop-node.node c.index-frame-in-loop-node.result.now c.args.array c.args.tile room c.index-frame-in-loop-node.ensures c.if-frame-array-2.true c.if-frame-tile-2.true)

pub after-node-requires-in-loop-node : goal.after-node-requires-in-loop-node
after-node-requires-in-loop-node c =
    let low : c.loop-node.node < c.self.inside.held = left_low _ _ _ _ _ _ _ c.loop-node.invariant c.loop-node-test.true in
    omega (arith, low, c.self.invariant.held_le, c.self.invariant.buckets_len)

pub loop-node-smaller : goal.loop-node-smaller
loop-node-smaller c =
    let high : c.self.inside.held ≤ c.len-3.result + c.bucket.result = omega (arith, c.self.invariant.held_le, c.len-3.ensures) in
    fewer _ _ _ _ _ _ _ _ c.loop-node.invariant c.loop-node-test.true c.after-node-in-loop-node.ensures.node high

pub loop-node-preserved : goal.loop-node-preserved
loop-node-preserved c =
    let fs = c.self.inside.frames.items in
    let low : c.loop-node.node < c.self.inside.held = left_low _ _ _ _ _ _ _ c.loop-node.invariant c.loop-node-test.true in
    let room : c.loop-node.node < length fs = omega (arith, low, c.self.invariant.held_le) in
    left_more _ _ _ _ _ _ _ _ c.loop-node.invariant c.loop-node-test.true
    (λ is.
    let read = tile_unread fs c.loop-node.node c.index-frame-in-loop-node.result.now c.args.array c.args.tile room c.index-frame-in-loop-node.ensures is in
    elim c.else-frame-array-2.branch [
      | else-frame-array-2-via-then-frame-array-2+else-frame-tile-2 w ↦ w.if-frame-tile-2.false read.1
      | else-frame-array-2-via-else-frame-array-2 w ↦ w.if-frame-array-2.false read.0
    ])
    c.after-node-in-loop-node.ensures.node

pub returns : goal.returns
returns c =
    let fs = c.self.inside.frames.items in
    let high : c.self.inside.held ≤ c.loop-node.node = omega (arith, c.self.invariant.held_le, c.len-3.ensures, c.loop-node-test.false) in
    let left : IsLeft fs c.self.inside.held c.args.array c.args.tile c.self.inside.buckets.after c.loop-node.node c.loop-node.node = subst (λ e. IsLeft fs c.self.inside.held c.args.array c.args.tile c.self.inside.buckets.after c.loop-node.node e) (sym c.loop-node-test.false) c.loop-node.invariant in
    found_nowhere fs c.self.inside.held _ c.self.inside.order c.self.inside.buckets c.self.inside.spread c.args.self.now c.args.array c.args.tile c.loop-node.node c.self.invariant c.self.view_is left high
