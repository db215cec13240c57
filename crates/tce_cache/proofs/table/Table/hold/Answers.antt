use Rattle.std.proofs.Common.{arith, ◌≡◌, ◌+◌, ◌<◌, ◌≤◌, ◌∙◌, ◌∷◌, ℕ, List, None, ap, sym, subst, length, map}
use Rattle.tce_cache.specs.Held.{look_up}
use Rattle.tce_cache.specs.Ring.{AreRings, IsAbsent, with_ring}
use Rattle.tce_cache.specs.Table.{Holding, entry, order_of}
use Rattle.tce_cache.proofs.Paths.{absent_below}
use Rattle.tce_cache.proofs.Holding.{table_more, held_more, never_there, room_low, all_below, held_free, held_below}
use Rattle.tce_cache.proofs.table.Table.hold.Goals as goal

pub index_mut-requires : goal.index_mut-requires
index_mut-requires c =
    let low : c.self.inside.held < length c.self.inside.frames.items = room_low c.self.inside.frames.items c.self.inside.held _ c.self.inside.order c.args.self.now c.self.view_is c.requires.room in
    omega (arith, low)

low_of : (c : goal.After-push-2) → c.self.inside.held < length c.self.inside.frames.items
low_of c = room_low c.self.inside.frames.items c.self.inside.held _ c.self.inside.order c.args.self.now c.self.view_is c.requires.room

order_of_push : (c : goal.After-push-2) → AreRings c.push.new.self (length c.self.inside.frames.items) 1 (with_ring (λ _. order_of c.self.inside.frames.items c.self.inside.held c.self.inside.order) 0 (c.self.inside.held ∷ order_of c.self.inside.frames.items c.self.inside.held c.self.inside.order))
order_of_push c =
    let t = c.self.invariant in
    let fs = c.self.inside.frames.items in
    let os : List ℕ = order_of fs c.self.inside.held c.self.inside.order in
    let room : length fs + 1 ≤ length c.self.inside.order.after = omega (arith, t.order_len) in
    let end : c.len.result ≡ length fs + 0 = omega (arith, c.len.ensures) in
    c.push.ensures.rings (length fs) 1 0 (λ _. os) room t.order_ring (omega arith) end (low_of c) (λ s ls. absent_below c.self.inside.held c.self.inside.held os t.order_below (omega arith))

pub invariant_of-self : goal.invariant_of-self
invariant_of-self c =
    let t = c.self.invariant in
    let fs = c.self.inside.frames.items in
    let held : ℕ = c.self.inside.held in
    let os : List ℕ = order_of fs held c.self.inside.order in
    let known : c.args.array < length c.self.inside.spread.firsts.items = subst (λ (x : Holding). c.args.array < x.arrays) (sym c.self.view_is) c.requires.array in
    let nowhere : look_up (map (entry fs) os) c.args.array c.args.tile ≡ None = ap (λ (x : Holding). look_up x.held c.args.array c.args.tile) c.self.view_is ∙ c.requires.absent in
    let below : c.bucket-bucket.result < c.self.inside.spread.mask + 1 = c.bucket-bucket.ensures.below in
    let room : length fs + (c.self.inside.spread.mask + 1) ≤ length c.self.inside.buckets.after = omega (arith, t.buckets_len) in
    let end : c.len-2.result + c.bucket-bucket.result ≡ length fs + c.bucket-bucket.result = omega (arith, c.len-2.ensures) in
    let free : (s : ℕ) → s < c.self.inside.spread.mask + 1 → IsAbsent held (t.rings s) = λ s ls. absent_below held held (t.rings s) (all_below held (t.rings s) (λ f h. t.ringed s f ls h)) (omega arith) in
    table_more fs held c.bucket-bucket.result _ c.self.inside.order c.push.new.self c.self.inside.buckets c.push-2.new.self c.self.inside.spread t (low_of c) c.bucket-bucket.ensures.bucket known
    (λ g lg is. never_there fs os c.args.array c.args.tile nowhere g (t.order_all g lg) is)
    (order_of_push c) c.push.ensures.len
    (c.push-2.ensures.rings (length fs) (c.self.inside.spread.mask + 1) c.bucket-bucket.result t.rings room t.bucket_rings below end (low_of c) free) c.push-2.ensures.len

pub returns-clause-held : goal.returns-clause-held
returns-clause-held c =
    held_more c.self.inside.frames.items c.self.inside.held (record { array = c.args.array; tile = c.args.tile; marked = c.args.marked }) c.self.inside.order c.push.new.self c.self.inside.buckets c.self.inside.spread c.self.invariant (low_of c) (order_of_push c)
    ∙ ap (λ (x : Holding). record { array = c.args.array; tile = c.args.tile; frame = c.self.inside.held; marked = c.args.marked } ∷ x.held) c.self.view_is

pub returns-clause-free : goal.returns-clause-free
returns-clause-free c = held_free c.self.inside.frames.items c.self.inside.held _ c.self.inside.order c.self.inside.buckets c.self.inside.spread c.args.self.now c.self.invariant c.self.view_is

pub returns-clause-low : goal.returns-clause-low
returns-clause-low c = held_below c.self.inside.frames.items c.self.inside.held _ c.self.inside.order c.args.self.now c.self.view_is (low_of c)
