use Rattle.std.proofs.Common.{arith, ◌≡◌, ◌+◌, ◌<◌, ◌≤◌, ◌∙◌, ◌∷◌, ℕ, List, ap, sym, refl, subst, length, map, slice_set, false, None}
use Rattle.std.proofs.lemmas.List.{length-set, get_or-set_same, get_or-set_other}
use Rattle.tce_cache.specs.Held.{look_up, without}
use Rattle.tce_cache.specs.Ring.{AreRings, with_ring, removed, IsAbsent}
use Rattle.tce_cache.specs.Table.{Holding, entry, order_of, frame_at, bucket_at}
use Rattle.tce_cache.specs.declared.table.Frame.{Frame}
use Rattle.tce_cache.proofs.Holding.{never_there}
use Rattle.tce_cache.proofs.Holdings.{IsFront, held_low, held_moved, absent_self}
use Rattle.tce_cache.proofs.Replacing.{rehomed, free_of_rings, table_replaced, bucket_low}
use Rattle.tce_cache.proofs.table.Table.replace.Goals as goal

pub remove-requires : goal.remove-requires
remove-requires c =
    let t = c.self.invariant in
    let low : c.args.frame < c.self.inside.held = held_low c.self.inside.frames.items c.self.inside.held _ c.self.inside.order c.self.inside.buckets c.self.inside.spread c.args.self.now c.args.frame t c.self.view_is c.requires.frame in
    omega (arith, low, t.held_le, t.order_len)

pub push-requires-clause-node : goal.push-requires-clause-node
push-requires-clause-node c =
    let t = c.self.invariant in
    let low : c.args.frame < c.self.inside.held = held_low c.self.inside.frames.items c.self.inside.held _ c.self.inside.order c.self.inside.buckets c.self.inside.spread c.args.self.now c.args.frame t c.self.view_is c.requires.frame in
    omega (arith, low, t.held_le, t.order_len, c.remove.ensures.len)

pub remove-requires-2 : goal.remove-requires-2
remove-requires-2 c =
    let t = c.self.invariant in
    let low : c.args.frame < c.self.inside.held = held_low c.self.inside.frames.items c.self.inside.held _ c.self.inside.order c.self.inside.buckets c.self.inside.spread c.args.self.now c.args.frame t c.self.view_is c.requires.frame in
    omega (arith, low, t.held_le, t.buckets_len)

pub push-requires-2-clause-node : goal.push-requires-2-clause-node
push-requires-2-clause-node c =
    let t = c.self.invariant in
    let low : c.args.frame < c.self.inside.held = held_low c.self.inside.frames.items c.self.inside.held _ c.self.inside.order c.self.inside.buckets c.self.inside.spread c.args.self.now c.args.frame t c.self.view_is c.requires.frame in
    omega (arith, low, t.held_le, t.buckets_len, c.remove-2.ensures.len)

pub index_mut-requires : goal.index_mut-requires
index_mut-requires c =
    let t = c.self.invariant in
    let low : c.args.frame < c.self.inside.held = held_low c.self.inside.frames.items c.self.inside.held _ c.self.inside.order c.self.inside.buckets c.self.inside.spread c.args.self.now c.args.frame t c.self.view_is c.requires.frame in
    omega (arith, low, t.held_le)

low_of : (c : goal.After-self-1) → c.args.frame < c.self.inside.held
low_of c = held_low c.self.inside.frames.items c.self.inside.held _ c.self.inside.order c.self.inside.buckets c.self.inside.spread c.args.self.now c.args.frame c.self.invariant c.self.view_is c.requires.frame

front_of : (c : goal.After-self-1) → IsFront c.self.inside.frames.items c.self.inside.held c.args.frame c.self.inside.order c.push.new.self
front_of c =
    let t = c.self.invariant in
    let fs = c.self.inside.frames.items in
    let f : ℕ = c.args.frame in
    let os : List ℕ = order_of fs c.self.inside.held c.self.inside.order in
    let low : f < c.self.inside.held = low_of c in
    let room : length fs + 1 ≤ length c.self.inside.order.after = omega (arith, t.order_len) in
    let room2 : length fs + 1 ≤ length c.remove.new.self.after = omega (arith, room, c.remove.ensures.len) in
    let absent : IsAbsent f (removed f os) = absent_self f os (t.order_ring.distinct 0 (omega arith)) in
    let taken : AreRings c.remove.new.self (length fs) 1 (with_ring (λ _. os) 0 (removed f os)) = c.remove.ensures.rings (length fs) 1 0 (λ _. os) room t.order_ring (omega arith) (t.order_all f low) in
    let end : c.len-end.result ≡ length fs + 0 = omega (arith, c.len-end.ensures) in
    let put : AreRings c.push.new.self (length fs) 1 (with_ring (with_ring (λ _. os) 0 (removed f os)) 0 (f ∷ removed f os)) =
    c.push.ensures.rings (length fs) 1 0 (with_ring (λ _. os) 0 (removed f os)) room2 taken (omega arith) end (omega (arith, low, t.held_le)) (λ s ls. let none : s ≡ 0 = omega arith in subst (λ i. IsAbsent f (with_ring (λ _. os) 0 (removed f os) i)) (sym none) absent) in
    record { rings = with_ring (with_ring (λ _. os) 0 (removed f os)) 0 (f ∷ removed f os); are = put; is = refl; len = c.push.ensures.len ∙ c.remove.ensures.len }

rings_of : (c : goal.After-self-1) → AreRings c.push-2.new.self (length c.self.inside.frames.items) (c.self.inside.spread.mask + 1) (rehomed c.self.invariant.rings (bucket_at c.self.inside.spread c.self.inside.frames.items c.args.frame) c.args.frame c.bucket-bucket.result)
rings_of c =
    let t = c.self.invariant in
    let fs = c.self.inside.frames.items in
    let f : ℕ = c.args.frame in
    let s = c.self.inside.spread in
    let n : ℕ = s.mask + 1 in
    let from : ℕ = bucket_at s fs f in
    let low : f < c.self.inside.held = low_of c in
    let from_low : from < n = bucket_low s (frame_at fs f).array (frame_at fs f).tile in
    let room : length fs + n ≤ length c.self.inside.buckets.after = omega (arith, t.buckets_len) in
    let room2 : length fs + n ≤ length c.remove-2.new.self.after = omega (arith, room, c.remove-2.ensures.len) in
    let taken = c.remove-2.ensures.rings (length fs) n from t.rings room t.bucket_rings from_low (t.home f low) in
    let end : c.len-end.result + c.bucket-bucket.result ≡ length fs + c.bucket-bucket.result = omega (arith, c.len-end.ensures) in
    c.push-2.ensures.rings (length fs) n c.bucket-bucket.result (with_ring t.rings from (removed f (t.rings from))) room2 taken c.bucket-bucket.ensures.below end (omega (arith, low, t.held_le))
    (free_of_rings t.rings n from f from_low t.bucket_rings.distinct t.bucket_rings.apart (t.home f low))

pub invariant_of-self : goal.invariant_of-self
invariant_of-self c =
    let fs = c.self.inside.frames.items in
    let held : ℕ = c.self.inside.held in
    let t = c.self.invariant in
    let os : List ℕ = order_of fs held c.self.inside.order in
    let known : c.args.array < length c.self.inside.spread.firsts.items = subst (λ (x : Holding). c.args.array < x.arrays) (sym c.self.view_is) c.requires.array in
    let nowhere : look_up (map (entry fs) os) c.args.array c.args.tile ≡ None = ap (λ (x : Holding). look_up x.held c.args.array c.args.tile) c.self.view_is ∙ c.requires.absent in
    table_replaced fs held c.args.frame c.bucket-bucket.result _ c.self.inside.order c.push.new.self c.self.inside.buckets c.push-2.new.self c.self.inside.spread t (low_of c) (front_of c) c.bucket-bucket.ensures.bucket known
    (λ g lg is. never_there fs os c.args.array c.args.tile nowhere g (t.order_all g lg) is)
    (rings_of c) (c.push-2.ensures.len ∙ c.remove-2.ensures.len)

pub returns-clause-held : goal.returns-clause-held
returns-clause-held c a t h found at =
    let fs = c.self.inside.frames.items in
    let f : ℕ = c.args.frame in
    let d : Frame = record { array = 0; tile = 0; marked = false } in
    let x : Frame = record { array = c.args.array; tile = c.args.tile; marked = c.args.marked } in
    let room : f < length fs = omega (arith, low_of c, c.self.invariant.held_le) in
    let here : entry (slice_set fs f x) f ≡ record { array = c.args.array; tile = c.args.tile; frame = f; marked = c.args.marked } =
    ap (λ (z : Frame). record { array = z.array; tile = z.tile; frame = f; marked = z.marked }) (get_or-set_same fs f x d room) in
    held_moved fs _ c.self.inside.held f c.self.inside.order c.push.new.self c.self.inside.buckets c.self.inside.spread a t h _ c.self.invariant (low_of c) (front_of c)
    (length-set fs f _) (λ g n. get_or-set_other fs f g _ d n) here (ap (λ (y : Holding). look_up y.held a t) c.self.view_is ∙ found) at
    ∙ ap (λ (y : Holding). record { array = c.args.array; tile = c.args.tile; frame = f; marked = c.args.marked } ∷ without a t y.held) c.self.view_is
