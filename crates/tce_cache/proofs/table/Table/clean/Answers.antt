use Rattle.std.proofs.Common.{arith, ◌≡◌, ◌<◌, ◌∙◌, ap, length, slice_set, false}
use Rattle.std.proofs.lemmas.List.{length-set, get_or-set_same, get_or-set_other, get_or_default}
use Rattle.tce_cache.specs.Held.{look_up, cleaned}
use Rattle.tce_cache.specs.Table.{Holding, entry, frame_at}
use Rattle.tce_cache.specs.declared.table.Frame.{Frame}
use Rattle.tce_cache.proofs.Holdings.{held_low, marked_same}
use Rattle.tce_cache.proofs.Replacing.{table_same, held_cleaned}
use Rattle.tce_cache.proofs.table.Table.clean.Goals as goal

pub index_mut-requires : goal.index_mut-requires
index_mut-requires c =
    let t = c.self.invariant in
    let low : c.args.frame < c.self.inside.held = held_low c.self.inside.frames.items c.self.inside.held _ c.self.inside.order c.self.inside.buckets c.self.inside.spread c.args.self.now c.args.frame t c.self.view_is c.requires in
    omega (arith, low, t.held_le)

low_of : (c : goal.After-self-1) → c.args.frame < c.self.inside.held
low_of c = held_low c.self.inside.frames.items c.self.inside.held _ c.self.inside.order c.self.inside.buckets c.self.inside.spread c.args.self.now c.args.frame c.self.invariant c.self.view_is c.requires

pub invariant_of-self : goal.invariant_of-self
invariant_of-self c =
    let fs = c.self.inside.frames.items in
    let room : c.args.frame < length fs = omega (arith, low_of c, c.self.invariant.held_le) in
    table_same fs _ c.self.inside.held c.self.inside.order c.self.inside.buckets c.self.inside.spread c.self.invariant (length-set fs c.args.frame _) (marked_same fs c.args.frame c.index_mut.result.now false room c.index_mut.ensures.value)

pub returns-clause-held : goal.returns-clause-held
returns-clause-held c a t h found at =
    let fs = c.self.inside.frames.items in
    let f = c.args.frame in
    let x = c.index_mut.result.now in
    let d : Frame = record { array = 0; tile = 0; marked = false } in
    let room : f < length fs = omega (arith, low_of c, c.self.invariant.held_le) in
    let was : x ≡ frame_at fs f = c.index_mut.ensures.value ∙ get_or_default fs f x d room in
    let here : entry (slice_set fs f (record { array = x.array; tile = x.tile; marked = false })) f ≡ record (entry fs f) { marked = false } =
    ap (λ (z : Frame). record { array = z.array; tile = z.tile; frame = f; marked = z.marked }) (get_or-set_same fs f (record { array = x.array; tile = x.tile; marked = false }) d room)
    ∙ ap (λ (z : Frame). record { array = z.array; tile = z.tile; frame = f; marked = false }) was in
    held_cleaned fs _ c.self.inside.held f c.self.inside.order c.self.inside.buckets c.self.inside.spread a t h c.self.invariant (low_of c)
    (length-set fs f _) (λ g n. get_or-set_other fs f g _ d n) here (ap (λ (y : Holding). look_up y.held a t) c.self.view_is ∙ found) at
    ∙ ap (λ (y : Holding). cleaned a t y.held) c.self.view_is
