use Rattle.std.proofs.Common.{arith, ◌≡◌, ◌+◌, ◌<◌, ◌≤◌, ◌||◌, ◌∙◌, ◌∷◌, ℕ, List, ap, sym, refl, subst, length, map, false, Some}
use Rattle.std.proofs.lemmas.List.{length-set, get_or-set_other}
use Rattle.tce_cache.specs.Held.{Held, look_up, without}
use Rattle.tce_cache.specs.Ring.{AreRings, with_ring, removed, IsIn, IsAbsent}
use Rattle.tce_cache.specs.Table.{Holding, entry, order_of}
use Rattle.tce_cache.proofs.Holdings.{IsFront, held_low, table_front, held_moved, found_entry, absent_self, marked_same, marked_entry}
use Rattle.tce_cache.proofs.table.Table.touch.Goals as goal

pub remove-requires : goal.remove-requires
remove-requires c =
    let t = c.self.invariant in
    let low : c.args.frame < c.self.inside.held = held_low c.self.inside.frames.items c.self.inside.held _ c.self.inside.order c.self.inside.buckets c.self.inside.spread c.args.self.now c.args.frame t c.self.view_is c.requires in
    omega (arith, low, t.held_le, t.order_len)

pub push-requires-clause-node : goal.push-requires-clause-node
push-requires-clause-node c =
    let t = c.self.invariant in
    let low : c.args.frame < c.self.inside.held = held_low c.self.inside.frames.items c.self.inside.held _ c.self.inside.order c.self.inside.buckets c.self.inside.spread c.args.self.now c.args.frame t c.self.view_is c.requires in
    omega (arith, low, t.held_le, t.order_len, c.remove.ensures.len)

pub index_mut-held-requires : goal.index_mut-held-requires
index_mut-held-requires c =
    let t = c.self.invariant in
    let low : c.args.frame < c.self.inside.held = held_low c.self.inside.frames.items c.self.inside.held _ c.self.inside.order c.self.inside.buckets c.self.inside.spread c.args.self.now c.args.frame t c.self.view_is c.requires in
    omega (arith, low, t.held_le)

low_of : (c : goal.After-self-1) → c.args.frame < c.self.inside.held
low_of c = held_low c.self.inside.frames.items c.self.inside.held _ c.self.inside.order c.self.inside.buckets c.self.inside.spread c.args.self.now c.args.frame c.self.invariant c.self.view_is c.requires

front_of : (c : goal.After-self-1) → IsFront c.self.inside.frames.items c.self.inside.held c.args.frame c.self.inside.order c.push.new.self
front_of c =
    let t = c.self.invariant in
    let fs = c.self.inside.frames.items in
    let f : ℕ = c.args.frame in
    let os : List ℕ = order_of fs c.self.inside.held c.self.inside.order in
    let low : f < c.self.inside.held = held_low fs c.self.inside.held _ c.self.inside.order c.self.inside.buckets c.self.inside.spread c.args.self.now f t c.self.view_is c.requires in
    let room : length fs + 1 ≤ length c.self.inside.order.after = omega (arith, t.order_len) in
    let room2 : length fs + 1 ≤ length c.remove.new.self.after = omega (arith, room, c.remove.ensures.len) in
    let in_os : IsIn f os = t.order_all f low in
    let absent : IsAbsent f (removed f os) = absent_self f os (t.order_ring.distinct 0 (omega arith)) in
    let taken : AreRings c.remove.new.self (length fs) 1 (with_ring (λ _. os) 0 (removed f os)) = c.remove.ensures.rings (length fs) 1 0 (λ _. os) room t.order_ring (omega arith) in_os in
    let end : c.len-front.result ≡ length fs + 0 = omega (arith, c.len-front.ensures) in
    let put : AreRings c.push.new.self (length fs) 1 (with_ring (with_ring (λ _. os) 0 (removed f os)) 0 (f ∷ removed f os)) =
    c.push.ensures.rings (length fs) 1 0 (with_ring (λ _. os) 0 (removed f os)) room2 taken (omega arith) end (omega (arith, low, t.held_le)) (λ s ls. let none : s ≡ 0 = omega arith in subst (λ i. IsAbsent f (with_ring (λ _. os) 0 (removed f os) i)) (sym none) absent) in
    record { rings = with_ring (with_ring (λ _. os) 0 (removed f os)) 0 (f ∷ removed f os); are = put; is = refl; len = c.push.ensures.len ∙ c.remove.ensures.len }

pub invariant_of-self : goal.invariant_of-self
invariant_of-self c =
    let fs = c.self.inside.frames.items in
    let room : c.args.frame < length fs = omega (arith, low_of c, c.self.invariant.held_le) in
    table_front fs _ c.self.inside.held c.args.frame c.self.inside.order c.push.new.self c.self.inside.buckets c.self.inside.spread c.self.invariant (low_of c) (front_of c)
    (length-set fs c.args.frame _) (marked_same fs c.args.frame c.index_mut-held.result.now _ room c.index_mut-held.ensures.value)

pub returns-clause-held : goal.returns-clause-held
returns-clause-held c a t h found at =
    let fs = c.self.inside.frames.items in
    let f : ℕ = c.args.frame in
    let os : List ℕ = order_of fs c.self.inside.held c.self.inside.order in
    let room : f < length fs = omega (arith, low_of c, c.self.invariant.held_le) in
    let here : look_up (map (entry fs) os) a t ≡ Some h = ap (λ (x : Holding). look_up x.held a t) c.self.view_is ∙ found in
    let is : entry fs f ≡ h = ap (entry fs) (sym at) ∙ sym ((found_entry fs os a t h here).0) in
    held_moved fs _ c.self.inside.held f c.self.inside.order c.push.new.self c.self.inside.buckets c.self.inside.spread a t h _ c.self.invariant (low_of c) (front_of c)
    (length-set fs f _) (λ g n. get_or-set_other fs f g _ (record { array = 0; tile = 0; marked = false }) n)
    (marked_entry fs f c.index_mut-held.result.now c.args.mark room c.index_mut-held.ensures.value ∙ ap (λ (x : Held). record x { marked = x.marked || c.args.mark }) is) here at
    ∙ ap (λ (x : Holding). record h { marked = h.marked || c.args.mark } ∷ without a t x.held) c.self.view_is
