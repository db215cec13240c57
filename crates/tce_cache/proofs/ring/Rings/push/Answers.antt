use Rattle.std.proofs.Common.{◌≡◌, ◌+◌, ◌≤◌, ◌<◌, ◌∙◌, ◌∷◌, ℕ, List, length, slice_index, slice_set, sym, subst, ap}
use Rattle.std.proofs.lemmas.List.{get_or_default}
use Rattle.tce_cache.specs.Ring.{Links, AreRings, with_ring}
use Rattle.tce_cache.proofs.Paths.{rings_pushed}
use Rattle.tce_cache.proofs.ring.Rings.push.Goals as goal

pub returns-clause-rings : goal.returns-clause-rings
returns-clause-rings c nodes count r rings room are lt e low free =
    let A : List ℕ = c.self.inside.after.items in
    let B : List ℕ = c.self.inside.before.items in
    let f : ℕ = c.args.node in
    let now : c.args.self.now ≡ record { after = A; before = B } = sym c.self.view_is in
    let step = rings_pushed A B nodes count r f rings c.self.invariant (subst (λ (l : Links). nodes + count ≤ length l.after) now room) (subst (λ (l : Links). AreRings l nodes count rings) now are) lt low free in
    let end_in : c.args.end < length A = subst (λ (l : Links). c.args.end < length l.after) now c.requires.end in
    let first : slice_index A (nodes + r) ≡ c.index-first.result.now = ap (slice_index A) (sym e) ∙ sym (c.index-first.ensures ∙ get_or_default A c.args.end _ 0 end_in) in
    let by : ℕ → ℕ → Type 0 = λ x g. AreRings (record { after = slice_set (slice_set A f g) x f; before = slice_set (slice_set B f x) g f }) nodes count (with_ring rings r (f ∷ rings r)) in
    subst (λ x. by x c.index-first.result.now) (sym e) (subst (by (nodes + r)) first step)
