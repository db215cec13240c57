use Rattle.std.proofs.Common.{◌≡◌, ◌+◌, ◌≤◌, ◌<◌, ◌∙◌, ℕ, List, length, slice_index, slice_set, sym, subst}
use Rattle.std.proofs.lemmas.List.{get_or_default}
use Rattle.tce_cache.specs.Ring.{Links, AreRings, with_ring, removed}
use Rattle.tce_cache.proofs.Paths.{rings_removed}
use Rattle.tce_cache.proofs.ring.Rings.remove.Goals as goal

pub returns-clause-rings : goal.returns-clause-rings
returns-clause-rings c nodes count r rings room are lt h =
    let A : List ℕ = c.self.inside.after.items in
    let B : List ℕ = c.self.inside.before.items in
    let now : c.args.self.now ≡ record { after = A; before = B } = sym c.self.view_is in
    let step = rings_removed A B nodes count r c.args.node rings c.self.invariant (subst (λ (l : Links). nodes + count ≤ length l.after) now room) (subst (λ (l : Links). AreRings l nodes count rings) now are) lt h in
    let a_in : c.args.node < length A = subst (λ (l : Links). c.args.node < length l.after) now c.requires in
    let b_in : c.args.node < length B = subst (λ n. c.args.node < n) (sym c.self.invariant.0) a_in in
    let q : slice_index A c.args.node ≡ c.index-after.result.now = sym (c.index-after.ensures ∙ get_or_default A c.args.node _ 0 a_in) in
    let p : slice_index B c.args.node ≡ c.index-before.result.now = sym (c.index-before.ensures ∙ get_or_default B c.args.node _ 0 b_in) in
    let by : ℕ → ℕ → Type 0 = λ p q. AreRings (record { after = slice_set A p q; before = slice_set B q p }) nodes count (with_ring rings r (removed c.args.node (rings r))) in
    subst (by c.index-before.result.now) q (subst (λ x. by x (slice_index A c.args.node)) p step)
