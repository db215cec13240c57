-- Each place has a word of its own, and all words are taken.
use Rattle.std.proofs.Common.{◌≡◌, ℕ, zero, suc, ◌+◌, ◌-◌, ◌<◌, ◌≤◌, List, [], get_or, sym, ap, ◌∙◌, subst, inl, inr, arith}
use Rattle.std.proofs.lemmas.Bool.{cases_lt, cases_order}
use Rattle.tce_space.specs.Box.{place, places, product, IsInside}
use Rattle.tce_space.specs.Space.{IndexSpace}
use Rattle.tce_space.proofs.Boxes.{place-lt, place_injective, places_every}
use Rattle.tce_tree.specs.ContractionTree.{ContractionTree, operations}
use Rattle.tce_tree.specs.Fusion.{kept_dims}
use Rattle.tce_tree.specs.Memory.{size_at, size_before, memory}
use Rattle.tce_layout.specs.Layout.{slot_at, IsLayout}
use Rattle.tce_layout.specs.Places.{kept_extents, IsPlace, word_at, PlacesFill}
use Rattle.tce_layout.specs.declared.slot.Slot.{Slot}
use Rattle.tce_layout.proofs.Slots.{before_next, before_le}
use Rattle.tce_layout.proofs.Steps.{steps-place, members-size}

extents-size : (space : IndexSpace) (tree : ContractionTree) (fusion : List ℕ) (v : ℕ) → product (kept_extents space tree fusion v) ≡ size_at space tree fusion v
unfolding kept_extents size_at
extents-size space tree fusion v = members-size space (kept_dims tree fusion v)

-- the number of a word in a layout
word-is : (space : IndexSpace) (tree : ContractionTree) (fusion : List ℕ) (slots : List Slot) → IsLayout space tree fusion slots → (v : ℕ) (at : List ℕ)
    → v + 1 < operations tree → word_at space tree fusion slots v at ≡ size_before space tree fusion v + place (kept_extents space tree fusion v) at
unfolding word_at
word-is space tree fusion slots laid v at l = ap (λ n. n + place (kept_extents space tree fusion v) at) (laid.slot v l).begins

-- it stands in the node's slot
record StandsIn (space : IndexSpace) (tree : ContractionTree) (fusion : List ℕ) (v p : ℕ) : Type 0 where
  from : size_before space tree fusion v ≤ p
  below : p < size_before space tree fusion (v + 1)

stands-in : (space : IndexSpace) (tree : ContractionTree) (fusion : List ℕ) (slots : List Slot) → IsLayout space tree fusion slots → (v : ℕ) (at : List ℕ)
    → IsPlace space tree fusion v at → StandsIn space tree fusion v (word_at space tree fusion slots v at)
stands-in space tree fusion slots laid v at h =
    let is = word-is space tree fusion slots laid v at h.node in record {
      from = omega (arith, is);
      below = omega (arith, is, before_next space tree fusion v, extents-size space tree fusion v, place-lt (kept_extents space tree fusion v) at h.inside);
    }

-- the slot in which a number stands
slot-of : (space : IndexSpace) (tree : ContractionTree) (fusion : List ℕ) (n p : ℕ) → p < size_before space tree fusion n → (v : ℕ) × (v < n) × StandsIn space tree fusion v p
unfolding size_before
slot-of space tree fusion zero p l = absurd (omega arith)
slot-of space tree fusion (suc n) p l =
    elim (cases_lt p (size_before space tree fusion n)) [
      | inl a ↦ let r = slot-of space tree fusion n p a in (r.0, omega (arith, r.1), r.2)
      | inr a ↦
          let next : n + 1 ≡ suc n = omega arith in
          (n, omega arith, record { from = a; below = omega (arith, l, ap (size_before space tree fusion) next) })
    ]

pub places_fill : (space : IndexSpace) (tree : ContractionTree) (fusion : List ℕ) (slots : List Slot) → IsLayout space tree fusion slots → PlacesFill space tree fusion slots
unfolding word_at kept_extents memory
places_fill space tree fusion slots laid = record {
  reached = λ v numbers l.
      ap (λ n. (slot_at slots v).offset + n) (steps-place space (kept_dims tree fusion v) numbers (slot_at slots v).steps (laid.slot v l).steps);
  below = λ v at h.
      let in_slot = stands-in space tree fusion slots laid v at h in
      let node = h.node in
      omega (arith, in_slot.below, before_le space tree fusion (v + 1) (operations tree - 1) (omega arith));
  apart = λ v w at other h k e.
      let first = stands-in space tree fusion slots laid v at h in
      let second = stands-in space tree fusion slots laid w other k in
      elim (cases_order v w) [
        | inl q ↦ (q, same v w at other h k e q)
        | inr c ↦ elim c [
          | inl l ↦ absurd (omega (arith, first.below, second.from, before_le space tree fusion (v + 1) w (omega arith), e))
          | inr l ↦ absurd (omega (arith, second.below, first.from, before_le space tree fusion (w + 1) v (omega arith), e))
        ]
      ];
  every = λ p l. found p (slot-of space tree fusion (operations tree - 1) p l);
}
  where
    same : (v w : ℕ) (at other : List ℕ) → IsPlace space tree fusion v at → IsPlace space tree fusion w other
        → word_at space tree fusion slots v at ≡ word_at space tree fusion slots w other → v ≡ w → at ≡ other
    same v w at other h k e q =
        let here : IsInside (kept_extents space tree fusion v) other = subst (λ u. IsInside (kept_extents space tree fusion u) other) (sym q) k.inside in
        let there : word_at space tree fusion slots w other ≡ word_at space tree fusion slots v other = ap (λ u. word_at space tree fusion slots u other) (sym q) in
        place_injective (kept_extents space tree fusion v) at other h.inside here
        (omega (arith, e, there, word-is space tree fusion slots laid v at h.node, word-is space tree fusion slots laid v other h.node))

    found : (p : ℕ) → (v : ℕ) × (v < operations tree - 1) × StandsIn space tree fusion v p
        → (v : ℕ) × (at : List ℕ) × IsPlace space tree fusion v at × (word_at space tree fusion slots v at ≡ p)
    found p r =
        let v : ℕ = r.0 in
        let inside = r.1 in
        let stands = r.2 in
        let node : r.0 + 1 < operations tree = omega arith in
        let short : p - size_before space tree fusion r.0 < product (kept_extents space tree fusion r.0) =
        omega (arith, stands.from, stands.below, before_next space tree fusion r.0, extents-size space tree fusion r.0) in
        let at = places_every (kept_extents space tree fusion r.0) (p - size_before space tree fusion r.0) short in (
          r.0,
          get_or (places (kept_extents space tree fusion r.0)) (p - size_before space tree fusion r.0) [],
          record { node = node; inside = at.0 },
          word-is space tree fusion slots laid r.0 (get_or (places (kept_extents space tree fusion r.0)) (p - size_before space tree fusion r.0) []) node
              ∙ omega (arith, at.1, stands.from),
        )
