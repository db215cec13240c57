-- The words of slots are those of places.
use Rattle.std.proofs.Common.{◌≡◌, ℕ, zero, suc, ◌+◌, ◌*◌, ◌<◌, ◌≤◌, List, map, slice_index, sum_by, sym, ap, ◌∙◌, inl, inr, arith}
use Rattle.std.specs.List.{range_with_len}
use Rattle.std.proofs.lemmas.Bool.{cases_eq}
use Rattle.tce_space.specs.Box.{place, product}
use Rattle.tce_space.specs.IndexSet.{members}
use Rattle.tce_space.specs.Space.{IndexSpace, extent_at}
use Rattle.tce_space.proofs.Boxes.{place-lt}
use Rattle.tce_space.proofs.Ranges.{sum_next}
use Rattle.tce_tree.specs.ContractionTree.{ContractionTree, operations}
use Rattle.tce_tree.specs.Fusion.{kept_dims}
use Rattle.tce_tree.specs.Memory.{size_before}
use Rattle.tce_tree.specs.Value.{Assignment}
use Rattle.tce_tree.proofs.Assignments.{numbers_inside}
use Rattle.tce_tree.proofs.Permutations.{members_has}
use Rattle.tce_code.specs.Execution.{coordinates}
use Rattle.tce_layout.specs.Layout.{slot_at, IsLayout}
use Rattle.tce_layout.specs.Places.{kept_extents, word_at, steps_to, IsPlace}
use Rattle.tce_layout.specs.declared.slot.Slot.{Slot}
use Rattle.tce_layout.proofs.Filling.{places_fill}
use Rattle.tce_layout.proofs.Slots.{before_next, size_is}
use Rattle.tce_layout.proofs.Steps.{members-size}
use Rattle.tce_exec.specs.Slots.{slot_word, IsSlotAt, SlotsLeadToPlaces}

-- ---- sums over the numbers below a limit

pub range_sum_le : (f : ℕ → ℕ) (n m : ℕ) → n ≤ m → sum_by f (range_with_len 0 n) ≤ sum_by f (range_with_len 0 m)
range_sum_le f n zero l = let same : n ≡ 0 = omega arith in omega (arith, ap (λ k. sum_by f (range_with_len 0 k)) same)
range_sum_le f n (suc m) l =
    elim (cases_eq n (suc m)) [
      | inl e ↦ omega (arith, ap (λ k. sum_by f (range_with_len 0 k)) e)
      | inr e ↦
          let next : m + 1 ≡ suc m = omega arith in
          omega (arith, range_sum_le f n m (omega arith), sum_next f m, ap (λ k. sum_by f (range_with_len 0 k)) next)
    ]

-- a slot's word after the steps of the indexes below `n`
abbrev pub word_so_far : Slot → List ℕ → ℕ → ℕ
word_so_far slot numbers n = slot.offset + sum_by (λ k. slice_index slot.steps k * slice_index numbers k) (range_with_len 0 n)

pub word_next : (slot : Slot) (numbers : List ℕ) (n : ℕ) → word_so_far slot numbers (n + 1) ≡ word_so_far slot numbers n + slice_index slot.steps n * slice_index numbers n
word_next slot numbers n = omega (arith, sum_next (λ k. slice_index slot.steps k * slice_index numbers k) n)

pub word_within : (slot : Slot) (numbers : List ℕ) (n : ℕ) → n < 24 → word_so_far slot numbers (n + 1) ≤ slot_word slot (slice_index numbers)
unfolding steps_to
word_within slot numbers n l = omega (arith, range_sum_le (λ k. slice_index slot.steps k * slice_index numbers k) (n + 1) 24 (omega arith))

pub word_ends : (slot : Slot) (numbers : List ℕ) (n : ℕ) → n ≡ 24 → word_so_far slot numbers n ≡ slot_word slot (slice_index numbers)
unfolding steps_to
word_ends slot numbers n e = ap (word_so_far slot numbers) e

-- ---- places

pub is_place : (space : IndexSpace) (tree : ContractionTree) (fusion : List ℕ) (v : ℕ) (a : Assignment) → IsSlotAt space tree fusion v a
    → IsPlace space tree fusion v (coordinates (kept_dims tree fusion v) a)
unfolding kept_extents
is_place space tree fusion v a h = record {
  node = h.inner;
  inside = numbers_inside (extent_at space) a (members (kept_dims tree fusion v)) (λ i m. h.inside i (members_has (kept_dims tree fusion v) i m));
}

-- a place's word stands in the slot of its node
pub record StandsBetween (space : IndexSpace) (tree : ContractionTree) (fusion : List ℕ) (v p : ℕ) : Type 0 where
  pub from : size_before space tree fusion v ≤ p
  pub below : p < size_before space tree fusion (v + 1)

pub stands_between : (space : IndexSpace) (tree : ContractionTree) (fusion : List ℕ) (slots : List Slot) → IsLayout space tree fusion slots → (v : ℕ) (at : List ℕ)
    → IsPlace space tree fusion v at → StandsBetween space tree fusion v (word_at space tree fusion slots v at)
unfolding word_at kept_extents
stands_between space tree fusion slots laid v at h =
    let begins : (slot_at slots v).offset ≡ size_before space tree fusion v = (laid.slot v h.node).begins in
    let short : place (map (extent_at space) (members (kept_dims tree fusion v))) at < product (map (extent_at space) (members (kept_dims tree fusion v))) =
    place-lt (map (extent_at space) (members (kept_dims tree fusion v))) at h.inside in
    record {
      from = omega (arith, begins);
      below = omega (arith, begins, short, before_next space tree fusion v, members-size space (kept_dims tree fusion v), size_is space tree fusion v);
    }

pub slot_ends : (space : IndexSpace) (tree : ContractionTree) (fusion : List ℕ) (slots : List Slot) → IsLayout space tree fusion slots → (v : ℕ) → v + 1 < operations tree
    → (slot_at slots v).offset + (slot_at slots v).size ≡ size_before space tree fusion (v + 1)
slot_ends space tree fusion slots laid v l =
    omega (arith, (laid.slot v l).begins, (laid.slot v l).sized, before_next space tree fusion v, size_is space tree fusion v)

pub slots_lead_to_places : SlotsLeadToPlaces
slots_lead_to_places space tree fusion slots laid =
    let fill = places_fill space tree fusion slots laid in
    record {
      place = λ v a l. fill.reached v a l;
      in_slot = λ v a h.
          let reached : slot_word (slot_at slots v) a ≡ word_at space tree fusion slots v (coordinates (kept_dims tree fusion v) a) = fill.reached v a h.inner in
          let stands = stands_between space tree fusion slots laid v (coordinates (kept_dims tree fusion v) a) (is_place space tree fusion v a h) in
          (omega (arith, reached, stands.from, (laid.slot v h.inner).begins), omega (arith, reached, stands.below, slot_ends space tree fusion slots laid v h.inner));
      below = λ v a h.
          let reached : slot_word (slot_at slots v) a ≡ word_at space tree fusion slots v (coordinates (kept_dims tree fusion v) a) = fill.reached v a h.inner in
          omega (arith, reached, fill.below v (coordinates (kept_dims tree fusion v) a) (is_place space tree fusion v a h));
      apart = λ v w a b h k e.
          fill.apart v w (coordinates (kept_dims tree fusion v) a) (coordinates (kept_dims tree fusion w) b) (is_place space tree fusion v a h) (is_place space tree fusion w b k)
          (sym (fill.reached v a h.inner) ∙ e ∙ fill.reached w b k.inner);
    }
