-- The numbers at which blocks begin, and the tiles in which they lie.
use Rattle.std.proofs.Common.{◌≡◌, ℕ, ◌+◌, ◌*◌, ◌/◌, ◌%◌, ◌<◌, ◌≤◌, List, map, length, drop, slice_index, replicate, sym, ap, ap₂, ◌∙◌, subst, inl, inr, arith}
use mathlib.Core.Path.{fun_ext}
use Rattle.std.proofs.Math.Nat.{zero-div, zero-mod}
use Rattle.std.proofs.Math.ListN.{get_or-eq_default}
use Rattle.std.proofs.lemmas.Bool.{cases_lt}
use Rattle.std.proofs.lemmas.List.{get_or-map, get_or-replicate, length-map}
use Rattle.std.specs.Int.{div_ceil}
use Rattle.tce_space.specs.Space.{IndexSpace, Index, Range, IsSpace, no_index, no_range, index_at, range_at, extent_at, edge_at}
use Rattle.tce_space.proofs.Spaces.{index_limits}
use Rattle.tce_array.specs.OnWay.{IsOnWay}
use Rattle.tce_array.proofs.Way.{next}
use Rattle.tce_exec.specs.Positions.{IsPosition}
use Rattle.tce_exec.specs.declared.position.Position.{Position}

-- ---- where no index is declared

no_such_index : (space : IndexSpace) (i : ℕ) → length space.indexes ≤ i → index_at space i ≡ no_index
no_such_index space i past = get_or-eq_default space.indexes no_index past

no_such_range : (space : IndexSpace) (i : ℕ) → IsSpace space → length space.indexes ≤ i → range_at space (index_at space i).of_range ≡ no_range
no_such_range space i is past =
    ap (λ (x : Index). range_at space x.of_range) (no_such_index space i past) ∙ get_or-eq_default space.ranges no_range is.range_limit

edge_past : (space : IndexSpace) (i : ℕ) → IsSpace space → length space.indexes ≤ i → edge_at space i ≡ 1
edge_past space i is past = ap (λ (r : Range). r.edge) (no_such_range space i is past)

extent_past : (space : IndexSpace) (i : ℕ) → IsSpace space → length space.indexes ≤ i → extent_at space i ≡ 1
extent_past space i is past = ap (λ (r : Range). r.extent) (no_such_range space i is past)

-- ---- all numbers 0

zero_at : (i : ℕ) → i < 24 → slice_index (replicate 24 0) i ≡ 0
zero_at i lt = get_or-replicate 24 i 0 0 lt

-- lists that have the edges and counts of the declared indexes, and else 1
pub record AreOfRanges (space : IndexSpace) (edges counts : List ℕ) : Type 0 where
  pub edges_are : (i : ℕ) → i < length space.indexes → slice_index edges i ≡ edge_at space i
  pub counts_are : (i : ℕ) → i < length space.indexes → slice_index counts i ≡ div_ceil (extent_at space i) (edge_at space i)
  pub other_edges : (i : ℕ) → length space.indexes ≤ i → i < 24 → slice_index edges i ≡ 1
  pub other_counts : (i : ℕ) → length space.indexes ≤ i → i < 24 → slice_index counts i ≡ 1

pub at_zero : (space : IndexSpace) (edges counts : List ℕ) → IsSpace space → AreOfRanges space edges counts
    → IsPosition space (record { numbers = replicate 24 0; tiles = replicate 24 0; rests = replicate 24 0; edges = edges; counts = counts })
at_zero space edges counts is h = record {
  tiles_are = λ i lt. zero_at i lt ∙ sym (ap (λ k. k / edge_at space i) (zero_at i lt) ∙ zero-div (edge_at space i));
  rests_are = λ i lt. zero_at i lt ∙ sym (ap (λ k. k % edge_at space i) (zero_at i lt) ∙ zero-mod (edge_at space i));
  edges_are = λ i lt. elim (cases_lt i (length space.indexes)) [
    | inl known ↦ h.edges_are i known
    | inr past ↦ h.other_edges i past lt ∙ sym (edge_past space i is past)
  ];
  counts_are = λ i lt. elim (cases_lt i (length space.indexes)) [
    | inl known ↦ h.counts_are i known
    | inr past ↦ h.other_counts i past lt ∙ sym (ap₂ div_ceil (extent_past space i is past) (edge_past space i is past))
  ];
  some = λ i lt. elim (cases_lt i (length space.indexes)) [
    | inl known ↦ (index_limits space i is known).edge_some
    | inr past ↦ omega (arith, edge_past space i is past)
  ];
}

-- ---- the numbers of all indexes

pub all_there : (xs ys : List ℕ) → length xs ≡ 24 → length ys ≡ 24 → ((j : ℕ) → j < 24 → slice_index xs j ≡ slice_index ys j) → slice_index xs ≡ slice_index ys
all_there xs ys lx ly h = fun_ext (λ i.
    elim (cases_lt i 24) [
      | inl lt ↦ h i lt
      | inr past ↦ get_or-eq_default xs 0 (omega (arith, lx, past)) ∙ sym (get_or-eq_default ys 0 (omega (arith, ly, past)))
    ])

-- ---- from dimension to dimension of a tensor

at_index : (f : ℕ → ℕ) (indexes : List ℕ) (d : ℕ) → d < length indexes → slice_index (map f indexes) d ≡ f (slice_index indexes d)
at_index f indexes d lt = get_or-map f indexes d 0 0 lt

-- what the lists hold of a dimension's index goes on as its extent, edge and coordinate do
pub along : (space : IndexSpace) (p : Position) (indexes : List ℕ) (d tile place t i : ℕ) → IsPosition space p → slice_index indexes d < 24 → d < length indexes
    → IsOnWay (drop d (map (extent_at space) indexes)) (drop d (map (edge_at space) indexes)) (drop d (map (slice_index p.numbers) indexes)) tile place t i
    → IsOnWay (drop (d + 1) (map (extent_at space) indexes)) (drop (d + 1) (map (edge_at space) indexes)) (drop (d + 1) (map (slice_index p.numbers) indexes))
    (tile * slice_index p.counts (slice_index indexes d) + slice_index p.tiles (slice_index indexes d)) (place * slice_index p.edges (slice_index indexes d) + slice_index p.rests (slice_index indexes d)) t i
along space p indexes d tile place t i is known lt way =
    let x : ℕ = slice_index indexes d in
    let ns : List ℕ = map (extent_at space) indexes in
    let es : List ℕ = map (edge_at space) indexes in
    let xs : List ℕ = map (slice_index p.numbers) indexes in
    let n : slice_index ns d ≡ extent_at space x = at_index (extent_at space) indexes d lt in
    let e : slice_index es d ≡ edge_at space x = at_index (edge_at space) indexes d lt in
    let c : slice_index xs d ≡ slice_index p.numbers x = at_index (slice_index p.numbers) indexes d lt in
    let count : slice_index p.counts x ≡ div_ceil (slice_index ns d) (slice_index es d) = is.counts_are x known ∙ sym (ap₂ div_ceil n e) in
    let stepped = next ns es xs d tile place t i (slice_index p.counts x) (omega (arith, lt, length-map indexes (extent_at space))) way count in
    let tiles : slice_index xs d / slice_index es d ≡ slice_index p.tiles x = ap₂ (λ a b. a / b) c e ∙ sym (is.tiles_are x known) in
    let rests : slice_index xs d % slice_index es d ≡ slice_index p.rests x = ap₂ (λ a b. a % b) c e ∙ sym (is.rests_are x known) in
    let edge : slice_index es d ≡ slice_index p.edges x = e ∙ sym (is.edges_are x known) in
    subst (λ a. IsOnWay (drop (d + 1) ns) (drop (d + 1) es) (drop (d + 1) xs) (tile * slice_index p.counts x + a) (place * slice_index p.edges x + slice_index p.rests x) t i) tiles
    (subst (λ b. IsOnWay (drop (d + 1) ns) (drop (d + 1) es) (drop (d + 1) xs) (tile * slice_index p.counts x + slice_index xs d / slice_index es d) (place * slice_index p.edges x + b) t i) rests
    (subst (λ b. IsOnWay (drop (d + 1) ns) (drop (d + 1) es) (drop (d + 1) xs) (tile * slice_index p.counts x + slice_index xs d / slice_index es d) (place * b + slice_index xs d % slice_index es d) t i) edge stepped))
