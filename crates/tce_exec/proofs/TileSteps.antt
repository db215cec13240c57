-- The steps of a tile, dimension by dimension.
use Rattle.std.proofs.Common.{◌≡◌, ℕ, zero, suc, ◌+◌, ◌-◌, ◌*◌, ◌<◌, ◌≤◌, ◌^◌, eqb, if◌then◌else◌, List, [], ◌∷◌, length, drop, slice_index, slice_set, sym, ap, ◌∙◌, subst, inl, inr, arith, le_trans}
use Rattle.std.proofs.Math.Nat.{mul-le-mul_left, mul-le-mul_right}
use Rattle.std.proofs.Math.Seq.{drop-cons}
use Rattle.std.proofs.lemmas.Bool.{cases_Bool, cases_eq, eq-eqb, ne_eqb}
use Rattle.std.proofs.lemmas.Grind.{get_or-set_at}
use Rattle.std.proofs.lemmas.List.{get_or-set_other, length-set}
use Rattle.tce_space.specs.Box.{product}
use Rattle.tce_space.specs.Tiling.{Tiling, IsTiling, ArePositive}
use Rattle.tce_space.proofs.Products.{le_times, drop_positive}
use Rattle.tce_exec.specs.OperandWindows.{tile_step, AreTileSteps}

-- the steps of some dimensions, and how many words stand behind one in front of them
pub record AreStepsFrom (edges indexes : List ℕ) (behind : ℕ) (steps : List ℕ) : Type 0 where
  pub behind_is : behind ≡ product edges
  pub are : AreTileSteps edges indexes steps

-- ---- bounds

product_behind : (es : List ℕ) (d : ℕ) → ArePositive es → product (drop d es) ≤ product es
product_behind es zero p = omega arith
product_behind [] (suc d) p = omega arith
product_behind (e ∷ es) (suc d) p = le_trans (product_behind es d p.1) (le_times e (product es) p.0)

step_within : (es xs : List ℕ) (i : ℕ) → ArePositive es → tile_step es xs i ≤ length es * product es
step_within [] xs i p = omega arith
step_within (e ∷ es) [] i p = omega arith
step_within (e ∷ es) (x ∷ xs) i p =
    let longer : product es ≤ e * product es = le_times e (product es) p.0 in
    let more : length es * product es ≤ length es * (e * product es) = mul-le-mul_left (length es) longer in
    let rest : tile_step es xs i ≤ length es * product es = step_within es xs i p.1 in
    let all : (suc (length es)) * (e * product es) ≡ e * product es + length es * (e * product es) = omega arith in
    elim (cases_Bool (eqb x i)) [
      | inl t ↦ omega (arith, longer, more, rest, all, ap (λ b. (if b then product es else 0) + tile_step es xs i) t)
      | inr f ↦ omega (arith, longer, more, rest, all, ap (λ b. (if b then product es else 0) + tile_step es xs i) f)
    ]

length_behind : (es : List ℕ) (d : ℕ) → length (drop d es) ≤ length es
length_behind es zero = omega arith
length_behind [] (suc d) = omega arith
length_behind (e ∷ es) (suc d) = omega (arith, length_behind es d)

-- no product of the loop passes the words of the tile
record AreSmall (edges : List ℕ) (d behind step : ℕ) : Type 0 where
  pub behind_low : behind ≤ product edges
  pub product_low : behind * slice_index edges (d - 1) ≤ product edges
  pub step_low : step ≤ length edges * product edges

are_small : (edges indexes steps : List ℕ) (d behind i : ℕ) → 0 < d → d ≤ length edges → i < 24 → ArePositive edges → AreStepsFrom (drop d edges) (drop d indexes) behind steps
    → AreSmall edges d behind (slice_index steps i)
are_small edges indexes steps d behind i some low known positive so_far = record {
  behind_low = omega (arith, so_far.behind_is, product_behind edges d positive);
  product_low =
      let back : suc (d - 1) ≡ d = omega arith in
      let edge : drop (d - 1) edges ≡ slice_index edges (d - 1) ∷ drop d edges = drop-cons edges (d - 1) 0 (omega arith) ∙ ap (λ n. slice_index edges (d - 1) ∷ drop n edges) back in
      let whole : product (drop (d - 1) edges) ≡ slice_index edges (d - 1) * product (drop d edges) = ap product edge in
      let turned : behind * slice_index edges (d - 1) ≡ slice_index edges (d - 1) * product (drop d edges) = ap (λ b. b * slice_index edges (d - 1)) so_far.behind_is ∙ again (product (drop d edges)) (slice_index edges (d - 1)) in
      omega (arith, whole, turned, product_behind edges (d - 1) positive);
  step_low =
      let within : tile_step (drop d edges) (drop d indexes) i ≤ length (drop d edges) * product (drop d edges) = step_within (drop d edges) (drop d indexes) i (drop_positive edges d positive) in
      let fewer : length (drop d edges) * product (drop d edges) ≤ length (drop d edges) * product edges = mul-le-mul_left (length (drop d edges)) (product_behind edges d positive) in
      let shorter : length (drop d edges) * product edges ≤ length edges * product edges = mul-le-mul_right (product edges) (length_behind edges d) in
      omega (arith, so_far.are.steps_are i known, within, fewer, shorter);
}
  where
    again : (m n : ℕ) → m * n ≡ n * m
    again m n = omega arith

pub steps_fit : (s : Tiling) (edges indexes steps : List ℕ) (d behind i : ℕ) → IsTiling s → edges ≡ s.edges → length indexes ≡ length s.extents → 0 < d → d ≤ length indexes → i < 24
    → AreStepsFrom (drop d edges) (drop d indexes) behind steps → (slice_index steps i + behind < 2 ^ 64) × (behind * slice_index edges (d - 1) < 2 ^ 64)
steps_fit s edges indexes steps d behind i tiling is each some low known so_far =
    let long : length edges ≡ length s.extents = ap length is ∙ tiling.same_rank in
    let words : product edges ≤ 2 ^ 20 = subst (λ es. product es ≤ 2 ^ 20) (sym is) tiling.tile_room in
    let small = are_small edges indexes steps d behind i some (omega (arith, long, each)) known (subst ArePositive (sym is) tiling.positive) so_far in
    let few : length edges * product edges ≤ 8 * product edges = mul-le-mul_right (product edges) (omega (arith, long, tiling.rank)) in
    (omega (arith, words, few, small.behind_low, small.step_low), omega (arith, words, small.product_low))

-- ---- one dimension more, in front of these

pub one_in_front : (edges indexes steps : List ℕ) (d behind : ℕ) → 0 < d → d ≤ length edges → d ≤ length indexes → slice_index indexes (d - 1) < 24 → AreStepsFrom (drop d edges) (drop d indexes) behind steps
    → AreStepsFrom (drop (d - 1) edges) (drop (d - 1) indexes) (behind * slice_index edges (d - 1)) (slice_set steps (slice_index indexes (d - 1)) (slice_index steps (slice_index indexes (d - 1)) + behind))
one_in_front edges indexes steps d behind some low_edges low_indexes known so_far =
    let e : ℕ = slice_index edges (d - 1) in
    let x : ℕ = slice_index indexes (d - 1) in
    let v : ℕ = slice_index steps x + behind in
    let back : suc (d - 1) ≡ d = omega arith in
    let es : drop (d - 1) edges ≡ e ∷ drop d edges = drop-cons edges (d - 1) 0 (omega arith) ∙ ap (λ n. e ∷ drop n edges) back in
    let xs : drop (d - 1) indexes ≡ x ∷ drop d indexes = drop-cons indexes (d - 1) 0 (omega arith) ∙ ap (λ n. x ∷ drop n indexes) back in
    rw (es, xs) (record {
      behind_is = ap (λ b. b * e) so_far.behind_is ∙ again (product (drop d edges)) e;
      are = record {
        each = length-set steps x v ∙ so_far.are.each;
        steps_are = λ i lt. elim (cases_eq x i) [
          | inl same ↦ omega (arith, get_or-set_at steps x i v 0 (sym same) (omega (arith, known, so_far.are.each)), ap (slice_index steps) same, so_far.are.steps_are i lt, so_far.behind_is, ap (λ b. if b then product (drop d edges) else 0) (eq-eqb x i same))
          | inr other ↦ omega (arith, get_or-set_other steps x i v 0 (λ is. other (sym is)), so_far.are.steps_are i lt, ap (λ b. if b then product (drop d edges) else 0) (ne_eqb x i other))
        ];
      };
    })
  where
    again : (m n : ℕ) → m * n ≡ n * m
    again m n = omega arith
