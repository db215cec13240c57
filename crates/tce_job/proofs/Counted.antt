-- The tiles of the result and of the first operands.
use Rattle.std.proofs.Common.{◌≡◌, ℕ, ◌+◌, ◌*◌, ◌^◌, ◌<◌, ◌≤◌, [], ◌∷◌, length, get_or, take, ap, arith}
use Rattle.std.specs.List.{sum_by}
use Rattle.std.proofs.lemmas.List.{take_all}
use Rattle.std.proofs.lemmas.List.Sums.{sum_by_more, sum_by-append}
use Rattle.tce_space.specs.Tiling.{tiles}
use Rattle.tce_spec.specs.Specification.{Specification}
use Rattle.tce_spec.specs.Operands.{operands, shape_of}
use Rattle.tce_job.specs.Takings.{tile_count}

abbrev pub tiles_of : Specification → ℕ → ℕ
tiles_of s t = tiles (shape_of s t)

-- the sum so far, and its limit
pub record IsCounted (s : Specification) (k count : ℕ) : Type 0 where
  pub sum : count ≡ tiles_of s s.result + sum_by (tiles_of s) (take k (operands s))
  pub limit : count ≤ 2 ^ 48 * (k + 1)

pub first_counted : (s : Specification) (count : ℕ) → count ≡ tiles_of s s.result → count ≤ 2 ^ 48 → IsCounted s 0 count
first_counted s count is limit = record { sum = omega (arith, is); limit = omega arith }

pub next_counted : (s : Specification) (k count here : ℕ) → k < length (operands s) → IsCounted s k count → here ≡ tiles_of s (get_or (operands s) k 0) → here ≤ 2 ^ 48
    → IsCounted s (k + 1) (count + here)
next_counted s k count here within before is limit =
    let more = sum_by_more (tiles_of s) (operands s) k 0 within in
    record { sum = omega (arith, more, before.sum); limit = omega (arith, before.limit) }

pub all_counted : (s : Specification) (k count : ℕ) → length (operands s) ≤ k → IsCounted s k count → count ≡ tile_count s
all_counted s k count past counted =
    let all : take k (operands s) ≡ operands s = take_all k (operands s) past in
    let sums = ap (sum_by (tiles_of s)) all in
    let parts = sum_by-append (tiles_of s) (operands s) (s.result ∷ []) in
    let last : sum_by (tiles_of s) (s.result ∷ []) ≡ tiles_of s s.result = omega arith in
    omega (arith, sums, parts, last, counted.sum)
