-- The number of some digits is no less than that of the first ones.
use Rattle.std.proofs.Common.{ℕ, zero, suc, ◌+◌, ◌-◌, ◌*◌, ◌<◌, ◌≤◌, List, [], ◌∷◌, take, get_or, length, arith}
use Rattle.std.specs.Prelude.{fold}
use Rattle.tce_spec.specs.Numbers.{value_of}

abbrev pub value_behind : ℕ → List ℕ → ℕ
value_behind n digits = fold (λ n d. 10 * n + (d - 48)) n digits

grows : (n : ℕ) (ds : List ℕ) → n ≤ value_behind n ds
grows n [] = omega arith
grows n (d ∷ ds) = omega (arith, grows (10 * n + (d - 48)) ds)

at : (n : ℕ) (ds : List ℕ) (k : ℕ) → k < length ds → 10 * value_behind n (take k ds) + (get_or ds k 0 - 48) ≤ value_behind n ds
at n [] k h = absurd (omega arith)
at n (d ∷ ds) zero h = grows (10 * n + (d - 48)) ds
at n (d ∷ ds) (suc k) h = at (10 * n + (d - 48)) ds k (omega arith)

pub value_at : (digits : List ℕ) (k : ℕ) → k < length digits → 10 * value_of (take k digits) + (get_or digits k 0 - 48) ≤ value_of digits
value_at digits k h = at 0 digits k h
