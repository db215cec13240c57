-- The places of the tests' runs.
use Rattle.std.proofs.Common.{◌≡◌, ℕ, zero, suc, ◌*◌, ◌<◌, ◌≤◌, List, length, ap, ◌∙◌, arith}
use Rattle.std.proofs.Math.Nat.{mul-le-mul_right}
use Rattle.tce_words.specs.Rows.{AreRowsAdded}

-- 67 places that are at most 3 apart
pub reach : (t step n : ℕ) → t < n → n ≤ 67 → step ≤ 3 → t * step ≤ 198
reach t step n lt le small =
    let most : t * step ≤ 66 * step = mul-le-mul_right step (omega arith) in
    omega (arith, most)

-- rows that are added leave as many words
pub rows_keep_length : (out factor factor_step row row_step n count : ℕ) (old new : List ℕ) → AreRowsAdded out factor factor_step row row_step n count old new → length new ≡ length old
rows_keep_length out factor factor_step row row_step n zero old new added = ap length added
rows_keep_length out factor factor_step row row_step n (suc k) old new added = added.2.same_length ∙ rows_keep_length out factor factor_step row row_step n k old added.0 added.1
