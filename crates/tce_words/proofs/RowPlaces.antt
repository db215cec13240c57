-- Where runs go in blocks.
use Rattle.std.proofs.Common.{◌≡◌, ℕ, ◌+◌, ◌*◌, ◌<◌, ◌≤◌, arith}
use Rattle.std.proofs.Math.Nat.{mul-le-mul_right}

-- place t of a row, below its end
pub row_below : (outer extent inner o i t : ℕ) → o < outer → i < inner → t < extent → o * (extent * inner) + i + t * inner < outer * (extent * inner)
row_below outer extent inner o i t o_lt i_lt t_lt =
    let along : (t + 1) * inner ≤ extent * inner = mul-le-mul_right inner (omega arith) in
    let above : (o + 1) * (extent * inner) ≤ outer * (extent * inner) = mul-le-mul_right (extent * inner) (omega arith) in
    let one_more : (o + 1) * (extent * inner) ≡ o * (extent * inner) + extent * inner = omega arith in
    omega (arith, along, above, one_more)
