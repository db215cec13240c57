-- Rooms for lines.
use Rattle.std.proofs.Common.{ℕ, ◌+◌, ◌*◌, ◌/◌, ◌<◌, ◌≤◌, max, arith, inl, inr}
use Rattle.std.proofs.Math.Nat.{mul-le-mul_left}
use Rattle.std.proofs.lemmas.Bool.{cases_lt}

pub grid_fits : (room pitch line : ℕ) → 0 < pitch → 2 * pitch ≤ room → line + 1 ≤ max (room / pitch) 2 → pitch * (line + 1) ≤ room
grid_fits room pitch line some h l =
    elim (cases_lt (room / pitch) 2) [
      | inl small ↦ (let most : line + 1 ≤ 2 = omega arith in let row : pitch * (line + 1) ≤ pitch * 2 = mul-le-mul_left pitch most in omega arith)
      | inr large ↦ (let most : line + 1 ≤ room / pitch = omega arith in let row : pitch * (line + 1) ≤ pitch * (room / pitch) = mul-le-mul_left pitch most in omega arith)
    ]
