-- Rows of tables that are written one after the other.
use Rattle.std.proofs.Common.{◌≡◌, ℕ, ◌+◌, ◌<◌, ◌^◌, List, length, sym, subst, arith, inl, inr}
use Rattle.std.specs.List.{All}
use Rattle.std.proofs.Math.Nat.{eq-or-lt_of_le}
use Rattle.tce_fusion.specs.Row.{Row, rows_at}
use Rattle.tce_cert.specs.Laws.{IsNestingRow, AreNestingRows}

pub nestings_more : (tables : List (List Row)) (v : ℕ) (rows : List Row) → rows ≡ rows_at tables v → All IsNestingRow rows → length rows < 2 ^ 96
    → ((w : ℕ) → w < v → AreNestingRows (rows_at tables w)) → (w : ℕ) → w < v + 1 → AreNestingRows (rows_at tables w)
nestings_more tables v rows same each few before w l = elim (eq-or-lt_of_le {n = w} {m = v} (omega (arith, l))) [
  | inl here ↦ subst (λ u. AreNestingRows (rows_at tables u)) (sym here) (subst AreNestingRows same (record { each = each; few = few }))
  | inr below ↦ before w below
]
