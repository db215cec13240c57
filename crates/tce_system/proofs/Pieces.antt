-- Pieces of a file, and the bytes in them.
use Rattle.std.proofs.Common.{◌≡◌, ◌⊎◌, ℕ, ◌+◌, ◌-◌, ◌/◌, ◌<◌, ◌≤◌, Bool, false, List, Some, inl, inr, arith}
use Rattle.std.proofs.Math.Nat.{div-mul-le_self}
use Rattle.std.proofs.lemmas.Nat.{le-div}
use Rattle.std.proofs.lemmas.Bool.{cases_lt}
use Rattle.std.specs.List.{slice_get}

-- a later byte lies in no earlier piece
in_order : (u a b : ℕ) → 0 < u → a ≤ b → a / u ≤ b / u
in_order u a b some le = le-div (a / u) b u some (omega (arith, div-mul-le_self a u))

-- a byte between two others lies in a piece between theirs
pub covered : (w : List Bool) (from unit at n end p : ℕ) → 0 < unit → end ≡ at + n → from ≤ at → at ≤ p → p < at + n
    → ((k : ℕ) → (at - from) / unit ≤ k → k ≤ (end - 1 - from) / unit → slice_get w k ≡ Some false)
    → (from ≤ p) × (slice_get w ((p - from) / unit) ≡ Some false)
covered w from unit at n end p some is begins low high h =
    (omega arith, h ((p - from) / unit) (in_order unit (at - from) (p - from) some (omega arith)) (in_order unit (p - from) (end - 1 - from) some (omega arith)))

-- a hole that is left where pieces were written lies outside of the bytes that they cover
pub marked : (w w' : List Bool) (from unit at n end p : ℕ) → 0 < unit → end ≡ at + n → from < end
    → ((k : ℕ) → slice_get w' k ≡ Some false → (slice_get w k ≡ Some false) × ((k < (at - from) / unit) ⊎ ((end - 1 - from) / unit < k)))
    → (from ≤ p) × (slice_get w' ((p - from) / unit) ≡ Some false)
    → ((from ≤ p) × (slice_get w ((p - from) / unit) ≡ Some false)) × ((p < at) ⊎ (at + n ≤ p))
marked w w' from unit at n end p some is ends h hole =
    let r = h ((p - from) / unit) hole.1 in
    let first : at ≤ p → (at - from) / unit ≤ (p - from) / unit = λ q. in_order unit (at - from) (p - from) some (omega arith) in
    let last : p < end → (p - from) / unit ≤ (end - 1 - from) / unit = λ q. in_order unit (p - from) (end - 1 - from) some (omega arith) in (
      (hole.0, r.0),
      elim r.1 [
        | inl low ↦ elim (cases_lt p at) [ inl l ↦ inl l | inr g ↦ absurd (omega (arith, first g)) ]
        | inr high ↦ elim (cases_lt p end) [ inl l ↦ absurd (omega (arith, last l)) | inr g ↦ inr (omega arith) ]
      ],
    )
