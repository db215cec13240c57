-- A room that refuses one call.
use Rattle.std.specs.Prelude.{ℕ, zero, suc, List, Option, Some, None}

-- its takings, and how many calls come before the one that it refuses; None once it was refused
pub record Refusing : Type 0 where
  pub takings : List (ℕ × ℕ)
  pub refusal : Option ℕ

-- the same after one call more
abbrev pub next_refusal : Option ℕ → Option ℕ
next_refusal None = None
next_refusal (Some zero) = None
next_refusal (Some (suc calls)) = Some calls
