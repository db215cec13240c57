-- Bodies of operations alone.
use Rattle.std.specs.Prelude.{◌≡◌, ℕ, ◌-◌, ◌<◌, ◌≤◌, List, drop, length, take, All}
use Rattle.tce_code.specs.Program.{program_of}
use Rattle.tce_code.specs.declared.op.Op.{Op}
use Rattle.tce_code.specs.declared.op.Op.TheVariants.{Open, Close, Clear, Mul, Add, Sub, Acc}
use Rattle.tce_walk.specs.Positions.{program_at}

-- an operation that computes a node
abbrev pub IsOperation : Op → Type 0
IsOperation (Open i) = ⊥
IsOperation Close = ⊥
IsOperation (Clear v) = ⊥
IsOperation (Mul v) = Unit {0}
IsOperation (Add v) = Unit {0}
IsOperation (Sub v) = Unit {0}
IsOperation (Acc v) = Unit {0}

-- from a position on stand such operations, up to the end of the program there
pub record IsStraightTo (ops : List Op) (at end : ℕ) : Type 0 where
  pub behind : at ≤ end
  pub within : end ≤ length ops
  pub is : program_at ops at ≡ program_of (take (end - at) (drop at ops))
  pub each : All IsOperation (take (end - at) (drop at ops))

-- a body of one such operation at least
pub record IsStraightBody (ops : List Op) (at : ℕ) (body : List Op) : Type 0 where
  pub is : program_at ops at ≡ program_of body
  pub some : 0 < length body
  pub each : All IsOperation body
