-- Programs that begin at a position of a list of operations.
use Rattle.std.specs.Prelude.{◌≡◌, ℕ, ◌+◌, List, drop}
use Rattle.tce_tree.specs.ContractionTree.{multiply, add, subtract}
use Rattle.tce_code.specs.Program.{Program, stop, step, clear, compute, accumulate, first_of, others_of, programs_of}
use Rattle.tce_code.specs.declared.op.Op.{Op}
use Rattle.tce_code.specs.declared.op.Op.TheVariants.{Open, Close, Clear, Mul, Add, Sub, Acc}

-- the programs from a position on
abbrev pub programs_at : List Op → ℕ → List Program
programs_at ops at = programs_of (drop at ops)

-- the program from a position up to the first `Close` without an `Open`
abbrev pub program_at : List Op → ℕ → Program
program_at ops at = first_of (programs_at ops at)

-- `at` is where the program that begins at `start` ends: at its `Close`, or at the list's end
pub record EndsAt (ops : List Op) (start at : ℕ) : Type 0 where
  pub next : first_of (others_of (programs_at ops start)) ≡ program_at ops (at + 1)
  pub others : others_of (others_of (programs_at ops start)) ≡ others_of (programs_at ops (at + 1))

-- an operation that neither begins nor ends a loop
abbrev pub IsPlain : Op → Type 0
IsPlain (Open i) = ⊥
IsPlain Close = ⊥
IsPlain (Clear v) = Unit {0}
IsPlain (Mul v) = Unit {0}
IsPlain (Add v) = Unit {0}
IsPlain (Sub v) = Unit {0}
IsPlain (Acc v) = Unit {0}

-- the program of such an operation alone
abbrev pub plain_program : Op → Program
plain_program (Open i) = stop
plain_program Close = stop
plain_program (Clear v) = step (clear v) stop
plain_program (Mul v) = step (compute multiply v) stop
plain_program (Add v) = step (compute add v) stop
plain_program (Sub v) = step (compute subtract v) stop
plain_program (Acc v) = step (accumulate v) stop
