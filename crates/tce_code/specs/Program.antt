-- Loop code as a list of operations, and the loops that it spells.
use Rattle.std.specs.Prelude.{ℕ, List, [], ◌∷◌, ◌++◌}
use Rattle.tce_tree.specs.ContractionTree.{Arithmetic, multiply, add, subtract}
use Rattle.tce_code.specs.declared.op.Op.{Op}
use Rattle.tce_code.specs.declared.op.Op.TheVariants.{Open, Close, Clear, Mul, Add, Sub, Acc}

-- what is done with the places of a node: all set to 0, one set to what its operands' words give, or one grown by its operand's word
pub data Action : Type 0 where
  clear : ℕ → Action
  compute : Arithmetic → ℕ → Action
  accumulate : ℕ → Action

-- nothing, an action and what follows it, or a loop over an index with its body and what follows it
pub data Program : Type 0 where
  stop : Program
  step : Action → Program → Program
  loop : ℕ → Program → Program → Program

abbrev pub op_of : Action → Op
op_of (clear v) = Clear v
op_of (compute multiply v) = Mul v
op_of (compute add v) = Add v
op_of (compute subtract v) = Sub v
op_of (accumulate v) = Acc v

-- the list that spells a program
abbrev pub spelled : Program → List Op
spelled stop = []
spelled (step action rest) = op_of action ∷ spelled rest
spelled (loop i body rest) = Open i ∷ (spelled body ++ Close ∷ spelled rest)

abbrev pub first_of : List Program → Program
first_of [] = stop
first_of (program ∷ others) = program

abbrev pub others_of : List Program → List Program
others_of [] = []
others_of (program ∷ others) = others

-- the programs that a list spells: that up to its first `Close` without an `Open`, that from there to the next one, and so on
abbrev pub read_op : Op → List Program → List Program
read_op (Open i) programs = loop i (first_of programs) (first_of (others_of programs)) ∷ others_of (others_of programs)
read_op Close programs = stop ∷ programs
read_op (Clear v) programs = step (clear v) (first_of programs) ∷ others_of programs
read_op (Mul v) programs = step (compute multiply v) (first_of programs) ∷ others_of programs
read_op (Add v) programs = step (compute add v) (first_of programs) ∷ others_of programs
read_op (Sub v) programs = step (compute subtract v) (first_of programs) ∷ others_of programs
read_op (Acc v) programs = step (accumulate v) (first_of programs) ∷ others_of programs

abbrev pub programs_of : List Op → List Program
programs_of [] = stop ∷ []
programs_of (op ∷ rest) = read_op op (programs_of rest)

-- the program that a list spells
abbrev pub program_of : List Op → Program
program_of ops = first_of (programs_of ops)
