-- Tails of loop code: loops round the action of one node, or round that of a product and of the sum that takes it, with nothing else inside.
use Rattle.std.specs.Prelude.{ℕ, ◌==◌, ◌&&◌, ◌||◌, Bool, true, false, if◌then◌else◌, List, [], ◌∷◌, Option}
use Rattle.std.specs.declared.option.Option.TheVariants.{Some, None}
use Rattle.std.specs.Option.{option_map}
use Rattle.tce_tree.specs.ContractionTree.{ContractionTree, leaf, constant, binary, sum, multiply, add, subtract, node, left_tree, right_tree, parent}
use Rattle.tce_code.specs.Program.{Program, stop, step, loop, clear, compute, accumulate}

-- loops round one program, the first of them outermost
abbrev pub loops_round : List ℕ → Program → Program
loops_round [] inside = inside
loops_round (i ∷ order) inside = loop i (loops_round order inside) stop

abbrev pub is_stop : Program → Bool
is_stop stop = true
is_stop (step action rest) = false
is_stop (loop i body rest) = false

abbrev pub is_number : Option ℕ → ℕ → Bool
is_number None v = false
is_number (Some u) v = u == v

-- nothing but the `Acc` of the parent of `v`
abbrev pub accumulates_parent : ContractionTree → ℕ → Program → Bool
accumulates_parent tree v stop = false
accumulates_parent tree v (step (clear u) rest) = false
accumulates_parent tree v (step (compute op u) rest) = false
accumulates_parent tree v (step (accumulate u) rest) = is_number (parent tree v) u && is_stop rest
accumulates_parent tree v (loop i body rest) = false

-- one node's action alone, or that of a product and then that of its parent, a sum
abbrev pub is_tail_action : ContractionTree → Program → Bool
is_tail_action tree stop = false
is_tail_action tree (step (clear v) rest) = false
is_tail_action tree (step (compute multiply v) rest) = is_stop rest || accumulates_parent tree v rest
is_tail_action tree (step (compute add v) rest) = is_stop rest
is_tail_action tree (step (compute subtract v) rest) = is_stop rest
is_tail_action tree (step (accumulate v) rest) = is_stop rest
is_tail_action tree (loop i body rest) = false

-- the loops of a tail, where the program is one
abbrev pub tail_loops : ContractionTree → Program → Option (List ℕ)
tail_loops tree stop = None
tail_loops tree (step action rest) = if is_tail_action tree (step action rest) then Some [] else None
tail_loops tree (loop i body rest) = if is_stop rest then option_map (λ order. i ∷ order) (tail_loops tree body) else None

abbrev pub is_constant : ContractionTree → Bool
is_constant (leaf tensor indexes) = false
is_constant (constant number) = true
is_constant (binary op left right) = false
is_constant (sum indexes operand) = false

-- some action has a constant operand
abbrev pub reads_constant : ContractionTree → Program → Bool
reads_constant tree stop = false
reads_constant tree (step (clear v) rest) = reads_constant tree rest
reads_constant tree (step (compute op v) rest) =
    is_constant (left_tree (node tree v)) || is_constant (right_tree (node tree v)) || reads_constant tree rest
reads_constant tree (step (accumulate v) rest) = is_constant (left_tree (node tree v)) || reads_constant tree rest
reads_constant tree (loop i body rest) = reads_constant tree body || reads_constant tree rest
