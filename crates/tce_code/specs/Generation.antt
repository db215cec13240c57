-- The loop code that is generated for a tree: each node's loops, with its operands' loops inside where their indexes are fused.
use Rattle.std.specs.Prelude.{ℕ, suc, ◌+◌, ◌-◌, ◌==◌, nat_lt, List, [], ◌∷◌, drop, if◌then◌else◌}
use Rattle.tce_space.specs.IndexSet.{count}
use Rattle.tce_tree.specs.ContractionTree.{ContractionTree, leaf, constant, binary, sum, is_leaf, operations}
use Rattle.tce_tree.specs.Fusion.{fused_at, order_at}
use Rattle.tce_code.specs.Program.{Program, stop, step, loop, clear, compute, accumulate}
use Rattle.tce_code.specs.Plan.{Plan}

-- one program and then another
abbrev pub followed_by : Program → Program → Program
followed_by stop q = q
followed_by (step action rest) q = step action (followed_by rest q)
followed_by (loop i body rest) q = loop i body (followed_by rest q)

-- the loops from depth `depth` on, with `inner d` in front of what stands at depth `d`
abbrev pub nest : (ℕ → Program) → ℕ → List ℕ → Program → Program
nest inner depth [] last = followed_by (inner depth) last
nest inner depth (i ∷ order) last = followed_by (inner depth) (loop i (nest inner (suc depth) order last) stop)

-- the action of node `v`
abbrev pub computing : ContractionTree → ℕ → Program
computing (leaf tensor indexes) v = stop
computing (constant number) v = stop
computing (binary op left right) v = step (compute op v) stop
computing (sum indexes operand) v = step (accumulate v) stop

-- the loops of node `v` from depth `depth` on
abbrev pub loops_from : Plan → ContractionTree → ℕ → (ℕ → Program) → ℕ → Program
loops_from plan tree v inner depth = nest inner depth (drop depth (order_at plan.orders v)) (computing tree v)

-- what stands at depth `depth` of an operand that joins the loops at depth `joint`
abbrev pub at_depth : ℕ → ℕ → Program → Program → Program
at_depth joint depth above here = if nat_lt depth joint then above else (if depth == joint then here else stop)

-- a sum begins from 0
abbrev pub clearing : ContractionTree → ℕ → Program
clearing (leaf tensor indexes) v = stop
clearing (constant number) v = stop
clearing (binary op left right) v = stop
clearing (sum indexes operand) v = step (clear v) stop

-- what stands at a depth of an operand, where `v` is the number of its node if it is one
abbrev pub operand_code : Plan → ContractionTree → ℕ → (ℕ → Program) → ℕ → Program
operand_code plan tree v inner depth =
    if is_leaf tree then stop
    else at_depth (count (fused_at plan.fusion v)) depth (inner depth) (followed_by (clearing tree v) (loops_from plan tree v inner depth))

-- what stands at a depth of the loops of a tree whose nodes are numbered from `first` on
abbrev pub inner_code : Plan → ℕ → ContractionTree → ℕ → Program
inner_code plan first (leaf tensor indexes) depth = stop
inner_code plan first (constant number) depth = stop
inner_code plan first (binary op left right) depth =
    followed_by
    (operand_code plan left (first + operations left - 1) (inner_code plan first left) depth)
    (operand_code plan right (first + operations left + operations right - 1) (inner_code plan (first + operations left) right) depth)
inner_code plan first (sum indexes operand) depth =
    operand_code plan operand (first + operations operand - 1) (inner_code plan first operand) depth

-- the code of a tree
abbrev pub code_of : Plan → ContractionTree → Program
code_of plan tree = loops_from plan tree (operations tree - 1) (inner_code plan 0 tree) 0
