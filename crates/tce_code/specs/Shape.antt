-- How loop code is shaped: what stands in which loops.
use Rattle.std.specs.Prelude.{◌≡◌, ℕ, ◌+◌, ◌<◌, ◌==◌, IsTrue, max, List, [], ◌∷◌, ◌++◌, take, if◌then◌else◌}
use Rattle.tce_space.specs.IndexSet.{has, count}
use Rattle.tce_tree.specs.ContractionTree.{ContractionTree, leaf, constant, binary, sum, Arithmetic, operations, loops, node}
use Rattle.tce_tree.specs.Fusion.{fused_at, order_at}
use Rattle.tce_code.specs.Plan.{Plan}
use Rattle.tce_code.specs.Program.{Action, clear, compute, accumulate, Program, stop, step, loop}

-- a fact on each action and the loops that are open there, outermost first, and one on the index of each loop
abbrev pub EachAction : (Action → List ℕ → Type 0) → (ℕ → Type 0) → Program → List ℕ → Type 0
EachAction P Q stop opened = Unit {0}
EachAction P Q (step action rest) opened = P action opened × EachAction P Q rest opened
EachAction P Q (loop i body rest) opened = Q i × EachAction P Q body (opened ++ i ∷ []) × EachAction P Q rest opened

-- the tree's last node is one of this arithmetic, or a sum
abbrev pub IsBinary : Arithmetic → ContractionTree → Type 0
IsBinary op (leaf tensor indexes) = ⊥
IsBinary op (constant number) = ⊥
IsBinary op (binary other left right) = op ≡ other
IsBinary op (sum indexes operand) = ⊥

abbrev pub IsSum : ContractionTree → Type 0
IsSum (leaf tensor indexes) = ⊥
IsSum (constant number) = ⊥
IsSum (binary op left right) = ⊥
IsSum (sum indexes operand) = Unit {0}

-- a sum but the root is cleared where just the loops of its fused indexes are open, and a node is computed by the action of its kind
-- where just its own loops are open; both in the sequence of its order
abbrev pub ActionFits : ContractionTree → Plan → Action → List ℕ → Type 0
ActionFits tree plan (clear v) opened =
    (v + 1 < operations tree) × IsSum (node tree v) × (opened ≡ take (count (fused_at plan.fusion v)) (order_at plan.orders v))
ActionFits tree plan (compute op v) opened = (v < operations tree) × IsBinary op (node tree v) × (opened ≡ order_at plan.orders v)
ActionFits tree plan (accumulate v) opened = (v < operations tree) × IsSum (node tree v) × (opened ≡ order_at plan.orders v)

-- a loop of some node
abbrev pub IsLoop : ContractionTree → ℕ → Type 0
IsLoop tree i = (v : ℕ) × (v < operations tree) × IsTrue (has (loops (node tree v)) i)

-- how many actions of a program compute node `u`
abbrev pub times_computed : Program → ℕ → ℕ
times_computed stop u = 0
times_computed (step (clear v) rest) u = times_computed rest u
times_computed (step (compute op v) rest) u = (if v == u then 1 else 0) + times_computed rest u
times_computed (step (accumulate v) rest) u = (if v == u then 1 else 0) + times_computed rest u
times_computed (loop i body rest) u = times_computed body u + times_computed rest u

-- how many loops are open at once, at most
abbrev pub most_open : Program → ℕ
most_open stop = 0
most_open (step action rest) = most_open rest
most_open (loop i body rest) = max (most_open body + 1) (most_open rest)
