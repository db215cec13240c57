-- Bands: loops that stand directly in one another round a body that may run at their numbers in any sequence that ends with the last of them.
use Rattle.std.specs.Prelude.{◌≡◌, ℕ, ◌-◌, ◌<◌, ◌==◌, ◌&&◌, ◌||◌, ◌⊎◌, Bool, true, false, not, if◌then◌else◌, IsTrue, List, map}
use Rattle.std.specs.List.{list_all, fold}
use Rattle.tce_space.specs.IndexSet.{has}
use Rattle.tce_space.specs.Tiling.{ArePositive}
use Rattle.tce_tree.specs.ContractionTree.{ContractionTree, leaf, constant, binary, sum, operations, node, left_tree, right_tree}
use Rattle.tce_tree.specs.Fusion.{kept_dims}
use Rattle.tce_tree.specs.Value.{Assignment}
use Rattle.tce_tree.specs.WellFormed.{among}
use Rattle.tce_block.specs.Parts.{blocks}
use Rattle.tce_code.specs.Execution.{Setting, State, exec}
use Rattle.tce_code.specs.Program.{Action, clear, compute, accumulate, Program, stop, step, loop}
use Rattle.tce_walk.specs.PartRuns.{exec_part}
use Rattle.tce_walk.specs.Tails.{loops_round}

-- the nodes whose places do not depend on what the turns before have left there
abbrev pub Known : Type 0
Known = ℕ → Bool

abbrev pub also : Known → ℕ → Known
also known v = λ u. u == v || known u

abbrev pub is_sum : ContractionTree → Bool
is_sum (leaf tensor indexes) = false
is_sum (constant number) = false
is_sum (binary op left right) = false
is_sum (sum indexes operand) = true

-- an operand is no node, or a known one
abbrev pub is_ready : Known → ContractionTree → ℕ → Bool
is_ready known (leaf tensor indexes) v = true
is_ready known (constant number) v = true
is_ready known (binary op left right) v = known v
is_ready known (sum indexes operand) v = known v

abbrev pub left_ready : ContractionTree → Known → ℕ → Bool
left_ready tree known v = is_ready known (left_tree (node tree v)) (v - 1 - operations (right_tree (node tree v)))

abbrev pub right_ready : ContractionTree → Known → ℕ → Bool
right_ready tree known v = is_ready known (right_tree (node tree v)) (v - 1)

-- One node, `t`, carries what the turns leave one after the other: it is a sum that grows, or all loops of the band are among its kept dims.
-- Each other node that an action writes is a sum that is cleared first, or has one place, which is set. Nothing else is read but what
-- is known, and no action writes a node outside.
abbrev pub action_passes : ContractionTree → List ℕ → List ℕ → ℕ → Known → Known → Action → Bool
action_passes tree fusion order t outside known (clear v) = not (outside v) && (not (v == t) && is_sum (node tree v))
action_passes tree fusion order t outside known (compute op v) =
    not (outside v) && (not (is_sum (node tree v)) && (left_ready tree known v && (right_ready tree known v
    && (if v == t then list_all (has (kept_dims tree fusion v)) order else kept_dims tree fusion v == 0))))
action_passes tree fusion order t outside known (accumulate v) = not (outside v) && (is_sum (node tree v) && (left_ready tree known v && (v == t || known v)))

abbrev pub written_by : Action → ℕ
written_by (clear v) = v
written_by (compute op v) = v
written_by (accumulate v) = v

-- what an action writes is known, but for node `t`
abbrev pub gained : ℕ → Known → ℕ → Known
gained t known v = if v == t then known else also known v

abbrev pub known_after : ℕ → Known → Program → Known
known_after t known stop = known
known_after t known (step action rest) = known_after t (gained t known (written_by action)) rest
known_after t known (loop i body rest) = known_after t (known_after t known body) rest

-- each action passes, and no loop of the band stands in the body
abbrev pub passes : ContractionTree → List ℕ → List ℕ → ℕ → Known → Known → Program → Bool
passes tree fusion order t outside known stop = true
passes tree fusion order t outside known (step action rest) =
    action_passes tree fusion order t outside known action && passes tree fusion order t outside (gained t known (written_by action)) rest
passes tree fusion order t outside known (loop i body rest) =
    not (among order i) && (passes tree fusion order t outside known body && passes tree fusion order t outside (known_after t known body) rest)

-- the actions pass, and in the end all nodes are known but the one that carries
pub record IsBand (tree : ContractionTree) (fusion order : List ℕ) (t : ℕ) (outside : Known) (body : Program) : Type 0 where
  pub passes : IsTrue (passes tree fusion order t outside outside body)
  pub rest : (v : ℕ) → (v ≡ t) ⊎ IsTrue (known_after t outside body v)

-- each loop of a program has some turns
abbrev pub HaveTurns : Setting → Program → Type 0
HaveTurns s stop = Unit {0}
HaveTurns s (step action rest) = HaveTurns s rest
HaveTurns s (loop i body rest) = (0 < s.elements.extent i) × HaveTurns s body × HaveTurns s rest

-- a band leaves the same block by block, whatever the edges
abbrev pub BlocksMakeBands : Type 0
BlocksMakeBands =
    (s : Setting) (order : List ℕ) (t : ℕ) (outside : Known) (body : Program) (a : Assignment) (edge : ℕ → ℕ) (before : State)
    → ArePositive (map s.elements.extent order) → ArePositive (map edge order) → HaveTurns s body → IsBand s.tree s.fusion order t outside body
    → fold (λ state part. exec_part s body order part state a) before (blocks (map s.elements.extent order) (map edge order))
    ≡ exec s (loops_round order body) before a
