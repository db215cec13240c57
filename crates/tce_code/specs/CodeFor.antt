-- What makes a list of operations the code of a tree with a fusion and loop orders.
use Rattle.std.specs.Prelude.{◌≡◌, ℕ, ◌-◌, ◌<◌, ◌≤◌, List, []}
use Rattle.tce_space.specs.Limits.{max_loops}
use Rattle.tce_tree.specs.ContractionTree.{ContractionTree, operations, dims}
use Rattle.tce_tree.specs.Value.{Assignment, Elements, IsInExtents, value}
use Rattle.tce_tree.specs.Fusion.{kept_dims}
use Rattle.tce_code.specs.Program.{spelled, program_of}
use Rattle.tce_code.specs.Execution.{State, exec, ReadsRight, coordinates}
use Rattle.tce_code.specs.Plan.{Plan, setting_of}
use Rattle.tce_code.specs.Shape.{EachAction, ActionFits, IsLoop, times_computed, most_open}
use Rattle.tce_code.specs.declared.op.Op.{Op}

-- where the code starts from a state in which the place of the root at `b` is 0, it leaves the tree's value at `b` there
abbrev pub LeavesValue : ContractionTree → Plan → List Op → Elements → State → Assignment → Assignment → Type 0
LeavesValue tree plan ops e state a b =
    state (operations tree - 1) (coordinates (kept_dims tree plan.fusion (operations tree - 1)) b) ≡ 0
    → exec (setting_of tree e plan) (program_of ops) state a (operations tree - 1) (coordinates (kept_dims tree plan.fusion (operations tree - 1)) b)
    ≡ value e tree b

-- Each `Open` has its `Close`. Each node is computed by one operation of its kind, where just its own loops are open; no more than ten
-- loops are open at once; the root is not cleared. Whatever the places hold before and whatever the elements are, the operands' values are
-- found wherever they are read, and the tree's value is left in each place of the root that was 0.
pub record IsCodeFor (tree : ContractionTree) (plan : Plan) (ops : List Op) : Type 0 where
  pub matched : spelled (program_of ops) ≡ ops
  pub shape : EachAction (ActionFits tree plan) (IsLoop tree) (program_of ops) []
  pub once : (v : ℕ) → v < operations tree → times_computed (program_of ops) v ≡ 1
  pub few : most_open (program_of ops) ≤ max_loops
  pub reads : (e : Elements) (state : State) (a : Assignment) → ReadsRight (setting_of tree e plan) (program_of ops) state a
  pub leaves : (e : Elements) (state : State) (a b : Assignment) → IsInExtents e (dims tree) b → LeavesValue tree plan ops e state a b
