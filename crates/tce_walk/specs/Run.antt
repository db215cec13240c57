-- What is asked of a run, and what parts of it leave.
use Rattle.std.specs.Prelude.{◌≡◌, ℕ, ◌+◌, ◌<◌, ◌≤◌, true, Option, List, length}
use Rattle.tce_space.specs.Limits.{max_loops}
use Rattle.tce_space.specs.Space.{IndexSpace, IsSpace, extent_at}
use Rattle.tce_tree.specs.ContractionTree.{ContractionTree}
use Rattle.tce_tree.specs.FlatTree.{IsTree}
use Rattle.tce_tree.specs.Fusion.{OrdersFit}
use Rattle.tce_tree.specs.Measure.{IsMeasured}
use Rattle.tce_tree.specs.Value.{Assignment}
use Rattle.tce_tree.specs.WellFormed.{among}
use Rattle.tce_code.specs.CodeFor.{IsCodeFor}
use Rattle.tce_code.specs.Execution.{Setting, State}
use Rattle.tce_code.specs.Plan.{Plan, plan_of}
use Rattle.tce_code.specs.Program.{Program}
use Rattle.tce_code.specs.Shape.{EachAction, ActionFits, IsLoop, most_open}
use Rattle.tce_code.specs.declared.op.Op.{Op}
use Rattle.tce_walk.specs.Touches.{touch_bound}
use Rattle.tce_walk.specs.Machine.{after}
use Rattle.tce_walk.specs.Positions.{EndsAt}

-- the operations are the code of the tree with this fusion, for some loop orders
pub record IsCodeOf (tree : ContractionTree) (fusion : List ℕ) (ops : List Op) : Type 0 where
  pub orders : List (List ℕ)
  pub fit : OrdersFit tree orders
  pub code : IsCodeFor tree (plan_of fusion orders) ops

-- a machine is one of this tree and this space, in which the tree's loops are not too many
pub record RunsOver (space : IndexSpace) (tree : ContractionTree) (own : IndexSpace) (s : Setting) : Type 0 where
  pub space_is : own ≡ space
  pub tree_is : s.tree ≡ tree
  pub extents : s.elements.extent ≡ extent_at space
  pub measured : IsMeasured space tree

-- the assignment of 0 to each index
abbrev pub zeros : Assignment
zeros = λ i. 0

-- what every space and every tree keeps
pub record AreKept (space : IndexSpace) (tree : ContractionTree) : Type 0 where
  pub is_space : IsSpace space
  pub is_tree : IsTree tree

-- a part of the code of a tree, where each open loop has a number inside its extent
pub record IsPart (space : IndexSpace) (tree : ContractionTree) (program : Program) (a : Assignment) : Type 0 where
  pub plan : Plan
  pub fit : OrdersFit tree plan.orders
  pub opened : List ℕ
  pub shape : EachAction (ActionFits tree plan) (IsLoop tree) program opened
  pub few : length opened + most_open program ≤ max_loops
  pub inside : (i : ℕ) → among opened i ≡ true → a i < extent_at space i

-- a run of a program, from one state to another with so many touches before and after
pub record IsRun (space : IndexSpace) (tree : ContractionTree) (s : Setting) (program : Program) (a : Assignment) (before now : Option State) (t u : ℕ) : Type 0 where
  pub state : now ≡ after s program a before
  pub touches : u ≤ t + touch_bound space tree program

-- where a program ends that begins at a position
pub record IsEnd (ops : List Op) (start at : ℕ) : Type 0 where
  pub ends : EndsAt ops start at
  pub behind : start ≤ at
  pub within : at ≤ length ops
