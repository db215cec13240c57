-- What stays from run to run of one tail.
use Rattle.std.specs.Prelude.{◌≡◌, ℕ, IsTrue, List, map, Some}
use Rattle.std.specs.List.{All}
use Rattle.tce_space.specs.Space.{extent_at, edge_at}
use Rattle.tce_block.specs.Cuts.{IsCut, extents_of, edges_of, part_of}
use Rattle.tce_block.specs.Parts.{blocks}
use Rattle.tce_block.specs.declared.cut.Block.{Block}
use Rattle.tce_block.specs.declared.cut.Cut.{Cut}
use Rattle.tce_exec.specs.NodeStates.{Places}
use Rattle.tce_tree.specs.FlatTree.{right_of}
use Rattle.tce_tree.specs.declared.node.Operand.{Operand}
use Rattle.tce_walk.specs.declared.machine.Tail.{Tail}
use Rattle.tce_exec.specs.Sequences.{IsLoopSequence}
use Rattle.tce_exec.specs.Blocks.{loops_of}
use Rattle.tce_exec.specs.Positions.{IsPosition}
use Rattle.tce_exec.specs.Windows.{AreSteps, FitSequence}
use Rattle.tce_exec.specs.declared.plan.Nest.{Nest}
use Rattle.tce_exec.specs.declared.plan.Plan.{Plan}
use Rattle.tce_exec.specs.declared.plan.Kept.{Kept}

-- a sequence of a tail's loops, and the steps of its windows; where a product is joined to its sum, the loops that stand in the sequence have these steps
pub record IsNest (p : Places) (tail : Tail) (nest : Nest) : Type 0 where
  pub sequence_is : IsLoopSequence (loops_of tail) nest.sequence
  pub steps_are : AreSteps p tail nest.windows
  pub loops_fit : (v : ℕ) → tail.sum ≡ Some v → (o : Operand) → right_of p.tree tail.node ≡ Some o → FitSequence nest.windows nest.sequence

-- these are the blocks of a box, all of them and in order
abbrev pub AreAllBlocks : List Cut → List Block → Type 0
AreAllBlocks cuts list = map part_of list ≡ blocks (extents_of cuts) (edges_of cuts)

-- the cuts of its tail's loops, and the nest of them; where the blocks are few, all are listed
pub record IsPlan (p : Places) (plan : Plan) : Type 0 where
  pub cuts_are : All IsCut plan.cuts.items
  pub extents_are : extents_of plan.cuts.items ≡ map (extent_at p.space) (loops_of plan.tail)
  pub edges_are : edges_of plan.cuts.items ≡ map (edge_at p.space) (loops_of plan.tail)
  pub nest_is : IsNest p plan.tail plan.nest
  pub list_is : IsTrue plan.few → AreAllBlocks plan.cuts.items plan.list.items

-- it is that of this tail
pub record IsPlanFor (p : Places) (tail : Tail) (plan : Plan) : Type 0 where
  pub is : IsPlan p plan
  pub tail_is : plan.tail ≡ tail

-- what a run keeps is right: where the last block began, and each plan that was made
pub record AreKept (p : Places) (k : Kept) : Type 0 where
  pub position : IsPosition p.space k.position
  pub plans : All (λ (plan : Plan). IsTrue plan.made → IsPlan p plan) k.plans
