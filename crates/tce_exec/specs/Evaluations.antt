-- The places of an evaluation.
use Rattle.std.specs.Prelude.{◌≡◌, ℕ, false}
use Rattle.tce_space.specs.Tiling.{Tiling}
use Rattle.tce_exec.specs.NodeStates.{Places}
use Rattle.tce_tree.specs.declared.expr.Leaf.{Leaf}
use Rattle.tce_walk.specs.Machine.{operation_of_node}
use Rattle.tce_walk.specs.Tails.{reads_constant}
use Rattle.tce_exec.specs.Workspace.{shape_over}
use Rattle.tce_exec.specs.declared.evaluation.Evaluation.{Evaluation}

abbrev pub places_of : Evaluation → Places
places_of e = record {
  space = e.space.now;
  tree = e.tree.now;
  fusion = e.fusion.now.0.items;
  slots = e.layout.now.0.items;
  result = e.result.now.indexes.items;
}

-- the shape of the array of a tensor with these indexes
abbrev pub shape_of : Evaluation → Leaf → Tiling
shape_of e l = shape_over e.space.now l.indexes.items

-- no operand of node `v` is a constant
abbrev pub ReadsNone : Evaluation → ℕ → Type 0
ReadsNone e v = reads_constant e.tree.now (operation_of_node e.tree.now v) ≡ false
