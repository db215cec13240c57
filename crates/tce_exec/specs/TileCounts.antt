-- How many tiles the operations of a body touch in one block.
use Rattle.std.specs.Prelude.{ℕ, ◌+◌, ◌==◌, if◌then◌else◌, Option, List}
use Rattle.std.specs.declared.option.Option.TheVariants.{Some, None}
use Rattle.std.specs.List.{sum_by}
use Rattle.tce_tree.specs.ContractionTree.{ContractionTree, operations}
use Rattle.tce_tree.specs.FlatTree.{left_of, right_of}
use Rattle.tce_tree.specs.declared.node.Operand.{Operand}
use Rattle.tce_tree.specs.declared.node.Operand.TheVariants.{Leaf, Constant, Node}
use Rattle.tce_code.specs.declared.op.Op.{Op}
use Rattle.tce_exec.specs.Bodies.{node_of_op}

-- a tensor's word takes a tile
abbrev pub tile_count_of_operand : Operand → ℕ
tile_count_of_operand (Leaf l) = 1
tile_count_of_operand (Constant k) = 0
tile_count_of_operand (Node u) = 0

abbrev pub tile_count_of_right : Option Operand → ℕ
tile_count_of_right None = 0
tile_count_of_right (Some o) = tile_count_of_operand o

-- and so does the root's
abbrev pub tile_count_of_place : ContractionTree → ℕ → ℕ
tile_count_of_place tree v = if v + 1 == operations tree then 1 else 0

abbrev pub tile_count_of_node : ContractionTree → ℕ → ℕ
tile_count_of_node tree v = tile_count_of_operand (left_of tree v) + tile_count_of_right (right_of tree v) + tile_count_of_place tree v

abbrev pub tile_count : ContractionTree → List Op → ℕ
tile_count tree ops = sum_by (λ op. tile_count_of_node tree (node_of_op op)) ops
