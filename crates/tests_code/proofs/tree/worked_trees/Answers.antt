use Rattle.tests_code.proofs.WorkedTree.{worked_nodes, worked_values, worked_faults}
use Rattle.tests_code.proofs.tree.worked_trees.Goals as goal

pub returns : goal.returns
returns c = record { nodes = worked_nodes; values = worked_values; faults = worked_faults }
