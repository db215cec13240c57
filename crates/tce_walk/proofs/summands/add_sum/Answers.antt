use Rattle.std.proofs.Common.{refl, ap, ◌∙◌, sym}
use Rattle.tce_walk.proofs.TermSums.{adds_sum, left_node}
use Rattle.tce_walk.specs.Terms.{operand_tree}
use Rattle.tce_walk.proofs.summands.add_sum.Goals as goal
use Rattle.tce_walk.proofs.summands.add_sum.Goals.{in-Node, in-Leaf, in-Leaf-2}

pub returns : goal.returns
returns c = λ t.
    adds_sum c.args.tree.now c.args.v c.args.factor (record { factor = c.args.factor; loops = c.in-Some.loops; operand = c.match-left.operand }) c.args.summands.now.items c.insert.new.summands.items
    c.requires.node c.requires.sum refl c.in-Some.ensures
    (elim c.match-left.branch [
      | in-Node w ↦ ap (operand_tree c.args.tree.now) w.operand-is ∙ (left_node c.args.tree.now c.args.v w.in-Node.u c.requires.node (sym w.in-Node.is ∙ c.left.ensures.value)).1
      | in-Leaf w ↦ ap (operand_tree c.args.tree.now) w.operand-is
      | in-Leaf-2 w ↦ ap (operand_tree c.args.tree.now) w.operand-is
    ])
    (c.insert.ensures t)
