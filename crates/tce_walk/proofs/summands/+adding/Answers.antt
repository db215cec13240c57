use Rattle.std.proofs.Common.{Some, sym, ap, ◌∙◌}
use Rattle.tce_walk.proofs.TermSums.{adds_node, adds_both, adds_difference, adds_left_times, adds_right_times, left_node, right_node, left_is_constant, right_is_constant, times_is, minus_is}
use Rattle.tce_walk.proofs.summands.+adding.Goals as goal

pub add_left-returns-in-Node : goal.add_left-returns-in-Node
add_left-returns-in-Node t c = λ r.
    let child = left_node c.args.tree.now c.args.v c.in-Node.u c.requires (sym c.in-Node.is ∙ c.left.ensures.value) in
    adds_node c.args.tree.now _ c.in-Node.u c.args.factor c.args.summands.now.items c.add_node.new.summands.items child.1 (c.add_node.ensures r)

pub add_right-returns-in-Some-Node : goal.add_right-returns-in-Some-Node
add_right-returns-in-Some-Node t c = λ r.
    let child = right_node c.args.tree.now c.args.v c.in-Some-Node.u c.requires (ap Some (sym c.in-Some-Node.field-0-is) ∙ c.in-Some-Node.ensures.value) in
    adds_node c.args.tree.now _ c.in-Some-Node.u c.args.factor c.args.summands.now.items c.add_node.new.summands.items child.1 (c.add_node.ensures r)

pub add_node-returns-then-add_left : goal.add_node-returns-then-add_left
add_node-returns-then-add_left t c = λ r.
    adds_both c.args.tree.now c.args.v c.args.factor c.args.summands.now.items c.add_left.new.summands.items c.add_right.new.summands.items c.requires (sym c.in-Add.ensures)
    (c.add_left.ensures c.if-add_left.true) (c.add_right.ensures r)

pub add_node-returns-then-add_left-2 : goal.add_node-returns-then-add_left-2
add_node-returns-then-add_left-2 t c = λ r.
    adds_difference c.args.tree.now c.args.v c.args.factor _ c.args.summands.now.items c.add_left-in-Sub.new.summands.items c.add_right-then-add_left-2.new.summands.items
    c.requires (sym c.in-Sub.ensures) c.ranges.factor.fits (minus_is c.args.factor) (c.add_left-in-Sub.ensures c.if-add_left-2.true) (c.add_right-then-add_left-2.ensures r)

pub add_product-returns-in-Some : goal.add_product-returns-in-Some
add_product-returns-in-Some t c = λ r.
    adds_left_times c.args.tree.now c.args.v c.args.factor c.in-Some.number _ c.args.summands.now.items c.add_right.new.summands.items c.requires.node c.requires.product
    (left_is_constant c.args.tree.now c.args.v c.in-Some.number c.requires.node c.in-Some.ensures) (times_is c.args.factor c.in-Some.number) (c.add_right.ensures r)

pub add_product-returns-in-Some-right_constant : goal.add_product-returns-in-Some-right_constant
add_product-returns-in-Some-right_constant t c = λ r.
    adds_right_times c.args.tree.now c.args.v c.args.factor c.in-Some-right_constant.number _ c.args.summands.now.items c.add_left.new.summands.items c.requires.node c.requires.product
    (right_is_constant c.args.tree.now c.args.v c.in-Some-right_constant.number c.in-Some-right_constant.ensures) (times_is c.args.factor c.in-Some-right_constant.number) (c.add_left.ensures r)
