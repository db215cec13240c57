use Rattle.std.proofs.Common.{◌≡◌, ◌-◌, ◌<◌, length, arith}
use Rattle.tce_tree.specs.ContractionTree.{operations}
use Rattle.tce_search.proofs.Operands.{are_operands}
use Rattle.tce_search.proofs.pass.memory_at_root.Goals as goal

pub least_fusion-requires : goal.least_fusion-requires
least_fusion-requires c =
    let root = c.count-root.result - 1 in
    let inside : root < operations c.args.tree.now = omega arith in
    let next : length c.args.found.now.lists ≡ root = omega (arith, c.requires.count) in
    are_operands c.args.space.now c.args.tree.now c.args.found.now root (omega arith) c.requires.kept inside next
    c.loops.result c.of_left-lefts.result.now c.of_right-rights.result.now c.loops.ensures.limit c.of_left-lefts.ensures c.of_right-rights.ensures
