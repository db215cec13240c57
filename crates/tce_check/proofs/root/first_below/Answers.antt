use Rattle.std.proofs.Common.{◌≡◌, ◌-◌, arith}
use Rattle.tce_tree.specs.ContractionTree.{operations}
use Rattle.tce_check.proofs.FromTables.{match_map, root_below, root_fails}
use Rattle.tce_check.proofs.root.first_below.Goals as goal

pub returns : goal.returns
returns c =
    let tree = c.args.tree.now in
    let last : c.count-root.result - 1 ≡ operations tree - 1 = omega arith in
    match_map _ _ _ _ _
    (root_below tree c.args.tables.now (c.count-root.result - 1) c.args.total c.left_rows-lefts.result.now c.right_rows-rights.result.now last c.left_rows-lefts.ensures.value c.right_rows-rights.ensures.value)
    (λ sum. root_fails tree c.args.tables.now (c.count-root.result - 1) c.args.total sum c.left_rows-lefts.result.now c.right_rows-rights.result.now last c.left_rows-lefts.ensures.value c.right_rows-rights.ensures.value)
    c.first_among.ensures
