use Rattle.std.proofs.Common.{◌+◌, inl, inr, sym, subst}
use Rattle.tce_tree.specs.ContractionTree.{node_loops}
use Rattle.tce_fusion.specs.Row.{rows_joined}
use Rattle.tce_nesting.specs.Ends.{IsTopOf}
use Rattle.tce_check.proofs.Reaches.{kept_reach, one_below}
use Rattle.tce_check.proofs.steps.Node.reach_with.Goals as goal

pub loop-top-preserved : goal.loop-top-preserved
loop-top-preserved c left right are ll rl low =
    let node = c.args.self.now in
    let top = c.top-item.result in
    let is = subst (IsTopOf (node_loops node.tree.now node.number) (rows_joined left right)) (sym c.top-item.is) (are c.loop-top.top-index top c.loop-top-test.true) in
    elim (one_below c.loop-top.least c.reach_at.result c.min-least.result (left.cost + right.cost) c.min-least.ensures low) [
      | inl before ↦ c.loop-top.invariant left right are ll rl before
      | inr here ↦
          kept_reach node.space.now node.tree.now node.outer node.number node.rows.now top c.reach_at.result node.kept.now.reaches.now c.requires.reaches c.reach_at.ensures left right is ll rl here
    ]
