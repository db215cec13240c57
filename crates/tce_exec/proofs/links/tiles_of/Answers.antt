use Rattle.std.proofs.Common.{◌≡◌, ◌+◌, ◌<◌, ◌∙◌, ℕ, List, [], ◌∷◌, get_or, length, refl, sym, ap, take, arith}
use Rattle.std.proofs.lemmas.List.Sums.{sum_by-take-le, sum_by_more}
use Rattle.tce_code.specs.declared.op.Op.{Op}
use Rattle.tce_code.specs.declared.op.Op.TheVariants.{Open}
use Rattle.tce_tree.specs.ContractionTree.{ContractionTree}
use Rattle.tce_exec.specs.Bodies.{node_of_op}
use Rattle.tce_exec.specs.TileCounts.{tile_count, tile_count_of_node}
use Rattle.tce_exec.proofs.LinkLaws.{body_count, node_count}
use Rattle.tce_exec.proofs.links.tiles_of.Goals as goal

pub overflow_add-tiles : goal.overflow_add-tiles
overflow_add-tiles c =
    let tree : ContractionTree = c.args.evaluation.now.tree.now in
    let ops = c.args.ops.now in
    let few = sum_by-take-le (λ op. tile_count_of_node tree (node_of_op op)) ops c.loop-op.op-index in
    omega (arith, c.loop-op.invariant, few, body_count tree ops, c.requires.few, c.tiles_of_node-tiles.ensures, node_count tree c.node_of.result)

pub loop-op-preserved : goal.loop-op-preserved
loop-op-preserved c =
    let tree : ContractionTree = c.args.evaluation.now.tree.now in
    let ops = c.args.ops.now in
    let next = sum_by_more (λ op. tile_count_of_node tree (node_of_op op)) ops c.loop-op.op-index (Open 0) c.loop-op-test.true in
    let here = c.tiles_of_node-tiles.ensures ∙ ap (tile_count_of_node tree) c.node_of.ensures in
    omega (arith, c.loop-op.invariant, next, here)

taken : {X : Type 0} (xs : List X) → take (length xs) xs ≡ xs
taken [] = refl
taken (x ∷ xs) = ap (λ l. x ∷ l) (taken xs)

pub returns : goal.returns
returns c =
    let tree : ContractionTree = c.args.evaluation.now.tree.now in
    let all : c.loop-op.op-index ≡ length c.args.ops.now = omega (arith, c.loop-op-test.false, c.loop-op.auto) in
    c.loop-op.invariant ∙ ap (λ n. tile_count tree (take n c.args.ops.now)) all ∙ ap (tile_count tree) (taken c.args.ops.now)
