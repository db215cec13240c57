use Rattle.std.proofs.Common.{◌≡◌, ◌∙◌, length, sym, ap, subst}
use Rattle.std.proofs.lemmas.List.{length-map}
use Rattle.tce_space.specs.Space.{extent_at}
use Rattle.tce_space.specs.Tiling.{Tiling, IsTiling}
use Rattle.tce_exec.specs.OperandWindows.{AreTileSteps}
use Rattle.tce_exec.specs.Workspace.{shape_over}
use Rattle.tce_exec.proofs.Touching.{shape_is}
use Rattle.tce_exec.proofs.steps.set_leaf_steps.Goals as goal

pub tile_steps-window-requires-clause-each : goal.tile_steps-window-requires-clause-each
tile_steps-window-requires-clause-each c =
    let l = c.args.leaf.now in
    let shape : Tiling = shape_over c.args.evaluation.now.space.now l.indexes.items in
    let own : Tiling = c.array.result.now.shape in
    let same : own ≡ shape = shape_is c.args.cache.now.arrays l.tensor c.array.result.now shape c.array.ensures.array c.requires.stored in
    ap length c.as_slice.ensures.value ∙ sym (ap (λ (t : Tiling). length t.extents) same ∙ length-map l.indexes.items (extent_at c.args.evaluation.now.space.now))

pub returns : goal.returns
returns c =
    let l = c.args.leaf.now in
    let shape : Tiling = shape_over c.args.evaluation.now.space.now l.indexes.items in
    let own : Tiling = c.array.result.now.shape in
    let same : own ≡ shape = shape_is c.args.cache.now.arrays l.tensor c.array.result.now shape c.array.ensures.array c.requires.stored in
    record {
      tiling = subst IsTiling same c.tile_steps-window.ensures.limits;
      steps_are = subst (λ (t : Tiling). AreTileSteps t.edges l.indexes.items c.tile_steps-window.result) same
          (subst (λ is. AreTileSteps own.edges is c.tile_steps-window.result) c.as_slice.ensures.value c.tile_steps-window.ensures.steps);
    }
