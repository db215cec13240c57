use Rattle.std.proofs.Common.{◌≡◌, ◌<◌, ◌≤◌, ℕ, List, length, get_or, sym, subst, ap, ◌∙◌}
use Rattle.tce_spec.specs.Operands.{operands}
use Rattle.tce_spec.proofs.Seen.{operand_declared}
use Rattle.tce_job.proofs.Counted.{tiles_of, first_counted, next_counted, all_counted}
use Rattle.tce_job.proofs.takings.tile_count.Goals as goal

pub tiles_of-count-requires : goal.tiles_of-count-requires
tiles_of-count-requires c = subst (λ t. t < length c.args.spec.now.declarations.tensors) (sym c.result.ensures.tensor) c.result.ensures.rules.contraction.result_fits.declared

pub tiles_of-count-requires-in-loop-t : goal.tiles_of-count-requires-in-loop-t
tiles_of-count-requires-in-loop-t c =
    let same : c.as_slice-t-items.result.now ≡ operands c.args.spec.now = c.as_slice-t-items.ensures.value ∙ c.operands-operands.ensures in
    rw same (operand_declared c.args.spec.now c.result.ensures.rules.contraction.leaves_fit c.loop-t.t-index (subst (λ (ts : List ℕ). c.loop-t.t-index < length ts) same c.loop-t-test.true))

pub loop-t-init : goal.loop-t-init
loop-t-init c =
    first_counted c.args.spec.now c.tiles_of-count.result (c.tiles_of-count.ensures.tiles ∙ ap (tiles_of c.args.spec.now) c.result.ensures.tensor) c.tiles_of-count.ensures.limit

pub loop-t-preserved : goal.loop-t-preserved
loop-t-preserved c =
    let same : c.as_slice-t-items.result.now ≡ operands c.args.spec.now = c.as_slice-t-items.ensures.value ∙ c.operands-operands.ensures in
    next_counted c.args.spec.now c.loop-t.t-index c.loop-t.count c.tiles_of-count-in-loop-t.result (subst (λ (ts : List ℕ). c.loop-t.t-index < length ts) same c.loop-t-test.true) c.loop-t.invariant
    (c.tiles_of-count-in-loop-t.ensures.tiles ∙ ap (λ (ts : List ℕ). tiles_of c.args.spec.now (get_or ts c.loop-t.t-index 0)) same) c.tiles_of-count-in-loop-t.ensures.limit

pub returns : goal.returns
returns c =
    let same : c.as_slice-t-items.result.now ≡ operands c.args.spec.now = c.as_slice-t-items.ensures.value ∙ c.operands-operands.ensures in
    all_counted c.args.spec.now c.loop-t.t-index c.loop-t.count (subst (λ (ts : List ℕ). length ts ≤ c.loop-t.t-index) same c.loop-t-test.false) c.loop-t.invariant
