use Rattle.std.proofs.Common.{◌≡◌, ◌<◌, ℕ, List, length, get_or, max, sym, subst, ap, ap₂, ◌∙◌}
use Rattle.std.proofs.lemmas.List.Sums.{fold_more}
use Rattle.tce_space.specs.Tiling.{tile_words}
use Rattle.tce_spec.specs.Contraction.{LeavesFit}
use Rattle.tce_spec.specs.Specification.{Specification}
use Rattle.tce_spec.specs.Operands.{operands, shape_of}
use Rattle.tce_spec.proofs.Seen.{operand_declared}
use Rattle.tce_spec.proofs.spec.Spec.largest_tile.Goals as goal

pub tile_words-requires : goal.tile_words-requires
tile_words-requires c =
    let fits : LeavesFit c.args.self.now.declarations c.args.self.now.tree =
    subst (λ (s : Specification). LeavesFit s.declarations s.tree) c.self.view_is c.self.invariant.rules.contraction.leaves_fit in
    let same : c.as_slice-t-items.result.now ≡ operands c.args.self.now = c.as_slice-t-items.ensures.value ∙ c.operands-operands.ensures in
    rw same (operand_declared c.args.self.now fits c.loop-t.t-index (subst (λ (ts : List ℕ). c.loop-t.t-index < length ts) same c.loop-t-test.true))

pub loop-t-preserved : goal.loop-t-preserved
loop-t-preserved c =
    let same : c.as_slice-t-items.result.now ≡ operands c.args.self.now = c.as_slice-t-items.ensures.value ∙ c.operands-operands.ensures in
    c.max-largest.ensures
    ∙ ap₂ max c.loop-t.invariant (c.tile_words.ensures ∙ ap (λ (ts : List ℕ). tile_words (shape_of c.args.self.now (get_or ts c.loop-t.t-index 0))) same)
    ∙ sym (fold_more (λ largest t. max largest (tile_words (shape_of c.args.self.now t))) (tile_words (shape_of c.args.self.now c.args.self.now.result)) (operands c.args.self.now)
    c.loop-t.t-index 0 (subst (λ (ts : List ℕ). c.loop-t.t-index < length ts) same c.loop-t-test.true))
