use Rattle.std.proofs.Common.{◌≡◌, ◌∙◌, length, subst, sym, ap}
use Rattle.std.specs.List.Sorted.{IsPermutation}
use Rattle.tce_exec.specs.Nests.{ArePlaced}
use Rattle.tce_exec.proofs.Nests.{placed_from, refill_whole}
use Rattle.tce_exec.proofs.sequence.LoopSequence.of.Goals as goal

pub returns-clause-sequence : goal.returns-clause-sequence
returns-clause-sequence c =
    let now = c.sort_unstable_by_key.new.self in
    let listed = c.axes_of-axes.result.items in
    let same : IsPermutation listed now = subst (λ xs. IsPermutation xs now) c.deref_mut.ensures.value c.sort_unstable_by_key.ensures.permutation in
    let len : length now ≡ length listed = c.sort_unstable_by_key.ensures.len ∙ ap length c.deref_mut.ensures.value in
    subst (ArePlaced c.args.loops.now) (sym (refill_whole (length listed) listed now len))
    (placed_from c.args.loops.now listed now c.axes_of-axes.ensures.indexes c.axes_of-axes.ensures.placed same)
