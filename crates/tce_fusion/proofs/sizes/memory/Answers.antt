use Rattle.std.proofs.Common.{◌≡◌, ◌+◌, ◌-◌, ap, ap₂, sym, ◌∙◌, arith, sum_by}
use Rattle.std.specs.List.{range_with_len}
use Rattle.tce_space.proofs.Ranges.{sum_next}
use Rattle.tce_tree.specs.ContractionTree.{operations}
use Rattle.tce_tree.specs.Memory.{memory, size_at, size_before}
use Rattle.tce_fusion.proofs.sizes.memory.Goals as goal

pub loop-v-preserved : goal.loop-v-preserved
loop-v-preserved c = record {
  value =
      ap₂ (λ a b. a + b) c.loop-v.invariant.value c.size_of-total.ensures.value
      ∙ sym (sum_next (size_at c.args.space.now c.args.tree.now c.args.fusion.now.0.items) c.loop-v.v);
  limit = omega (arith, c.loop-v.invariant.limit, c.size_of-total.ensures.limit);
}

pub returns-clause-value : goal.returns-clause-value
unfolding memory size_before
returns-clause-value c =
    let all : c.loop-v.v ≡ operations c.args.tree.now - 1 = omega arith in
    c.loop-v.invariant.value ∙ ap (λ n. sum_by (size_at c.args.space.now c.args.tree.now c.args.fusion.now.0.items) (range_with_len 0 n)) all
