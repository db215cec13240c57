use Rattle.std.proofs.Common.{false, ◌≡◌, ◌+◌, ◌<◌, ◌∙◌, ℕ, length, get_or, slice_set, take, ap, arith, length-set}
use Rattle.tce_exec.specs.Nests.{with_len}
use Rattle.tce_exec.specs.declared.nest.Axis.{Axis}
use Rattle.tce_exec.proofs.Nests.{one_set, get_behind, same_element}
use Rattle.tce_exec.proofs.nest.set_lens.Goals as goal

pub loop-d-preserved : goal.loop-d-preserved
loop-d-preserved c =
    let none : Axis = record { index = 0; at = 0; len = 0; rank = record { long = false; near = 0; len = 0 } } in
    let d : ℕ = c.loop-d.d in
    let axes = c.loop-d.axes in
    let old = c.args.axes.now in
    let low : d < length axes = omega (arith, c.loop-d-test.true, c.loop-d.invariant.count) in
    let also : d < length old = omega (arith, c.loop-d-test.true, c.loop-d.invariant.count) in
    let same : get_or axes d none ≡ get_or old d none = same_element axes old d none low also (c.loop-d.invariant.back d (omega arith)) in
    record {
      count = length-set axes d (with_len c.args.lens.now (get_or axes d none)) ∙ c.loop-d.invariant.count;
      front = ap (λ x. take (d + 1) (slice_set axes d (with_len c.args.lens.now x))) same ∙ one_set (with_len c.args.lens.now) old axes d none c.loop-d.invariant.front also low;
      back = λ k past. get_behind axes d k (with_len c.args.lens.now (get_or axes d none)) (omega (arith, past)) ∙ c.loop-d.invariant.back k (omega (arith, past));
    }
