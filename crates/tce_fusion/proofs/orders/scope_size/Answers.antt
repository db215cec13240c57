use Rattle.std.proofs.Common.{◌≡◌, ◌+◌, ◌∙◌, sym, ap, arith, count_by}
use Rattle.std.specs.List.{range_with_len}
use Rattle.tce_space.proofs.IndexSetLaws.{count-range_yes, count-range_no}
use Rattle.tce_fusion.specs.Tops.{joined, size_in}
use Rattle.tce_fusion.proofs.orders.scope_size.Goals as goal
use Rattle.tce_fusion.proofs.orders.scope_size.Goals.{then-is_joined, else-is_joined}

pub loop-w-preserved : goal.loop-w-preserved
loop-w-preserved c =
    elim c.if-is_joined.branch [
      | then-is_joined w ↦ record {
        value = w.size-is ∙ ap (λ n. n + 1) c.loop-w.invariant.value ∙ sym (count-range_yes (joined c.args.tops.now c.args.v) c.loop-w.w (sym c.is_joined.ensures ∙ w.if-is_joined.true));
        limit = omega (arith, c.loop-w.invariant.limit, w.size-is);
      }
      | else-is_joined w ↦ record {
        value = w.size-is ∙ c.loop-w.invariant.value ∙ sym (count-range_no (joined c.args.tops.now c.args.v) c.loop-w.w (sym c.is_joined.ensures ∙ w.if-is_joined.false));
        limit = omega (arith, c.loop-w.invariant.limit, w.size-is);
      }
    ]

pub returns : goal.returns
unfolding size_in
returns c =
    let all : c.loop-w.w ≡ c.args.count = omega arith in
    c.loop-w.invariant.value ∙ ap (λ n. count_by (joined c.args.tops.now c.args.v) (range_with_len 0 n)) all
