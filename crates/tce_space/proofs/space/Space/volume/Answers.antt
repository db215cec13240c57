use Rattle.std.proofs.Common.{◌≡◌, ◌+◌, ◌*◌, ap, sym, ◌∙◌, arith}
use Rattle.tce_space.specs.Space.{extent_at}
use Rattle.tce_space.proofs.Spaces.{index_limits}
use Rattle.tce_space.proofs.VolumeLaws.{product_below, product_yes, product_no, product_too_large, product_all}
use Rattle.tce_space.proofs.space.Space.volume.Goals as goal
use Rattle.tce_space.proofs.space.Space.volume.Goals.{then-has+else-product-gt-MAX_VOLUME, else-has}

pub returns-then-product-gt-MAX_VOLUME-clause-volume : goal.returns-then-product-gt-MAX_VOLUME-clause-volume
returns-then-product-gt-MAX_VOLUME-clause-volume c =
    let space = c.index_count-index-end.ensures.limits in
    product_too_large (extent_at c.args.self.now) c.args.set (c.loop-index.index + 1) (c.loop-index.product * c.from-product.result)
    (λ k member. (index_limits c.args.self.now k space (c.requires k member)).some)
    (omega (arith, c.loop-index-test.true, c.index_count-index-end.ensures.count, space.index_limit))
    (ap (λ p. p * c.from-product.result) c.loop-index.invariant.value
    ∙ ap (λ n. product_below (extent_at c.args.self.now) c.args.set c.loop-index.index * n) (c.from-product.ensures ∙ c.extent.ensures.extent)
    ∙ sym (product_yes (extent_at c.args.self.now) c.args.set c.loop-index.index (sym c.has.ensures ∙ c.if-has.true)))
    c.if-product-gt-MAX_VOLUME.true

pub loop-index-preserved : goal.loop-index-preserved
loop-index-preserved c =
    elim c.if-has.branch [
      | then-has+else-product-gt-MAX_VOLUME w ↦ record {
        value =
            w.product-is
            ∙ ap (λ p. p * w.from-product.result) c.loop-index.invariant.value
            ∙ ap (λ n. product_below (extent_at c.args.self.now) c.args.set c.loop-index.index * n) (w.from-product.ensures ∙ w.extent.ensures.extent)
            ∙ sym (product_yes (extent_at c.args.self.now) c.args.set c.loop-index.index (sym c.has.ensures ∙ w.if-has.true));
        limit = omega (arith, w.product-is, w.if-product-gt-MAX_VOLUME.false);
      }
      | else-has w ↦ record {
        value = w.product-is ∙ c.loop-index.invariant.value ∙ sym (product_no (extent_at c.args.self.now) c.args.set c.loop-index.index (sym c.has.ensures ∙ w.if-has.false));
        limit = omega (arith, w.product-is, c.loop-index.invariant.limit);
      }
    ]

pub returns-clause-volume : goal.returns-clause-volume
returns-clause-volume c =
    let space = c.index_count-index-end.ensures.limits in
    let count = c.index_count-index-end.ensures.count in
    let end : c.loop-index.index ≡ c.index_count-index-end.result = omega arith in
    let is = c.loop-index.invariant.value
    ∙ product_all (extent_at c.args.self.now) c.args.set c.loop-index.index (λ k member. omega (arith, c.requires k member, end, count)) (omega (arith, end, count, space.index_limit)) in
    (omega (arith, is, c.loop-index.invariant.limit), is)
