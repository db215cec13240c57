use Rattle.std.proofs.Common.{◌≡◌, ap, sym, subst, ◌∙◌, arith}
use Rattle.tce_space.specs.Box.{product}
use Rattle.tce_space.specs.Tiling.{ArePositive, counts_along, tiles}
use Rattle.tce_space.proofs.Counts.{counts_positive}
use Rattle.tce_space.proofs.Products.{product_positive, le_times}
use Rattle.tce_space.proofs.shape.Shape.tiles.Goals as goal

counts : (c : goal.After-as_slice) → c.as_slice.result.now ≡ counts_along c.args.self.now.extents c.args.self.now.edges
counts c = c.as_slice.ensures.value ∙ c.tile_counts_of.ensures ∙ ap (λ ns. counts_along ns c.edges.result.now) c.extents.ensures.items ∙ ap (counts_along c.args.self.now.extents) c.edges.ensures.items

pub product_of-requires-clause-positive : goal.product_of-requires-clause-positive
product_of-requires-clause-positive c =
    let s = c.extents.ensures.limits in
    subst ArePositive (sym (counts c)) (counts_positive c.args.self.now.extents c.args.self.now.edges s.sizes s.positive)

pub product_of-requires-clause-fits : goal.product_of-requires-clause-fits
product_of-requires-clause-fits c =
    let s = c.extents.ensures.limits in
    let some = product_positive c.args.self.now.edges s.positive in
    omega (arith, ap product (counts c), le_times (product c.args.self.now.edges) (tiles c.args.self.now) some, s.room)
