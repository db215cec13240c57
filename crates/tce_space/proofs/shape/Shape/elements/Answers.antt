use Rattle.std.proofs.Common.{ap, ◌∙◌, arith}
use Rattle.tce_space.specs.Box.{product}
use Rattle.tce_space.proofs.Counts.{elements_le, sizes_positive}
use Rattle.tce_space.proofs.shape.Shape.elements.Goals as goal

pub product_of-requires-clause-positive : goal.product_of-requires-clause-positive
product_of-requires-clause-positive c = rw c.extents.ensures.items (sizes_positive c.args.self.now.extents c.extents.ensures.limits.sizes)

pub product_of-requires-clause-fits : goal.product_of-requires-clause-fits
product_of-requires-clause-fits c =
    let s = c.extents.ensures.limits in
    omega (arith, ap product c.extents.ensures.items, elements_le c.args.self.now.extents c.args.self.now.edges s.same_rank s.positive, s.room)

pub returns-clause-within : goal.returns-clause-within
returns-clause-within c =
    let s = c.extents.ensures.limits in
    omega (arith, c.product_of.ensures ∙ ap product c.extents.ensures.items, elements_le c.args.self.now.extents c.args.self.now.edges s.same_rank s.positive)
