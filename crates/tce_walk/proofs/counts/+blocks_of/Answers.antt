use Rattle.std.proofs.Common.{◌*◌, ap₂, ◌∙◌, arith}
use Rattle.std.specs.Int.{div_ceil}
use Rattle.tce_space.specs.Space.{extent_at, edge_at}
use Rattle.tce_walk.proofs.CountedLoops.{product_first}
use Rattle.tce_walk.proofs.counts.+blocks_of.Goals as goal

pub returns-else-all-gt-MAX_VOLUME : goal.returns-else-all-gt-MAX_VOLUME
returns-else-all-gt-MAX_VOLUME t c = (
  ap₂ (λ x y. x * y) (c.in_ok-inner-in-len1-up.ensures).0 (c.from.ensures ∙ c.div_ceil-count.ensures ∙ ap₂ div_ceil c.extent.ensures.extent c.edge.ensures.edge) ∙ product_first (λ i. div_ceil (extent_at c.args.space.now i) (edge_at c.args.space.now i)) c.args.loops.now 0 c.in-len1-up.len_at_least,
  omega (arith, c.if-all-gt-MAX_VOLUME.false),
)
