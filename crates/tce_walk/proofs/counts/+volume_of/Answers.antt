use Rattle.std.proofs.Common.{◌*◌, ap₂, ◌∙◌, arith}
use Rattle.tce_space.specs.Space.{extent_at}
use Rattle.tce_walk.proofs.CountedLoops.{product_first}
use Rattle.tce_walk.proofs.counts.+volume_of.Goals as goal

pub returns-else-all-gt-MAX_VOLUME : goal.returns-else-all-gt-MAX_VOLUME
returns-else-all-gt-MAX_VOLUME t c = (
  ap₂ (λ x y. x * y) (c.in_ok-inner-in-len1-up.ensures).0 (c.from.ensures ∙ c.extent.ensures.extent) ∙ product_first (extent_at c.args.space.now) c.args.loops.now 0 c.in-len1-up.len_at_least,
  omega (arith, c.if-all-gt-MAX_VOLUME.false),
)
