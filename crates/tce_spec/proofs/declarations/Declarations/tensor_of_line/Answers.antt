use Rattle.std.proofs.Common.{◌<◌, All, length, subst, sym}
use Rattle.tce_spec.proofs.Keeping.{numbers_declared}
use Rattle.tce_spec.proofs.declarations.Declarations.tensor_of_line.Goals as goal

pub shape-requires : goal.shape-requires
shape-requires c =
    subst (All (λ r. r < length c.self.inside.space.ranges)) (sym c.range_numbers-numbers.ensures)
    (numbers_declared c.self.inside.space _ (sym c.in_default.ensures.first))
