use Rattle.std.proofs.Common.{◌≡◌, false, Some, subst, arith}
use Rattle.std.specs.List.{slice_get}
use Rattle.tce_system.proofs.Pieces.{covered}
use Rattle.tce_system.proofs.holes.Holes.cover.Goals as goal

pub returns : goal.returns
returns c = λ yes p low high.
    covered c.args.self.now.written.items c.args.self.now.from c.args.self.now.unit c.args.at c.args.n c.in-Some.end p c.args.self.now.some (omega (arith, c.in-Some.ensures)) (omega arith) low high
    (λ k first last. subst (λ w. slice_get w k ≡ Some false) c.as_slice.ensures.value (c.is_unwritten.ensures yes k first last))
