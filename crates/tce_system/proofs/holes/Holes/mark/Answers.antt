use Rattle.std.proofs.Common.{◌≡◌, ◌⊎◌, ◌-◌, ◌/◌, ◌<◌, false, Some, subst, arith}
use Rattle.std.specs.List.{slice_get}
use Rattle.tce_system.proofs.Pieces.{marked}
use Rattle.tce_system.proofs.holes.Holes.mark.Goals as goal

pub returns : goal.returns
returns c = λ p hole.
    let first : c.saturating_sub.result ≡ c.args.at - c.args.self.now.from = omega (arith, c.saturating_sub.ensures) in
    marked c.args.self.now.written.items c.set_written.new.written.items c.args.self.now.from c.args.self.now.unit c.args.at c.args.n c.in-Some.end p c.args.self.now.some (omega (arith, c.in-Some.ensures)) (omega arith)
    (λ k e.
    subst (λ a. (slice_get c.args.self.now.written.items k ≡ Some false) × ((k < a / c.args.self.now.unit) ⊎ ((c.in-Some.end - 1 - c.args.self.now.from) / c.args.self.now.unit < k))) first
    (c.set_written.ensures k e))
    hole
