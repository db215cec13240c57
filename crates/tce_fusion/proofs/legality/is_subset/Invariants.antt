use Rattle.std.proofs.Common.{ℕ, ◌≡◌, ◌<◌, true}
use Rattle.tce_fusion.specs.Tops.{joined}
use Rattle.tce_fusion.proofs.legality.is_subset.Given as goal

abbrev pub invariant-loop-w : goal.invariant-loop-w
invariant-loop-w l = (x : ℕ) → x < l.w → joined l.inner l.v x ≡ true → joined l.outer l.v x ≡ true
