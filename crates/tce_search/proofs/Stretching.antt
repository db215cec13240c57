-- Stretches of the first choices are stretches of all.
use Rattle.std.proofs.Common.{◌≡◌, ℕ, ◌<◌, ◌≤◌, List, length, get_or, arith, subst}
use Rattle.tce_nesting.specs.declared.choice.Choice.{Choice}
use Rattle.tce_nesting.specs.declared.stretches.Stretch.{Stretch}
use Rattle.tce_nesting.specs.Stretches.{LiesBetween, IsStretch}

pub stretch_of_all : (few choices : List Choice) (k : ℕ) (stretch : Stretch) → length few ≤ length choices
    → ((j : ℕ) (x : Choice) → j < length few → get_or few j x ≡ get_or choices j x) → IsStretch few k stretch → IsStretch choices k stretch
stretch_of_all few choices k stretch fewer same is = record {
  later = is.later;
  inside = omega (arith, is.inside, fewer);
  each = λ j x from low. subst (LiesBetween stretch.common stretch.all) (same j x (omega (arith, low, is.inside))) (is.each j x from low);
}
