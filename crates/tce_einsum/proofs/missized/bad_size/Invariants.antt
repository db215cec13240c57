use Rattle.std.proofs.Common.{◌≡◌, ℕ, ◌<◌, false}
use Rattle.tce_einsum.specs.Code.{einsum}
use Rattle.tce_einsum.specs.Text.{is_label}
use Rattle.std.specs.Prelude.{IsTrue}
use Rattle.tce_einsum.specs.Sizes.{is_missized}
use Rattle.tce_einsum.proofs.missized.bad_size.Given as goal

abbrev pub invariant-loop-label : goal.invariant-loop-label
invariant-loop-label l = (other : ℕ) → IsTrue (is_label other) → other < l.label → is_missized (einsum l.whole) other ≡ false
