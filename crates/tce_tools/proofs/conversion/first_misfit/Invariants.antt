use Rattle.std.proofs.Common.{◌<◌, ℕ, slice_index}
use Rattle.tce_array.specs.declared.form.Form.TheVariants.{Narrow}
use Rattle.tce_array.specs.Forms.{Fits}
use Rattle.tce_tools.proofs.conversion.first_misfit.Given as goal

abbrev pub invariant-loop-p : goal.invariant-loop-p
invariant-loop-p l = (k : ℕ) → k < l.p → Fits Narrow (slice_index l.words k)
