use Rattle.std.proofs.Common.{◌≡◌, ◌||◌, ℕ, length}
use Rattle.std.specs.List.{list_any}
use Rattle.tce_space.specs.IndexSet.{has}
use Rattle.tce_einsum.proofs.entries.found_in.Given as goal

abbrev pub invariant-loop-entry : goal.invariant-loop-entry
invariant-loop-entry l = (i : ℕ) → (has l.found.bits i || list_any (λ e. has e.free.bits i) l.rest) ≡ list_any (λ e. has e.free.bits i) l.entries

abbrev pub decreases-loop-entry : goal.decreases-loop-entry
decreases-loop-entry l = length l.rest
