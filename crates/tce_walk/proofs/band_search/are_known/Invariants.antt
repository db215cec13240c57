use Rattle.std.proofs.Common.{◌≡◌, ◌⊎◌, ◌<◌, ℕ, true}
use Rattle.tce_walk.specs.BandSearch.{known_of}
use Rattle.tce_walk.proofs.band_search.are_known.Given as goal

abbrev pub invariant-loop-v : goal.invariant-loop-v
invariant-loop-v l = (k : ℕ) → k < l.v → (k ≡ l.carrier) ⊎ (known_of l.known k ≡ true)
