-- The holes of a file.
use Rattle.std.specs.Prelude.{◌≡◌, ◌⊎◌, ℕ, ◌+◌, ◌-◌, ◌/◌, ◌<◌, ◌≤◌, false, List, length, slice_get, slice_index, Option, Some}
use Rattle.std.specs.Option.{ForSome}
use Rattle.tce_outside.specs.Files.{Files, file}
use Rattle.tce_system.specs.declared.holes.Holes.{Holes}

-- the byte at this place lies in a piece that was not written
abbrev pub IsHole : Holes → ℕ → Type 0
IsHole h p = (h.from ≤ p) × (slice_get h.written.items ((p - h.from) / h.unit) ≡ Some false)

-- all of the n bytes from `at` on do
abbrev pub AreHoles : Holes → ℕ → ℕ → Type 0
AreHoles h at n = (p : ℕ) → at ≤ p → p < at + n → IsHole h p

-- of the holes that were there, all that are left lie outside of the n bytes from `at` on
abbrev pub AreOutside : Holes → Holes → ℕ → ℕ → Type 0
AreOutside old new at n = (p : ℕ) → IsHole new p → IsHole old p × ((p < at) ⊎ (at + n ≤ p))

-- what lies in a hole of the file of this name is 0
abbrev pub AreZeros : Option Files → List ℕ → Holes → Type 0
AreZeros told name h =
    ForSome told (λ files. (bytes : List ℕ) → file files name ≡ Some bytes → (p : ℕ) → p < length bytes → IsHole h p → slice_index bytes p ≡ 0)
