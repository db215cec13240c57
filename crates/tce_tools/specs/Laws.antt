-- What holds of all flat files.
use Rattle.std.specs.Prelude.{◌≡◌, ℕ, ◌^◌, ◌<◌, List, length}
use Rattle.tce_space.specs.Box.{IsInside}
use Rattle.tce_space.specs.Tiling.{Tiling}
use Rattle.tce_tools.specs.Flat.{flat_bytes, flat_len, flat_element}

-- the file of words has the length, and the words as its elements
abbrev pub FlatFilesHoldTheirElements : Type 0
FlatFilesHoldTheirElements =
    (s : Tiling) (element : List ℕ → ℕ)
    → (length (flat_bytes s element) ≡ flat_len s) × ((xs : List ℕ) → IsInside s.extents xs → element xs < 2 ^ 64 → flat_element s (flat_bytes s element) xs ≡ element xs)
