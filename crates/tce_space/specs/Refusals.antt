-- When a space refuses a declaration, and when there is no shape.
use Rattle.std.specs.Prelude.{◌≡◌, ◌↔◌, ℕ, ◌<◌, ◌≤◌, List, length, Option, None, IsSome, Result, Err, SomeIff}
use Rattle.arrayvec.specs.ArrayString.{ArrayString}
use Rattle.tce_space.specs.Limits.{max_array_words, max_indexes, max_ranges, max_tile_words, max_volume}
use Rattle.tce_space.specs.Space.{IndexSpace, AddsRange, AddsIndex, range_number, index_number, volume_of}
use Rattle.tce_space.specs.SpaceEntries.{entry_number}
use Rattle.tce_space.specs.Tiling.{Tiling, tile_words, padded_words}
use Rattle.tce_space.specs.declared.shape.ShapeFault.{ShapeFault}
use Rattle.tce_space.specs.declared.shape.ShapeFault.TheVariants.{TileWords, ArrayWords}
use Rattle.tce_space.specs.declared.space.SpaceFault.{SpaceFault}
use Rattle.tce_space.specs.declared.space.SpaceFault.TheVariants.{NameTwice, Full}

-- a name is refused as declared twice exactly where it has a number
abbrev pub RefusesTwice : {A : Type 0} → Option ℕ → Result A SpaceFault → Type 0
RefusesTwice number result = (result ≡ Err NameTwice) ↔ IsSome number

-- a new name is refused exactly where so many entries are there
abbrev pub RefusesMoreThan : {A : Type 0} → ℕ → Option ℕ → ℕ → Result A SpaceFault → Type 0
RefusesMoreThan limit number count result = (result ≡ Err Full) ↔ ((number ≡ None) × (count ≡ limit))

-- so of entries under names, of ranges and of indexes
abbrev pub RefusesEntries : {A V : Type 0} → List (ArrayString × V) → ℕ → List ℕ → Result A SpaceFault → Type 0
RefusesEntries entries limit name result = RefusesMoreThan limit (entry_number entries name) (length entries) result

abbrev pub RefusesRanges : {A : Type 0} → IndexSpace → List ℕ → Result A SpaceFault → Type 0
RefusesRanges space name result = RefusesMoreThan max_ranges (range_number space name) (length space.ranges) result

abbrev pub RefusesIndexes : {A : Type 0} → IndexSpace → List ℕ → Result A SpaceFault → Type 0
RefusesIndexes space name result = RefusesMoreThan max_indexes (index_number space name) (length space.indexes) result

-- a range of this name, extent and edge is declared last, and gets this number; and so an index of a range
abbrev pub DeclaresRange : IndexSpace → IndexSpace → List ℕ → ℕ → ℕ → ℕ → Type 0
DeclaresRange old new name extent edge number = AddsRange old new (record { name = name; extent = extent; edge = edge }) number

abbrev pub DeclaresIndex : IndexSpace → IndexSpace → List ℕ → ℕ → ℕ → Type 0
DeclaresIndex old new name range number = AddsIndex old new (record { name = name; of_range = range }) number

-- the volume of a set is given exactly where it is within its limit
abbrev pub GivesVolume : IndexSpace → ℕ → Option ℕ → Type 0
GivesVolume space set result = SomeIff result (volume_of space set ≤ max_volume) (volume_of space set)

-- a shape is refused for its tiles exactly where one has too many words
abbrev pub RefusesTiles : {A : Type 0} → Tiling → Result A ShapeFault → Type 0
RefusesTiles s result = (result ≡ Err TileWords) ↔ (max_tile_words < tile_words s)

-- and for the array exactly where no tile has, and all tiles together have too many
abbrev pub RefusesArrays : {A : Type 0} → Tiling → Result A ShapeFault → Type 0
RefusesArrays s result = (result ≡ Err ArrayWords) ↔ ((tile_words s ≤ max_tile_words) × (max_array_words < padded_words s))
