-- What a `Space` shows of the entries that it keeps.
use Rattle.std.specs.Prelude.{◌≡◌, ℕ, ◌<◌, List, [], ◌∷◌, ◌++◌, length, map, position, Option, None}
use Rattle.std.specs.Str.{bytes_eq}
use Rattle.arrayvec.specs.ArrayString.{ArrayString}
use Rattle.tce_space.specs.Space.{Range, Index, IndexSpace}
use Rattle.tce_space.specs.declared.space.RangeSize.{RangeSize}

abbrev pub range_of : ArrayString × RangeSize → Range
range_of e = record { name = e.0.bytes; extent = e.1.extent; edge = e.1.edge }

abbrev pub index_of : ArrayString × ℕ → Index
index_of e = record { name = e.0.bytes; of_range = e.1 }

abbrev pub space_of : List (ArrayString × RangeSize) → List (ArrayString × ℕ) → IndexSpace
space_of ranges indexes = record { ranges = map range_of ranges; indexes = map index_of indexes }

abbrev pub names_of : {V : Type 0} → List (ArrayString × V) → List (List ℕ)
names_of {V} entries = map (λ (e : ArrayString × V). e.0.bytes) entries

-- the number of a name among the entries
abbrev pub entry_number : {V : Type 0} → List (ArrayString × V) → List ℕ → Option ℕ
entry_number {V} entries name = position (λ (e : ArrayString × V). bytes_eq e.0.bytes name) entries

-- a value is entered last, under a name that no entry had, and gets this number
pub record Enters {V : Type 0} (old new : List (ArrayString × V)) (limit : ℕ) (name : ArrayString) (value : V) (number : ℕ) : Type 0 where
  pub unnamed : entry_number old name.bytes ≡ None
  pub room : length old < limit
  pub number_is : number ≡ length old
  pub entries : new ≡ old ++ (name, value) ∷ []
