-- Index spaces: ranges with an extent and the edge of their tiles, and indexes, each of one range. Numbers are positions in order of declaration.
use Rattle.std.specs.Prelude.{◌≡◌, ℕ, ◌<◌, ◌≤◌, ◌^◌, IsTrue, List, [], ◌∷◌, ◌++◌, length, map, slice_index_or, position, Option, None}
use Rattle.std.specs.Str.{bytes_eq}
use Rattle.std.specs.List.{All, IsDistinct}
use Rattle.tce_space.specs.Limits.{max_indexes, max_ranges}
use Rattle.tce_space.specs.IndexSet.{has, volume}
use Rattle.tce_space.specs.Name.{is_name}
use Rattle.tce_space.specs.Tiling.{Tiling}

pub record Range : Type 0 where
  pub name : List ℕ
  pub extent : ℕ
  pub edge : ℕ

pub record Index : Type 0 where
  pub name : List ℕ
  pub of_range : ℕ

pub record IndexSpace : Type 0 where
  pub ranges : List Range
  pub indexes : List Index

-- the space without declarations
abbrev pub no_declarations : IndexSpace
no_declarations = record { ranges = []; indexes = [] }

-- what stands past the ends of the lists: a range of extent 1 without a name, and an index of it
abbrev pub no_range : Range
no_range = record { name = []; extent = 1; edge = 1 }

abbrev pub no_index : Index
no_index = record { name = []; of_range = 16 }

-- the range with this number, and the index
abbrev pub range_at : IndexSpace → ℕ → Range
range_at space r = slice_index_or space.ranges r no_range

abbrev pub index_at : IndexSpace → ℕ → Index
index_at space i = slice_index_or space.indexes i no_index

-- the extent of an index, and the edge of its tiles
abbrev pub extent_at : IndexSpace → ℕ → ℕ
extent_at space i = (range_at space (index_at space i).of_range).extent

abbrev pub edge_at : IndexSpace → ℕ → ℕ
edge_at space i = (range_at space (index_at space i).of_range).edge

-- how many assignments of numbers the members of a set have
abbrev pub volume_of : IndexSpace → ℕ → ℕ
volume_of space set = volume (extent_at space) set

-- the shape of an array with these ranges
abbrev pub tiling_of : IndexSpace → List ℕ → Tiling
tiling_of space ranges = record { extents = map (λ r. (range_at space r).extent) ranges; edges = map (λ r. (range_at space r).edge) ranges }

-- each member is a declared index
abbrev pub IsDeclared : IndexSpace → ℕ → Type 0
IsDeclared space set = (i : ℕ) → IsTrue (has set i) → i < length space.indexes

-- a name, an extent and an edge within their limits
pub record IsRange (r : Range) : Type 0 where
  pub named : IsTrue (is_name r.name)
  pub some : 0 < r.extent
  pub limit : r.extent < 2 ^ 32
  pub edge_some : 0 < r.edge
  pub edge_limit : r.edge ≤ r.extent

-- what every space keeps: the limits of both lists, different names in each, and a declared range for each index
pub record IsSpace (space : IndexSpace) : Type 0 where
  pub range_limit : length space.ranges ≤ max_ranges
  pub index_limit : length space.indexes ≤ max_indexes
  pub ranges : All IsRange space.ranges
  pub indexes : All (λ (i : Index). IsTrue (is_name i.name) × (i.of_range < length space.ranges)) space.indexes
  pub range_names : IsDistinct bytes_eq (map (λ (r : Range). r.name) space.ranges)
  pub index_names : IsDistinct bytes_eq (map (λ (i : Index). i.name) space.indexes)

-- the number of a name among those declared
abbrev pub range_number : IndexSpace → List ℕ → Option ℕ
range_number space name = position (λ (r : Range). bytes_eq r.name name) space.ranges

abbrev pub index_number : IndexSpace → List ℕ → Option ℕ
index_number space name = position (λ (i : Index). bytes_eq i.name name) space.indexes

-- the range is declared last, under a name that no range had, and gets this number
pub record AddsRange (old new : IndexSpace) (range : Range) (number : ℕ) : Type 0 where
  pub unnamed : range_number old range.name ≡ None
  pub room : length old.ranges < max_ranges
  pub number_is : number ≡ length old.ranges
  pub ranges : new.ranges ≡ old.ranges ++ range ∷ []
  pub indexes : new.indexes ≡ old.indexes

-- the index is declared last, under a name that no index had, and gets this number
pub record AddsIndex (old new : IndexSpace) (index : Index) (number : ℕ) : Type 0 where
  pub unnamed : index_number old index.name ≡ None
  pub room : length old.indexes < max_indexes
  pub number_is : number ≡ length old.indexes
  pub ranges : new.ranges ≡ old.ranges
  pub indexes : new.indexes ≡ old.indexes ++ index ∷ []
