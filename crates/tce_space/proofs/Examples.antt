-- Worked examples of the definitions.
use Rattle.std.proofs.Common.{◌≡◌, Some, None, true, false, [], ◌∷◌, codes, refl}
use Rattle.tce_space.specs.IndexSet.{has, members, count, set_of, with_index, union, meet, minus, volume}
use Rattle.tce_space.specs.Name.{is_name}
use Rattle.tce_space.specs.Box.{places, place}
use Rattle.tce_space.specs.Space.{IndexSpace, volume_of, tiling_of, range_number, index_number}
use Rattle.tce_space.specs.Tiling.{Tiling, tile_counts, tile_words, tiles, padded_words, elements, file_len, word_number}

-- the set of 0, 3 and 23, and one of 3 and 4
pub record SetExamples : Type 0 where
  pub bits : set_of (23 ∷ 0 ∷ 3 ∷ 0 ∷ []) ≡ 8388617
  pub listed : members 8388617 ≡ 0 ∷ 3 ∷ 23 ∷ []
  pub counted : count 8388617 ≡ 3
  pub joined : union 8388617 24 ≡ 8388633
  pub common : meet 8388617 24 ≡ 8
  pub left : minus 8388617 24 ≡ 8388609

pub set_examples : SetExamples
unfolding has members count union meet minus with_index
set_examples = record { bits = refl; listed = refl; counted = refl; joined = refl; common = refl; left = refl }

-- what is a name, and what is none
pub record NameExamples : Type 0 where
  pub one : is_name (codes "N") ≡ true
  pub long : is_name (codes "a23456789_ABCDEF") ≡ true
  pub longer : is_name (codes "sums") ≡ true
  pub upper : is_name (codes "Range") ≡ true
  pub too_long : is_name (codes "a23456789_ABCDEFG") ≡ false
  pub keyword : is_name (codes "sum") ≡ false
  pub digit : is_name (codes "2A") ≡ false
  pub line : is_name (codes "_a") ≡ false
  pub blank : is_name (codes "a b") ≡ false
  pub none : is_name [] ≡ false

pub name_examples : NameExamples
unfolding is_name
name_examples = record {
  one = refl;
  long = refl;
  longer = refl;
  upper = refl;
  too_long = refl;
  keyword = refl;
  digit = refl;
  line = refl;
  blank = refl;
  none = refl;
}

-- the places of a box of 2 by 3
pub record BoxExamples : Type 0 where
  pub listed : places (2 ∷ 3 ∷ []) ≡ (0 ∷ 0 ∷ []) ∷ (0 ∷ 1 ∷ []) ∷ (0 ∷ 2 ∷ []) ∷ (1 ∷ 0 ∷ []) ∷ (1 ∷ 1 ∷ []) ∷ (1 ∷ 2 ∷ []) ∷ []
  pub fourth : place (2 ∷ 3 ∷ []) (1 ∷ 0 ∷ []) ≡ 3
  pub none : places [] ≡ [] ∷ []

pub box_examples : BoxExamples
box_examples = record { listed = refl; fourth = refl; none = refl }

-- five elements in tiles of two, five by seven in tiles of one, and five by four in tiles of two by three
abbrev row : Tiling
row = record { extents = 5 ∷ []; edges = 2 ∷ [] }

abbrev table : Tiling
table = record { extents = 5 ∷ 7 ∷ []; edges = 1 ∷ 1 ∷ [] }

abbrev blocks : Tiling
blocks = record { extents = 5 ∷ 4 ∷ []; edges = 2 ∷ 3 ∷ [] }

pub record TilingExamples : Type 0 where
  pub row_tiles : tiles row ≡ 3
  pub row_words : padded_words row ≡ 6
  pub row_elements : elements row ≡ 5
  pub row_bytes : file_len row ≡ 80
  pub table_bytes : file_len table ≡ 328
  pub block_counts : tile_counts blocks ≡ 3 ∷ 2 ∷ []
  pub block_words : tile_words blocks ≡ 6
  pub block_last : word_number blocks (4 ∷ 3 ∷ []) ≡ 30

pub tiling_examples : TilingExamples
tiling_examples = record {
  row_tiles = refl;
  row_words = refl;
  row_elements = refl;
  row_bytes = refl;
  table_bytes = refl;
  block_counts = refl;
  block_words = refl;
  block_last = refl;
}

-- a range `V` of 3000 in tiles of 10 and a range `O` of 100, with the indexes `a` and `b` of `V` and `i` of `O`
abbrev space : IndexSpace
space = record {
  ranges = record { name = codes "V"; extent = 3000; edge = 10 } ∷ record { name = codes "O"; extent = 100; edge = 1 } ∷ [];
  indexes = record { name = codes "a"; of_range = 0 } ∷ record { name = codes "i"; of_range = 1 } ∷ record { name = codes "b"; of_range = 0 } ∷ [];
}

pub record SpaceExamples : Type 0 where
  pub of_all : volume_of space 7 ≡ 900000000
  pub of_two : volume_of space 3 ≡ 300000
  pub of_none : volume_of space 0 ≡ 1
  pub shape : tiling_of space (1 ∷ 0 ∷ []) ≡ record { extents = 100 ∷ 3000 ∷ []; edges = 1 ∷ 10 ∷ [] }
  pub found : index_number space (codes "b") ≡ Some 2
  pub missing : range_number space (codes "a") ≡ None

pub space_examples : SpaceExamples
unfolding has members volume
space_examples = record { of_all = refl; of_two = refl; of_none = refl; shape = refl; found = refl; missing = refl }
