-- An array's shape: its extents, and the edges of the tiles into which it is cut.
use Rattle.std.specs.Prelude.{◌≡◌, ℕ, ◌+◌, ◌*◌, ◌/◌, ◌%◌, ◌^◌, ◌≤◌, ◌<◌, List, [], ◌∷◌, length, All}
use Rattle.std.specs.Int.{div_ceil}
use Rattle.tce_space.specs.Limits.{max_array_words, max_rank, max_tile_words}
use Rattle.tce_space.specs.Box.{product, place, IsInside}

pub record Tiling : Type 0 where
  pub extents : List ℕ
  pub edges : List ℕ

-- the shape of an array of one element
abbrev pub no_dimensions : Tiling
no_dimensions = record { extents = []; edges = [] }

-- in each dimension the least number of tiles that cover the extent
abbrev pub counts_along : List ℕ → List ℕ → List ℕ
counts_along [] es = []
counts_along (n ∷ ns) [] = []
counts_along (n ∷ ns) (e ∷ es) = div_ceil n e ∷ counts_along ns es

-- the coordinates, divided by the edges
abbrev pub divided : List ℕ → List ℕ → List ℕ
divided [] xs = []
divided (e ∷ es) [] = []
divided (e ∷ es) (x ∷ xs) = (x / e) ∷ divided es xs

-- what is left of the coordinates
abbrev pub remainders : List ℕ → List ℕ → List ℕ
remainders [] xs = []
remainders (e ∷ es) [] = []
remainders (e ∷ es) (x ∷ xs) = (x % e) ∷ remainders es xs

-- the coordinates at this place of this tile
abbrev pub joined : List ℕ → List ℕ → List ℕ → List ℕ
joined [] ts xs = []
joined (e ∷ es) [] xs = []
joined (e ∷ es) (t ∷ ts) [] = []
joined (e ∷ es) (t ∷ ts) (x ∷ xs) = (t * e + x) ∷ joined es ts xs

abbrev pub tile_counts : Tiling → List ℕ
tile_counts s = counts_along s.extents s.edges

-- how many words a tile has, how many tiles there are, and how many words they have together
abbrev pub tile_words : Tiling → ℕ
tile_words s = product s.edges

abbrev pub tiles : Tiling → ℕ
tiles s = product (tile_counts s)

abbrev pub padded_words : Tiling → ℕ
padded_words s = tile_words s * tiles s

-- how many elements there are, which take no padding into account
abbrev pub elements : Tiling → ℕ
elements s = product s.extents

-- the bytes of an array file: a head with eight bytes for a mark, the rank, the extents and the edges, and then the words
abbrev pub file_len : Tiling → ℕ
file_len s = 16 + 16 * length s.extents + 8 * padded_words s

-- the number of an element's tile, and its place in that tile
abbrev pub tile_number : Tiling → List ℕ → ℕ
tile_number s xs = place (tile_counts s) (divided s.edges xs)

abbrev pub place_in_tile : Tiling → List ℕ → ℕ
place_in_tile s xs = place s.edges (remainders s.edges xs)

-- how many words stand before an element's
abbrev pub word_number : Tiling → List ℕ → ℕ
word_number s xs = tile_words s * tile_number s xs + place_in_tile s xs

-- no edge is 0
abbrev pub ArePositive : List ℕ → Type 0
ArePositive [] = Unit {0}
ArePositive (e ∷ es) = (0 < e) × ArePositive es

-- an edge for each extent, and the limits of size
pub record IsTiling (s : Tiling) : Type 0 where
  pub same_rank : length s.edges ≡ length s.extents
  pub rank : length s.extents ≤ max_rank
  pub sizes : All (λ n. (0 < n) × (n < 2 ^ 32)) s.extents
  pub positive : ArePositive s.edges
  pub tile_room : tile_words s ≤ max_tile_words
  pub room : padded_words s ≤ max_array_words

-- different elements are different words of the file, and each is one of its words
abbrev pub WordsAreApart : Type 0
WordsAreApart =
    (s : Tiling) → IsTiling s → (xs ys : List ℕ) → IsInside s.extents xs → IsInside s.extents ys
    → (word_number s xs ≡ word_number s ys → xs ≡ ys) × (word_number s xs < padded_words s)

-- the tiling with these extents and edges
abbrev pub tiling_with : List ℕ → List ℕ → Tiling
tiling_with extents edges = record { extents = extents; edges = edges }
