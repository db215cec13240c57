-- What the lines in front of the formula declare: an index space, and tensors over its ranges. Numbers are positions in order of declaration.
use Rattle.std.specs.Prelude.{ℕ, ◌<◌, ◌≤◌, IsTrue, List, [], length, map, slice_index_or, position, Option}
use Rattle.std.specs.Str.{bytes_eq}
use Rattle.std.specs.List.{All, IsDistinct}
use Rattle.tce_space.specs.Limits.{max_array_words, max_name_bytes, max_rank, max_tensors, max_tile_words}
use Rattle.tce_space.specs.Name.{is_name}
use Rattle.tce_space.specs.Space.{IndexSpace, IsSpace, no_declarations, tiling_of}
use Rattle.tce_space.specs.Tiling.{tile_words, padded_words, Tiling}

-- a tensor has a name, and in each dimension the number of a range
pub record Tensor : Type 0 where
  pub name : List ℕ
  pub ranges : List ℕ

pub record Declarations : Type 0 where
  pub space : IndexSpace
  pub tensors : List Tensor

abbrev pub nothing_declared : Declarations
nothing_declared = record { space = no_declarations; tensors = [] }

-- the number of a name among the tensors
abbrev pub tensor_number : List Tensor → List ℕ → Option ℕ
tensor_number tensors name = position (λ (t : Tensor). bytes_eq t.name name) tensors

-- what stands past the end of the list: a tensor of rank 0 without a name
abbrev pub no_tensor : Tensor
no_tensor = record { name = []; ranges = [] }

-- the tensor with this number
abbrev pub tensor_at : Declarations → ℕ → Tensor
tensor_at d t = slice_index_or d.tensors t no_tensor

-- the shape of the tensor with this number
abbrev pub tensor_shape : Declarations → ℕ → Tiling
tensor_shape d t = tiling_of d.space (tensor_at d t).ranges

-- a name of at most 16 bytes, at most eight dimensions over declared ranges, and a shape within the limits of size
pub record IsTensor (space : IndexSpace) (t : Tensor) : Type 0 where
  pub short : length t.name ≤ max_name_bytes
  pub rank : length t.ranges ≤ max_rank
  pub declared : All (λ r. r < length space.ranges) t.ranges
  pub tile_room : tile_words (tiling_of space t.ranges) ≤ max_tile_words
  pub room : padded_words (tiling_of space t.ranges) ≤ max_array_words

-- what all declarations keep
pub record IsDeclarations (d : Declarations) : Type 0 where
  pub space : IsSpace d.space
  pub tensor_limit : length d.tensors ≤ max_tensors
  pub tensors : All (IsTensor d.space) d.tensors
  pub tensor_names : IsDistinct bytes_eq (map (λ (t : Tensor). t.name) d.tensors)

-- the tensors have names as a text gives them
abbrev pub HaveNames : List Tensor → Type 0
HaveNames tensors = All (λ (t : Tensor). IsTrue (is_name t.name)) tensors
