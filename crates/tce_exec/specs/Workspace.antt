-- What a run works on, and what it stands for: the elements of the tensors, and the words in the places of the nodes.
use Rattle.std.specs.Prelude.{ℕ, List, map, slice_get, Option, if◌then◌else◌}
use Rattle.std.specs.declared.option.Option.TheVariants.{Some, None}
use Rattle.std.specs.Option.{option_map}
use Rattle.tce_outside.specs.Files.{Files}
use Rattle.tce_space.specs.Space.{IndexSpace, extent_at, edge_at}
use Rattle.tce_space.specs.Tiling.{Tiling, word_number}
use Rattle.tce_cache.specs.declared.array.ArrayRef.{ArrayRef}
use Rattle.tce_cache.specs.Cache.{State as CacheState}
use Rattle.tce_cache.specs.Transfer.{word_in_file}
use Rattle.tce_code.specs.Execution.{Setting, State}
use Rattle.tce_exec.specs.NodeStates.{Places, state_of, current_cell}
use Rattle.tce_exec.specs.declared.evaluation.Evaluation.{Evaluation}

-- the places of the nodes, the number of the result's tensor, the words of the run, the cache of tiles among them, and the files where the disk tells them
pub record Workspace : Type 0 where
  pub places : Places
  pub tensor : ℕ
  pub words : List ℕ
  pub cache : CacheState
  pub files : Option Files

abbrev pub workspace : Evaluation → List ℕ → CacheState → Option Files → Workspace
workspace e words cache files = record {
  places = record {
    space = e.space.now;
    tree = e.tree.now;
    fusion = e.fusion.now.0.items;
    slots = e.layout.now.0.items;
    result = e.result.now.indexes.items;
  };
  tensor = e.result.now.tensor;
  words = words;
  cache = cache;
  files = files;
}

-- the shape of an array over the ranges of these indexes
abbrev pub shape_over : IndexSpace → List ℕ → Tiling
shape_over space indexes = record { extents = map (extent_at space) indexes; edges = map (edge_at space) indexes }

abbrev pub result_shape : Workspace → Tiling
result_shape w = shape_over w.places.space w.places.result

-- the element of an array that is not written, as its file has it; of all else 0
abbrev pub filed_element : Option ArrayRef → Files → List ℕ → ℕ
filed_element None files xs = 0
filed_element (Some a) files xs = if a.writable then 0 else word_in_file a files (word_number a.shape xs)

abbrev pub element_of : CacheState → Option Files → ℕ → List ℕ → ℕ
element_of c None tensor xs = 0
element_of c (Some files) tensor xs = filed_element (slice_get c.arrays tensor) files xs

-- the tree with its fusion, and the elements of its tensors
abbrev pub setting_in : Workspace → Setting
setting_in w = record {
  tree = w.places.tree;
  fusion = w.places.fusion;
  elements = record { extent = extent_at w.places.space; cell = element_of w.cache w.files };
}

-- the words in the places of the nodes: those of the inner nodes in their slots, and those of the root as current words of the result
abbrev pub state_in : Workspace → Option State
state_in w = option_map (λ files. state_of w.places w.words (current_cell w.cache files w.words w.tensor (result_shape w))) w.files
