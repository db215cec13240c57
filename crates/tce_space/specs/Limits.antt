-- The limits of what is accepted.
use Rattle.std.specs.Prelude.{ℕ, ◌^◌}

-- bytes of a specification
abbrev pub max_spec_bytes : ℕ
max_spec_bytes = 2 ^ 16

-- bytes of a name
abbrev pub max_name_bytes : ℕ
max_name_bytes = 16

-- ranges that are declared
abbrev pub max_ranges : ℕ
max_ranges = 16

-- indexes that are declared; their numbers are below it
abbrev pub max_indexes : ℕ
max_indexes = 24

-- tensors that are declared; their numbers are below it
abbrev pub max_tensors : ℕ
max_tensors = 32

-- operations of a tree; the numbers of its nodes are below it
abbrev pub max_nodes : ℕ
max_nodes = 32

-- loops of a node
abbrev pub max_loops : ℕ
max_loops = 10

-- dimensions of an array
abbrev pub max_rank : ℕ
max_rank = 8

-- words of a tile
abbrev pub max_tile_words : ℕ
max_tile_words = 2 ^ 20

-- words of an array with its padding
abbrev pub max_array_words : ℕ
max_array_words = 2 ^ 48

-- iterations of a node's loops, and elements of its array
abbrev pub max_volume : ℕ
max_volume = 2 ^ 90

-- costs, sizes and memories of plans and certificates are below it
abbrev pub cost_limit : ℕ
cost_limit = 2 ^ 96

-- words that a run takes for intermediates, and words that it takes for tiles
abbrev pub max_memory : ℕ
max_memory = 2 ^ 40
