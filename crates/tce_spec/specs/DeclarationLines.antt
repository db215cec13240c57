-- The lines that declare: the fault of each, and what it declares where it has none. A fault is the first of a list, which is
-- the order in which they are tried.
use Rattle.std.specs.Prelude.{⊤, IsTrue, ℕ, ◌+◌, not, nat_lt, nat_le, List, [], ◌∷◌, ◌++◌, length, map, find, Option, option_map, is_none, is_some, unwrap_or, if◌then◌else◌}
use Rattle.std.specs.declared.option.Option.TheVariants.{Some, None}
use Rattle.std.specs.List.{list_any}
use Rattle.std.specs.Str.{bytes_eq}
use Rattle.tce_space.specs.Limits.{max_array_words, max_tile_words}
use Rattle.tce_space.specs.Name.{is_name}
use Rattle.tce_space.specs.Space.{Index, IndexSpace, range_number, tiling_of}
use Rattle.tce_space.specs.Tiling.{tile_words, padded_words}
use Rattle.tce_grammar.specs.Grammar.{AreNames, Statement, range, index, declaration, formula}
use Rattle.tce_spec.specs.Declarations.{Declarations, tensor_number}
use Rattle.tce_spec.specs.Numbers.{value_of, is_range_size, edge_of}
use Rattle.tce_spec.specs.Faults.{Fault, name_twice, unknown_name, bad_number, limit_passed, range_count, index_count, tensor_count, rank, words_of_tile, words_of_array, first, fault_if}

-- the first name that stood before, among `earlier` or in front of it
abbrev pub twice_after : List (List ℕ) → List (List ℕ) → Option (List ℕ)
twice_after earlier [] = None
twice_after earlier (name ∷ names) = if list_any (bytes_eq name) earlier then Some name else twice_after (earlier ++ name ∷ []) names

-- `range NAME EXTENT`, or `range NAME EXTENT tile EDGE`
abbrev pub range_fault : ℕ → IndexSpace → List ℕ → List ℕ → Option (List ℕ) → Option Fault
range_fault line space name extent edge = first (
    fault_if (is_some (range_number space name)) (name_twice line name)
    ∷ fault_if (not (is_range_size extent edge)) (bad_number line)
    ∷ fault_if (nat_le 16 (length space.ranges)) (limit_passed line range_count)
    ∷ [])

abbrev pub with_range : IndexSpace → List ℕ → List ℕ → Option (List ℕ) → IndexSpace
with_range space name extent edge =
    record { ranges = space.ranges ++ record { name = name; extent = value_of extent; edge = edge_of edge } ∷ []; indexes = space.indexes }

-- `index RANGE NAME NAME ..`
abbrev pub index_names : IndexSpace → List (List ℕ)
index_names space = map (λ (i : Index). i.name) space.indexes

-- the first name of a line that an index has, or that stood before on the line
abbrev pub declared_twice : IndexSpace → List (List ℕ) → Option (List ℕ)
declared_twice space names = twice_after (index_names space) names

abbrev pub index_fault : ℕ → IndexSpace → List ℕ → List (List ℕ) → Option Fault
index_fault line space of_range names = first (
    option_map (name_twice line) (declared_twice space names)
    ∷ fault_if (is_none (range_number space of_range)) (unknown_name line of_range)
    ∷ fault_if (nat_lt 24 (length space.indexes + length names)) (limit_passed line index_count)
    ∷ [])

-- the number of a range by its name; no range has the number 16
abbrev pub number_of_range : IndexSpace → List ℕ → ℕ
number_of_range space name = unwrap_or (range_number space name) 16

abbrev pub with_numbered_indexes : IndexSpace → ℕ → List (List ℕ) → IndexSpace
with_numbered_indexes space of_range names =
    record { ranges = space.ranges; indexes = space.indexes ++ map (λ name. record { name = name; of_range = of_range }) names }

abbrev pub with_indexes : IndexSpace → List ℕ → List (List ℕ) → IndexSpace
with_indexes space of_range names = with_numbered_indexes space (number_of_range space of_range) names

-- `tensor NAME[RANGE,RANGE,..]`
abbrev pub numbers_of_ranges : IndexSpace → List (List ℕ) → List ℕ
numbers_of_ranges space names = map (number_of_range space) names

-- the first name that no range has
abbrev pub unknown_range : IndexSpace → List (List ℕ) → Option (List ℕ)
unknown_range space names = find (λ range. is_none (range_number space range)) names

abbrev pub tensor_fault : ℕ → Declarations → List ℕ → List (List ℕ) → Option Fault
tensor_fault line d name ranges = first (
    fault_if (is_some (tensor_number d.tensors name)) (name_twice line name)
    ∷ option_map (unknown_name line) (unknown_range d.space ranges)
    ∷ fault_if (nat_le 32 (length d.tensors)) (limit_passed line tensor_count)
    ∷ fault_if (nat_lt 8 (length ranges)) (limit_passed line rank)
    ∷ fault_if (nat_lt max_tile_words (tile_words (tiling_of d.space (numbers_of_ranges d.space ranges)))) (limit_passed line words_of_tile)
    ∷ fault_if (nat_lt max_array_words (padded_words (tiling_of d.space (numbers_of_ranges d.space ranges)))) (limit_passed line words_of_array)
    ∷ [])

abbrev pub with_tensor : Declarations → List ℕ → List (List ℕ) → Declarations
with_tensor d name ranges =
    record { space = d.space; tensors = d.tensors ++ record { name = name; ranges = numbers_of_ranges d.space ranges } ∷ [] }

-- the fault of a line in front of the formula, and what is declared behind the line; a formula declares nothing
abbrev pub statement_fault : ℕ → Declarations → Statement → Option Fault
statement_fault line d (range name extent edge) = range_fault line d.space name extent edge
statement_fault line d (index of_range names) = index_fault line d.space of_range names
statement_fault line d (declaration name ranges) = tensor_fault line d name ranges
statement_fault line d (formula result indexes f) = None

abbrev pub with_statement : Declarations → Statement → Declarations
with_statement d (range name extent edge) = record { space = with_range d.space name extent edge; tensors = d.tensors }
with_statement d (index of_range names) = record { space = with_indexes d.space of_range names; tensors = d.tensors }
with_statement d (declaration name ranges) = with_tensor d name ranges
with_statement d (formula result indexes f) = d

-- names stand where names do in a line in front of the formula
abbrev pub HasNames : Statement → Type 0
HasNames (range name extent edge) = IsTrue (is_name name)
HasNames (index of_range names) = IsTrue (is_name of_range) × AreNames names
HasNames (declaration name ranges) = IsTrue (is_name name) × AreNames ranges
HasNames (formula result indexes f) = ⊤
