-- Why a text is no specification. The first number of a fault is that of its line, from 1; names are their bytes.
use Rattle.std.specs.Prelude.{ℕ, Bool, if◌then◌else◌, List, [], ◌∷◌, Option}
use Rattle.std.specs.declared.option.Option.TheVariants.{Some, None}
use Rattle.std.specs.Option.{option_or}
use Rattle.tce_tree.specs.Faults as trees

-- which limit is passed
pub data Limit : Type 0 where
  range_count : Limit
  index_count : Limit
  tensor_count : Limit
  rank : Limit
  words_of_tile : Limit
  words_of_array : Limit

pub data Fault : Type 0 where
  too_long : Fault
  bad_text : ℕ → Fault
  too_many_nodes : ℕ → Fault
  name_twice : ℕ → List ℕ → Fault
  unknown_name : ℕ → List ℕ → Fault
  bad_number : ℕ → Fault
  limit_passed : ℕ → Limit → Fault
  rank_differs : ℕ → List ℕ → Fault
  range_differs : ℕ → List ℕ → Fault
  index_twice : ℕ → List ℕ → Fault
  result_is_operand : ℕ → List ℕ → Fault
  tree : ℕ → trees.Fault → Fault
  result_indices : ℕ → Fault

-- the first of some faults, in their order, that there is
abbrev pub first : List (Option Fault) → Option Fault
first [] = None
first (fault ∷ faults) = option_or fault (first faults)

abbrev pub fault_if : Bool → Fault → Option Fault
fault_if b fault = if b then Some fault else None
