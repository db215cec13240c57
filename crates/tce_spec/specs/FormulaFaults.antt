-- The fault of a formula line: the columns of the table of faults, in their order.
use Rattle.std.specs.Prelude.{ℕ, ◌^◌, ◌==◌, ◌&&◌, not, Bool, nat_lt, List, [], ◌∷◌, Option, option_map}
use Rattle.std.specs.List.{list_all}
use Rattle.tce_space.specs.IndexSet.{set_of}
use Rattle.tce_grammar.specs.Formula.{Formula, operations}
use Rattle.tce_tree.specs.ContractionTree.{dims}
use Rattle.tce_tree.specs.Faults.{fault_of}
use Rattle.tce_spec.specs.Declarations.{Declarations}
use Rattle.tce_spec.specs.Numbers.{value_of, leads_with_zero}
use Rattle.tce_spec.specs.Faults.{Fault, first, fault_if, too_many_nodes, unknown_name, bad_number, rank_differs, range_differs, index_twice, result_is_operand, tree, result_indices}
use Rattle.tce_spec.specs.Places.{reference, listing, places, first_at, constants}
use Rattle.tce_spec.specs.PlaceFaults.{undeclared, other_rank, other_range, listed_twice, tensor_named}
use Rattle.tce_spec.specs.Meaning.{meaning, indexes_of}

-- digits of a number below 2^64 with no zero in front of it
abbrev pub is_constant : List ℕ → Bool
is_constant digits = not (leads_with_zero digits) && nat_lt (value_of digits) (2 ^ 64)

abbrev pub formula_fault : ℕ → Declarations → List ℕ → List (List ℕ) → Formula → Option Fault
formula_fault line d result indexes f = first (
    fault_if (nat_lt 32 (operations f)) (too_many_nodes line)
    ∷ option_map (unknown_name line) (first_at (undeclared d) (reference result indexes ∷ places f))
    ∷ fault_if (not (list_all is_constant (constants f))) (bad_number line)
    ∷ option_map (rank_differs line) (first_at (other_rank d) (reference result indexes ∷ places f))
    ∷ option_map (range_differs line) (first_at (other_range d) (reference result indexes ∷ places f))
    ∷ option_map (index_twice line) (first_at listed_twice (listing indexes ∷ places f))
    ∷ option_map (result_is_operand line) (first_at (tensor_named result) (places f))
    ∷ option_map (tree line) (fault_of d.space (meaning d f))
    ∷ fault_if (not (set_of (indexes_of d.space indexes) == dims (meaning d f))) (result_indices line)
    ∷ [])
