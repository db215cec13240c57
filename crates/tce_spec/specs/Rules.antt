-- The rules of the code: each is a column of the table of faults over the places of a formula.
use Rattle.std.specs.Prelude.{ℕ, ◌==◌, not, List, [], ◌∷◌, ◌++◌, Option, option_map, ◌≡◌}
use Rattle.std.specs.List.{list_all}
use Rattle.arrayvec.specs.ArrayString.{ArrayString}
use Rattle.tce_grammar.specs.Formula.{Formula}
use Rattle.tce_spec.specs.Declarations.{Declarations}
use Rattle.tce_spec.specs.Faults.{Fault, first, fault_if, unknown_name, bad_number, rank_differs, range_differs, index_twice, result_is_operand, tree, result_indices}
use Rattle.tce_spec.specs.Places.{Place, reference, listing, places, first_at, constants}
use Rattle.tce_spec.specs.Meaning.{meaning, indexes_of}
use Rattle.tce_spec.specs.FormulaFaults.{is_constant}
use Rattle.tce_space.specs.IndexSet.{set_of}
use Rattle.tce_tree.specs.ContractionTree.{dims}
use Rattle.tce_tree.specs.Faults.{fault_of}
use Rattle.tce_spec.specs.PlaceFaults.{undeclared, other_rank, other_range, listed_twice, tensor_named}
use Rattle.tce_spec.specs.declared.rule.Rule.{Rule}
use Rattle.tce_spec.specs.declared.rule.Rule.TheVariants.{Declared, SameRank, SameRanges, ListedOnce, NotNamed}
use Rattle.std.specs.Borrow.{Bor}
use Rattle.tce_grammar.specs.Code.{names, formula}
use Rattle.tce_grammar.specs.declared.formula.Formula.{Formula as Written}

abbrev pub bytes_if_some : Option ArrayString → Option (List ℕ)
bytes_if_some name = option_map (λ (n : ArrayString). n.bytes) name

-- the name at which a place breaks a rule
abbrev pub broken : Declarations → Rule → Place → Option (List ℕ)
broken d Declared = undeclared d
broken d SameRank = other_rank d
broken d SameRanges = other_range d
broken d ListedOnce = listed_twice
broken d (NotNamed result) = tensor_named result.now

-- what the result in front of a formula is for a rule
abbrev pub result_places : Rule → List ℕ → List (List ℕ) → List Place
result_places Declared result indexes = reference result indexes ∷ []
result_places SameRank result indexes = reference result indexes ∷ []
result_places SameRanges result indexes = reference result indexes ∷ []
result_places ListedOnce result indexes = listing indexes ∷ []
result_places (NotNamed other) result indexes = []

abbrev pub rule_fault : ℕ → Rule → List ℕ → Fault
rule_fault line Declared name = unknown_name line name
rule_fault line SameRank name = rank_differs line name
rule_fault line SameRanges name = range_differs line name
rule_fault line ListedOnce name = index_twice line name
rule_fault line (NotNamed result) name = result_is_operand line name

-- the column of a rule
abbrev pub column : Rule → ℕ → Declarations → List ℕ → List (List ℕ) → Formula → Option Fault
column rule line d result indexes f = option_map (rule_fault line rule) (first_at (broken d rule) (result_places rule result indexes ++ places f))

-- the fault of a line by its names, their places and its constants
abbrev pub places_fault : ℕ → Declarations → List ℕ → List (List ℕ) → Formula → Option Fault
places_fault line d result indexes f = first (
    option_map (unknown_name line) (first_at (undeclared d) (reference result indexes ∷ places f))
    ∷ fault_if (not (list_all is_constant (constants f))) (bad_number line)
    ∷ option_map (rank_differs line) (first_at (other_rank d) (reference result indexes ∷ places f))
    ∷ option_map (range_differs line) (first_at (other_range d) (reference result indexes ∷ places f))
    ∷ option_map (index_twice line) (first_at listed_twice (listing indexes ∷ places f))
    ∷ option_map (result_is_operand line) (first_at (tensor_named result) (places f))
    ∷ [])

-- the fault of a line by its tree
abbrev pub tree_fault : ℕ → Declarations → List (List ℕ) → Formula → Option Fault
tree_fault line d indexes f = first (
    option_map (tree line) (fault_of d.space (meaning d f))
    ∷ fault_if (not (set_of (indexes_of d.space indexes) == dims (meaning d f))) (result_indices line)
    ∷ [])

-- what the program answers is the name at which a place breaks the rule, if there is one
abbrev pub BrokenAt : Declarations → Rule → Place → Option ArrayString → Type 0
BrokenAt d rule place result = bytes_if_some result ≡ broken d rule place

-- the same of the leftmost of some places
abbrev pub FirstBroken : Declarations → Rule → List Place → Option ArrayString → Type 0
FirstBroken d rule in_places result = bytes_if_some result ≡ first_at (broken d rule) in_places

-- of the result of a line, and of the whole line
abbrev pub BrokenResult : Declarations → Rule → List ℕ → List (Bor (List ℕ)) → Option ArrayString → Type 0
BrokenResult d rule name indexes result = FirstBroken d rule (result_places rule name (names indexes)) result

abbrev pub BrokenLine : Declarations → Rule → List ℕ → List (Bor (List ℕ)) → Written → Option ArrayString → Type 0
BrokenLine d rule name indexes written result =
    FirstBroken d rule (result_places rule name (names indexes) ++ places (formula written)) result

-- a tensor with its indexes, as a place
abbrev pub tensor_place : List ℕ → List (Bor (List ℕ)) → Place
tensor_place name indexes = reference name (names indexes)
