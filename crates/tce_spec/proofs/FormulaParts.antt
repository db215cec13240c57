-- The parts of the fault of a formula line.
use Rattle.std.proofs.Common.{◌≡◌, ℕ, ◌≤◌, List, [], ◌∷◌, length, Bool, true, false, not, ◌==◌, Option, Some, None, refl, sym, ap, ap₂, subst, ◌∙◌, nat_lt, arith}
use Rattle.std.specs.Prelude.{option_map, is_none}
use Rattle.std.specs.Option.{option_or}
use Rattle.std.specs.List.{list_all}
use Rattle.tce_space.specs.IndexSet.{set_of}
use Rattle.tce_grammar.specs.Formula.{Formula, operations}
use Rattle.tce_grammar.proofs.Chains.{map_none}
use Rattle.tce_tree.specs.ContractionTree.{ContractionTree, dims, operations as node_count}
use Rattle.tce_tree.specs.WellFormed.{indexes_below, sums_distinct}
use Rattle.tce_tree.specs.Faults.{fault_of}
use Rattle.tce_spec.specs.Declarations.{Declarations, IsDeclarations, tensor_number}
use Rattle.tce_spec.specs.DeclarationLines.{twice_after}
use Rattle.tce_spec.specs.Faults.{Fault, fault_if, too_many_nodes, unknown_name, bad_number, rank_differs, range_differs, index_twice, result_is_operand, tree, result_indices}
use Rattle.tce_spec.specs.Places.{IsNamed, reference, listing, places, first_at, constants}
use Rattle.tce_spec.specs.PlaceFaults.{undeclared_index, undeclared, other_rank, other_range, listed_twice, tensor_named}
use Rattle.tce_spec.specs.FormulaFaults.{is_constant, formula_fault}
use Rattle.tce_spec.specs.Meaning.{meaning, indexes_of, tensor_of}
use Rattle.tce_spec.specs.Rules.{places_fault, tree_fault}
use Rattle.tce_spec.specs.Lengths.{IsShort}
use Rattle.tce_spec.specs.Contraction.{IsContraction}
use Rattle.tce_spec.specs.FaultCode.{Shows}
use Rattle.tce_spec.specs.declared.fault.SpecFault.{SpecFault}
use Rattle.tce_spec.proofs.ShownFaults.{shown_1}
use Rattle.tce_spec.proofs.Nothing.{none_or, none_found}
use Rattle.tce_spec.proofs.DistinctNames.{distinct_numbers, numbers_below}
use Rattle.tce_spec.proofs.Faultless.{same_operations, indexes_declared, sums_once, short_leaf, short_formula, fits_tensor, leaves_fit, not_operand, sums_listed}

-- what a line without a fault at its places keeps, column by column
pub record HasNoFault (d : Declarations) (result : List ℕ) (indexes : List (List ℕ)) (f : Formula) : Type 0 where
  pub result_declared : undeclared d (reference result indexes) ≡ None
  pub declared : first_at (undeclared d) (places f) ≡ None
  pub numbers : list_all is_constant (constants f) ≡ true
  pub result_rank : other_rank d (reference result indexes) ≡ None
  pub rank : first_at (other_rank d) (places f) ≡ None
  pub result_ranges : other_range d (reference result indexes) ≡ None
  pub ranges : first_at (other_range d) (places f) ≡ None
  pub result_once : twice_after [] indexes ≡ None
  pub once : first_at listed_twice (places f) ≡ None
  pub apart : first_at (tensor_named result) (places f) ≡ None

pub unfaulted : (b : Bool) (fault : Fault) → fault_if (not b) fault ≡ None → b ≡ true
unfaulted true fault h = refl
unfaulted false fault h = cc

pub no_fault : (line : ℕ) (d : Declarations) (result : List ℕ) (indexes : List (List ℕ)) (f : Formula)
    → places_fault line d result indexes f ≡ None → HasNoFault d result indexes f
no_fault line d result indexes f none =
    let names = option_map (unknown_name line) (first_at (undeclared d) (reference result indexes ∷ places f)) in
    let number = fault_if (not (list_all is_constant (constants f))) (bad_number line) in
    let rank = option_map (rank_differs line) (first_at (other_rank d) (reference result indexes ∷ places f)) in
    let range = option_map (range_differs line) (first_at (other_range d) (reference result indexes ∷ places f)) in
    let twice = option_map (index_twice line) (first_at listed_twice (listing indexes ∷ places f)) in
    let operand = option_map (result_is_operand line) (first_at (tensor_named result) (places f)) in
    let a = none_or names _ none in
    let b = none_or number _ a.1 in
    let c = none_or rank _ b.1 in
    let e = none_or range _ c.1 in
    let g = none_or twice _ e.1 in
    let h = none_or operand None g.1 in
    let at_names = none_or (undeclared d (reference result indexes)) (first_at (undeclared d) (places f)) (map_none (unknown_name line) _ a.0) in
    let at_rank = none_or (other_rank d (reference result indexes)) (first_at (other_rank d) (places f)) (map_none (rank_differs line) _ c.0) in
    let at_range = none_or (other_range d (reference result indexes)) (first_at (other_range d) (places f)) (map_none (range_differs line) _ e.0) in
    let at_twice = none_or (twice_after [] indexes) (first_at listed_twice (places f)) (map_none (index_twice line) _ g.0) in
    record {
      result_declared = at_names.0;
      declared = at_names.1;
      numbers = unfaulted (list_all is_constant (constants f)) (bad_number line) b.0;
      result_rank = at_rank.0;
      rank = at_rank.1;
      result_ranges = at_range.0;
      ranges = at_range.1;
      result_once = at_twice.0;
      once = at_twice.1;
      apart = map_none (result_is_operand line) _ h.0;
    }

six : (a b c d e f rest : Option Fault)
    → option_or a (option_or b (option_or c (option_or d (option_or e (option_or f rest)))))
    ≡ option_or (option_or a (option_or b (option_or c (option_or d (option_or e (option_or f None)))))) rest
six (Some x) b c d e f rest = refl
six None (Some x) c d e f rest = refl
six None None (Some x) d e f rest = refl
six None None None (Some x) e f rest = refl
six None None None None (Some x) f rest = refl
six None None None None None (Some x) rest = refl
six None None None None None None rest = refl

-- the fault of a line: of its length, of its places, then of its tree
pub fault_parts : (line : ℕ) (d : Declarations) (result : List ℕ) (indexes : List (List ℕ)) (f : Formula)
    → formula_fault line d result indexes f
    ≡ option_or (fault_if (nat_lt 32 (operations f)) (too_many_nodes line)) (option_or (places_fault line d result indexes f) (tree_fault line d indexes f))
fault_parts line d result indexes f =
    ap (option_or (fault_if (nat_lt 32 (operations f)) (too_many_nodes line)))
    (six (option_map (unknown_name line) (first_at (undeclared d) (reference result indexes ∷ places f))) (fault_if (not (list_all is_constant (constants f))) (bad_number line))
    (option_map (rank_differs line) (first_at (other_rank d) (reference result indexes ∷ places f)))
    (option_map (range_differs line) (first_at (other_range d) (reference result indexes ∷ places f)))
    (option_map (index_twice line) (first_at listed_twice (listing indexes ∷ places f)))
    (option_map (result_is_operand line) (first_at (tensor_named result) (places f)))
    (tree_fault line d indexes f))

equal_from : (a b : ℕ) → (a == b) ≡ true → a ≡ b
equal_from a b h = grind (arith, h)

pub is_contraction : (line : ℕ) (d : Declarations) (result : List ℕ) (indexes : List (List ℕ)) (f : Formula) → IsNamed f
    → places_fault line d result indexes f ≡ None
    → tree_fault line d indexes f ≡ None → IsContraction d (tensor_of d result) (indexes_of d.space indexes) (meaning d f)
is_contraction line d result indexes f named none whole =
    let parts = no_fault line d result indexes f none in
    let here = none_found (is_none (tensor_number d.tensors result)) result (undeclared_index d.space indexes) parts.result_declared in
    let last = none_or (option_map (tree line) (fault_of d.space (meaning d f))) _ whole in
    let same = none_or (fault_if (not (set_of (indexes_of d.space indexes) == dims (meaning d f))) (result_indices line)) None last.1 in
    record {
      result_fits = fits_tensor d result indexes parts.result_declared parts.result_rank parts.result_ranges;
      leaves_fit = leaves_fit d f parts.declared parts.rank parts.ranges;
      declared = indexes_declared d f parts.declared;
      sums_some = sums_listed d f named;
      once = distinct_numbers d [] indexes here.1 parts.result_once;
      same_indexes = equal_from (set_of (indexes_of d.space indexes)) (dims (meaning d f)) (unfaulted (set_of (indexes_of d.space indexes) == dims (meaning d f)) (result_indices line) same.0);
      no_operand = not_operand d result f here.0 parts.declared parts.apart;
    }

-- what the code asks of a line without a fault at its places
pub record IsReady (d : Declarations) (indexes : List (List ℕ)) (f : Formula) : Type 0 where
  pub result_short : length indexes ≤ 8
  pub result_below : list_all (λ i. nat_lt i (length d.space.indexes)) (indexes_of d.space indexes) ≡ true
  pub short : IsShort f
  pub same_count : node_count (meaning d f) ≡ operations f
  pub declared : indexes_below (length d.space.indexes) (meaning d f) ≡ true
  pub distinct : sums_distinct (meaning d f) ≡ true

pub is_ready : (line : ℕ) (d : Declarations) (result : List ℕ) (indexes : List (List ℕ)) (f : Formula) → IsDeclarations d
    → places_fault line d result indexes f ≡ None → IsReady d indexes f
is_ready line d result indexes f rules none =
    let parts = no_fault line d result indexes f none in
    let here = none_found (is_none (tensor_number d.tensors result)) result (undeclared_index d.space indexes) parts.result_declared in
    record {
      result_short = short_leaf d result indexes rules parts.result_rank;
      result_below = numbers_below d indexes here.1;
      short = short_formula d f rules parts.declared parts.numbers parts.rank parts.once;
      same_count = same_operations d f;
      declared = indexes_declared d f parts.declared;
      distinct = sums_once d f parts.declared parts.once;
    }

-- the fault of a line of few operations, without a fault at its places, is that of its tree
pub only_tree : (line : ℕ) (d : Declarations) (result : List ℕ) (indexes : List (List ℕ)) (f : Formula) → nat_lt 32 (operations f) ≡ false
    → places_fault line d result indexes f ≡ None
    → formula_fault line d result indexes f ≡ tree_fault line d indexes f
only_tree line d result indexes f few none =
    fault_parts line d result indexes f
    ∙ ap (λ b. option_or (fault_if b (too_many_nodes line)) (option_or (places_fault line d result indexes f) (tree_fault line d indexes f))) few
    ∙ ap (λ o. option_or o (tree_fault line d indexes f)) none

-- the fault of a line of few operations is that at its places, if there is one
pub shown_places : (line : ℕ) (d : Declarations) (result : List ℕ) (indexes : List (List ℕ)) (f : Formula) → nat_lt 32 (operations f) ≡ false
    → (fault : SpecFault) → Shows (places_fault line d result indexes f) fault → Shows (formula_fault line d result indexes f) fault
shown_places line d result indexes f few fault shown =
    let parts : formula_fault line d result indexes f ≡ option_or (places_fault line d result indexes f) (tree_fault line d indexes f) =
    fault_parts line d result indexes f
    ∙ ap (λ b. option_or (fault_if b (too_many_nodes line)) (option_or (places_fault line d result indexes f) (tree_fault line d indexes f))) few in
    subst (λ (found : Option Fault). Shows found fault) (sym parts) (shown_1 (places_fault line d result indexes f) (tree_fault line d indexes f) fault shown)

pub too_many : (line : ℕ) (d : Declarations) (result : List ℕ) (indexes : List (List ℕ)) (f : Formula) → nat_lt 32 (operations f) ≡ true
    → formula_fault line d result indexes f ≡ Some (too_many_nodes line)
too_many line d result indexes f many =
    fault_parts line d result indexes f
    ∙ ap (λ b. option_or (fault_if b (too_many_nodes line)) (option_or (places_fault line d result indexes f) (tree_fault line d indexes f))) many

-- the fault of a tree that is built of what the formula means, and of its indexes

pub tree_shown : (line : ℕ) (d : Declarations) (indexes : List (List ℕ)) (f : Formula) (t : ContractionTree) (fault : SpecFault) → t ≡ meaning d f
    → Shows (option_map (tree line) (fault_of d.space t)) fault → Shows (tree_fault line d indexes f) fault
tree_shown line d indexes f t fault same shown =
    shown_1 (option_map (tree line) (fault_of d.space (meaning d f))) _ fault
    (subst (λ (u : ContractionTree). Shows (option_map (tree line) (fault_of d.space u)) fault) same shown)

-- whether these indexes are those of the tree, as the code tests it
pub record IsTested (d : Declarations) (indexes : List (List ℕ)) (f : Formula) (test : Bool) : Type 0 where
  pub faultless : fault_of d.space (meaning d f) ≡ None
  pub same : (set_of (indexes_of d.space indexes) == dims (meaning d f)) ≡ test

pub tested : (d : Declarations) (indexes : List (List ℕ)) (f : Formula) (t : ContractionTree) (numbers : List ℕ) (result test : Bool) → t ≡ meaning d f
    → fault_of d.space t ≡ None → numbers ≡ indexes_of d.space indexes → result ≡ (set_of numbers == dims t) → result ≡ test → IsTested d indexes f test
tested d indexes f t numbers result test tree_is none numbers_are is found = record {
  faultless = subst (λ (u : ContractionTree). fault_of d.space u ≡ None) tree_is none;
  same = sym (ap₂ (λ (ns : List ℕ) (u : ContractionTree). set_of ns == dims u) numbers_are tree_is) ∙ sym is ∙ found;
}

fault_tested : (line : ℕ) (d : Declarations) (indexes : List (List ℕ)) (f : Formula) (test : Bool) → IsTested d indexes f test
    → tree_fault line d indexes f ≡ fault_if (not test) (result_indices line)
fault_tested line d indexes f true t = rw (t.faultless, t.same) refl
fault_tested line d indexes f false t = rw (t.faultless, t.same) refl

pub tree_good : (line : ℕ) (d : Declarations) (indexes : List (List ℕ)) (f : Formula) → IsTested d indexes f true → tree_fault line d indexes f ≡ None
tree_good line d indexes f t = fault_tested line d indexes f true t

pub indexes_shown : (line : ℕ) (d : Declarations) (indexes : List (List ℕ)) (f : Formula) → IsTested d indexes f false → tree_fault line d indexes f ≡ Some (result_indices line)
indexes_shown line d indexes f t = fault_tested line d indexes f false t
