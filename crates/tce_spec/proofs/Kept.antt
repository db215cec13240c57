-- What a formula line without a fault keeps.
use Rattle.std.proofs.Common.{◌≡◌, ℕ, ◌≤◌, Bool, true, false, List, Option, None, refl, nat_lt, subst, sym}
use Rattle.std.proofs.lemmas.Bool.{ltb-false}
use Rattle.tce_tree.specs.ContractionTree.{operations as node_count}
use Rattle.tce_tree.specs.WellFormed.{sums_distinct}
use Rattle.tce_tree.specs.Faults.{fault_of}
use Rattle.tce_grammar.specs.Formula as formula
use Rattle.tce_grammar.specs.Formula.{Formula, operations}
use Rattle.tce_grammar.proofs.Chains.{map_none}
use Rattle.tce_spec.specs.Declarations.{Declarations, IsDeclarations}
use Rattle.tce_spec.specs.Faults.{Fault, fault_if, too_many_nodes, tree}
use Rattle.tce_spec.specs.FormulaFaults.{formula_fault}
use Rattle.tce_spec.specs.Lengths.{IsShort}
use Rattle.tce_spec.specs.Meaning.{meaning}
use Rattle.tce_spec.specs.Rules.{places_fault, tree_fault}
use Rattle.tce_spec.proofs.Nothing.{none_or}
use Rattle.tce_spec.proofs.FormulaParts.{fault_parts, is_ready}
use Rattle.tce_spec.specs.Specification.{ConstantsAreWords}

pub record LineKeeps (d : Declarations) (f : Formula) : Type 0 where
  pub few : node_count (meaning d f) ≤ 32
  pub distinct : sums_distinct (meaning d f) ≡ true
  pub faultless : fault_of d.space (meaning d f) ≡ None
  pub constants : ConstantsAreWords (meaning d f)

-- short formulas mean trees over words
words_of : (d : Declarations) (f : Formula) → IsShort f → ConstantsAreWords (meaning d f)
words_of d (formula.tensor name indexes) short = tt
words_of d (formula.constant digits) short = short
words_of d (formula.sum indexes operand) short = words_of d operand short.1
words_of d (formula.binary operator left right) short = (words_of d left short.0, words_of d right short.1)

not_more : (n line : ℕ) → fault_if (nat_lt 32 n) (too_many_nodes line) ≡ None → n ≤ 32
not_more n line h = by_test (nat_lt 32 n) refl h
  where
    by_test : (t : Bool) → nat_lt 32 n ≡ t → fault_if t (too_many_nodes line) ≡ None → n ≤ 32
    by_test true e h = cc
    by_test false e h = ltb-false 32 n e

pub line_keeps : (line : ℕ) (d : Declarations) (result : List ℕ) (indexes : List (List ℕ)) (f : Formula) → IsDeclarations d → formula_fault line d result indexes f ≡ None → LineKeeps d f
line_keeps line d result indexes f rules none =
    let parts = none_or (fault_if (nat_lt 32 (operations f)) (too_many_nodes line)) _ (subst (λ (o : Option Fault). o ≡ None) (fault_parts line d result indexes f) none) in
    let later = none_or (places_fault line d result indexes f) (tree_fault line d indexes f) parts.1 in
    let ready = is_ready line d result indexes f rules later.0 in
    record {
      few = subst (λ n. n ≤ 32) (sym ready.same_count) (not_more (operations f) line parts.0);
      distinct = ready.distinct;
      faultless = map_none (tree line) _ (none_or _ _ later.1).0;
      constants = words_of d f ready.short;
    }
