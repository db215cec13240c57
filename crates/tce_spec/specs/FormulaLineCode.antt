-- The formula line as the program has it: names are parts of the text. A line is free of faults, or what the program answers is its
-- fault or want of memory.
use Rattle.std.specs.Prelude.{◌≡◌, ℕ, IsTrue, List, None, length, nat_lt, option_map}
use Rattle.std.specs.Borrow.{Bor}
use Rattle.std.specs.List.{list_all}
use Rattle.tce_tree.specs.Expr.{tree_of}
use Rattle.tce_tree.specs.Faults.{fault_of}
use Rattle.tce_tree.specs.declared.expr.Expr.{Expr}
use Rattle.tce_grammar.specs.Code.{names, formula}
use Rattle.tce_grammar.specs.declared.formula.Formula.{Formula}
use Rattle.tce_spec.specs.Declarations.{Declarations}
use Rattle.tce_spec.specs.Faults.{tree}
use Rattle.tce_spec.specs.FaultCode.{Shows}
use Rattle.tce_spec.specs.declared.fault.SpecFault.{SpecFault}
use Rattle.tce_spec.specs.Rules.{places_fault, tree_fault}
use Rattle.tce_spec.specs.FormulaFaults.{formula_fault}
use Rattle.tce_spec.specs.Meaning.{meaning, indexes_of}
use Rattle.tce_spec.specs.Contraction.{IsContraction}
use Rattle.tce_spec.specs.declared.formula.Contraction.{Contraction}

-- names, their places and constants
abbrev pub GoodPlaces : ℕ → Declarations → List ℕ → List (Bor (List ℕ)) → Formula → Type 0
GoodPlaces line d name indexes written = places_fault line d name (names indexes) (formula written) ≡ None

abbrev pub BadPlace : ℕ → Declarations → List ℕ → List (Bor (List ℕ)) → Formula → SpecFault → Type 0
BadPlace line d name indexes written fault = Shows (places_fault line d name (names indexes) (formula written)) fault

-- the tree, and its indexes
abbrev pub GoodTree : ℕ → Declarations → List (Bor (List ℕ)) → Formula → Type 0
GoodTree line d indexes written = tree_fault line d (names indexes) (formula written) ≡ None

abbrev pub BadTree : ℕ → Declarations → List (Bor (List ℕ)) → Formula → SpecFault → Type 0
BadTree line d indexes written fault = Shows (tree_fault line d (names indexes) (formula written)) fault

-- the expression alone has no tree
abbrev pub BadExpression : ℕ → Declarations → Expr → SpecFault → Type 0
BadExpression line d expr fault = Shows (option_map (tree line) (fault_of d.space (tree_of expr))) fault

-- the line as a whole
abbrev pub GoodLine : ℕ → Declarations → List ℕ → List (Bor (List ℕ)) → Formula → Type 0
GoodLine line d name indexes written = formula_fault line d name (names indexes) (formula written) ≡ None

abbrev pub BadLine : ℕ → Declarations → List ℕ → List (Bor (List ℕ)) → Formula → SpecFault → Type 0
BadLine line d name indexes written fault = Shows (formula_fault line d name (names indexes) (formula written)) fault

-- the result has the indexes with these names
abbrev pub HasIndexes : Declarations → List (Bor (List ℕ)) → Contraction → Type 0
HasIndexes d indexes c = c.result.indexes.items ≡ indexes_of d.space (names indexes)

-- the expression is what the formula means
abbrev pub HasMeaning : Declarations → Formula → Contraction → Type 0
HasMeaning d written c = tree_of c.expr ≡ meaning d (formula written)

-- what every contraction keeps over its declarations
abbrev pub KeepsRules : Declarations → Contraction → Type 0
KeepsRules d c = IsContraction d c.result.tensor c.result.indexes.items c.tree

-- each number of the list is that of a declared index
abbrev pub AreIndexesOf : Declarations → List ℕ → Type 0
AreIndexesOf d indexes = IsTrue (list_all (λ i. nat_lt i (length d.space.indexes)) indexes)
