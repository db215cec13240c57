-- What the contractions of formula lines keep.
use Rattle.std.proofs.Common.{◌≡◌, ℕ, ◌≤◌, true, List, None, Result, Ok, Err, sym, subst, ◌∙◌}
use Rattle.std.specs.Prelude.{IfOk, OnOk}
use Rattle.tce_tree.specs.Expr.{tree_of}
use Rattle.tce_tree.specs.ContractionTree.{operations}
use Rattle.tce_tree.specs.WellFormed.{sums_distinct}
use Rattle.tce_tree.specs.Faults.{fault_of}
use Rattle.tce_tree.specs.Measure.{IsMeasured}
use Rattle.tce_grammar.specs.Formula.{Formula}
use Rattle.tce_spec.specs.Declarations.{Declarations, IsDeclarations}
use Rattle.tce_spec.specs.declared.fault.SpecFault.{SpecFault}
use Rattle.tce_spec.specs.Contraction.{IsContraction}
use Rattle.tce_spec.specs.FormulaFaults.{formula_fault}
use Rattle.tce_spec.specs.Meaning.{meaning}
use Rattle.tce_spec.specs.declared.formula.Contraction.{Contraction}
use Rattle.tce_spec.specs.Specification.{ConstantsAreWords}
use Rattle.tce_spec.specs.SpecCode.{IsKept}
use Rattle.tce_spec.proofs.Kept.{line_keeps}

pub kept : (line : ℕ) (d : Declarations) (name : List ℕ) (indexes : List (List ℕ)) (f : Formula) (result : Result Contraction SpecFault) → IsDeclarations d
    → IfOk result (λ c. tree_of c.expr ≡ meaning d f) → IfOk result (λ c. c.tree ≡ meaning d f) → IfOk result (λ c. IsMeasured d.space c.tree)
    → IfOk result (λ c. IsContraction d c.result.tensor c.result.indexes.items c.tree) → OnOk result (formula_fault line d name indexes f ≡ None)
    → IfOk result (IsKept d)
kept line d name indexes f (Ok c) rules expr tree measured contraction none =
    let keeps = line_keeps line d name indexes f rules none in
    let same = sym tree in
    record {
      rules = record {
        declarations = rules;
        contraction = contraction;
        few = subst (λ t. operations t ≤ 32) same keeps.few;
        distinct = subst (λ t. sums_distinct t ≡ true) same keeps.distinct;
        faultless = subst (λ t. fault_of d.space t ≡ None) same keeps.faultless;
        measured = measured;
        constants = subst ConstantsAreWords same keeps.constants;
      };
      expression = expr ∙ same;
    }
kept line d name indexes f (Err e) rules expr tree measured contraction none = tt
