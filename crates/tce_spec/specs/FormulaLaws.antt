-- Laws of formula lines.
use Rattle.std.specs.Prelude.{ℕ, IsTrue, List}
use Rattle.tce_space.specs.Name.{is_name}
use Rattle.tce_grammar.specs.Formula.{Formula}
use Rattle.tce_grammar.specs.Grammar.{IsLine, says, formula, AreNames}
use Rattle.tce_spec.specs.Places.{IsNamed}

-- a line that says a formula has names where names stand
abbrev pub FormulaLinesHaveNames : Type 0
FormulaLinesHaveNames =
    (text result : List ℕ) (indexes : List (List ℕ)) (f : Formula) → IsLine text (says (formula result indexes f)) → IsTrue (is_name result) × AreNames indexes × IsNamed f
