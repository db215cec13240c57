-- A line that says a formula has names where names stand.
use Rattle.std.proofs.Common.{ℕ, List, IsTrue, subst}
use Rattle.tce_space.specs.Name.{is_name}
use Rattle.tce_grammar.specs.Formula.{Formula}
use Rattle.tce_grammar.specs.Grammar.{Written, reference, numeral, summed, joined, group, IsWritten, meaning, IsLine, says, formula, AreNames}
use Rattle.tce_spec.specs.Places.{IsNamed}

written_names : (w : Written) → IsWritten w → IsNamed (meaning w)
written_names (reference name indexes) h = h
written_names (numeral digits) h = h
written_names (summed indexes operand) h = (h.0, h.1, written_names operand h.2)
written_names (joined operator left right) h = (written_names left h.2, written_names right h.3)
written_names (group inner) h = written_names inner h

pub line_names : (text result : List ℕ) (indexes : List (List ℕ)) (f : Formula) → IsLine text (says (formula result indexes f))
    → IsTrue (is_name result) × AreNames indexes × IsNamed f
line_names text result indexes f h =
    let said = h.2 in
    (said.0, said.1, subst IsNamed said.2.3 (written_names said.2.0 said.2.1))
