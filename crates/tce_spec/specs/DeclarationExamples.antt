-- Lines of declarations that were judged by hand.
use Rattle.std.specs.Prelude.{◌≡◌, List, [], ◌∷◌, codes, Option}
use Rattle.std.specs.declared.option.Option.TheVariants.{Some, None}
use Rattle.std.specs.List.{AllByRecursion}
use Rattle.tce_grammar.specs.Formula.{constant}
use Rattle.tce_grammar.specs.Grammar.{Line, skipped, bad, says, range, index, declaration, formula}
use Rattle.tce_spec.specs.Declarations.{nothing_declared}
use Rattle.tce_spec.specs.Faults.{Fault, bad_text, name_twice, unknown_name, bad_number, limit_passed, words_of_tile}
use Rattle.tce_spec.specs.Text.{head_of}
use Rattle.tce_spec.specs.TextCode.{fault_in}

-- a range of 2, an index of it, and a formula
abbrev pub range_line : Line
range_line = says (range (codes "N") (codes "2") None)

abbrev pub formula_line : Line
formula_line = says (formula (codes "C") [] (constant (codes "3")))

abbrev pub wide_range : Line
wide_range = says (range (codes "W") (codes "4294967295") (Some (codes "1048577")))

-- lines, and their first fault
abbrev pub judged : List (List Line × Option Fault)
judged =
    ((range_line ∷ skipped ∷ formula_line ∷ bad ∷ []), None)
    ∷ ([], Some (bad_text 1))
    ∷ ((range_line ∷ skipped ∷ []), Some (bad_text 3))
    ∷ ((skipped ∷ bad ∷ []), Some (bad_text 2))
    ∷ ((range_line ∷ range_line ∷ []), Some (name_twice 2 (codes "N")))
    ∷ ((says (range (codes "N") (codes "02") None) ∷ []), Some (bad_number 1))
    ∷ ((says (range (codes "N") (codes "4294967296") None) ∷ []), Some (bad_number 1))
    ∷ ((says (range (codes "N") (codes "2") (Some (codes "3"))) ∷ []), Some (bad_number 1))
    ∷ ((range_line ∷ says (range (codes "N") (codes "0") None) ∷ []), Some (name_twice 2 (codes "N")))
    ∷ ((says (index (codes "N") (codes "i" ∷ codes "j" ∷ codes "j" ∷ codes "i" ∷ [])) ∷ []), Some (name_twice 1 (codes "j")))
    ∷ ((says (index (codes "N") (codes "i" ∷ [])) ∷ []), Some (unknown_name 1 (codes "N")))
    ∷ ((range_line ∷ says (declaration (codes "A") (codes "N" ∷ codes "M" ∷ [])) ∷ []), Some (unknown_name 2 (codes "M")))
    ∷ ((range_line ∷ says (declaration (codes "A") []) ∷ says (declaration (codes "A") (codes "M" ∷ [])) ∷ []), Some (name_twice 3 (codes "A")))
    ∷ ((wide_range ∷ says (declaration (codes "A") (codes "W" ∷ [])) ∷ []), Some (limit_passed 2 words_of_tile))
    ∷ []

abbrev pub ExamplesHaveTheirFaults : Type 0
ExamplesHaveTheirFaults = AllByRecursion (λ (e : List Line × Option Fault). fault_in (head_of 1 nothing_declared e.0) ≡ e.1) judged
