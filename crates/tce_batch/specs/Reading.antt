-- The formula lines of a batch, each read once, over the declarations in front of the first. The contracts inside this crate speak of these functions.
use Rattle.std.specs.Prelude.{ℕ, ◌+◌, Bool, true, false, if◌then◌else◌, List, [], ◌∷◌, ◌++◌, map, Option, Result}
use Rattle.std.specs.declared.option.Option.TheVariants.{Some, None}
use Rattle.std.specs.declared.result.Result.TheVariants.{Ok}
use Rattle.tce_grammar.specs.Formula.{Formula}
use Rattle.tce_grammar.specs.Grammar.{Line, skipped, bad, says, range, index, declaration, formula}
use Rattle.tce_spec.specs.Declarations.{Declarations}
use Rattle.tce_spec.specs.Faults.{Fault}
use Rattle.tce_spec.specs.Text.{unless}
use Rattle.tce_spec.specs.FormulaFaults.{formula_fault}
use Rattle.tce_spec.specs.declared.formula.Contraction.{Contraction}
use Rattle.tce_spec.specs.Specification.{Specification}
use Rattle.tce_spec.specs.SpecCode.{specification_of}
use Rattle.tce_spec.specs.Outcome.{specified}
use Rattle.tce_batch.specs.Texts.{is_formula}

-- whether a line may stand behind a formula of a batch
abbrev pub may_follow : Line → Bool
may_follow skipped = true
may_follow bad = false
may_follow (says s) = is_formula (says s)

abbrev pub without_formula : Line → Line
without_formula l = if is_formula l then skipped else l

-- each formula line skipped
abbrev pub without_formulas : List Line → List Line
without_formulas ls = map without_formula ls

-- what a formula line specifies over declarations, or its fault
abbrev pub specified_by : ℕ → Declarations → List ℕ → List (List ℕ) → Formula → Result Specification Fault
specified_by line d result indexes f =
    unless (formula_fault line d result indexes f) (Ok (specified (record { declarations = d; line = line; result = result; indexes = indexes; written = f })))

-- what a line specifies, where it is a formula line
abbrev pub of_line : ℕ → Declarations → Line → List (Result Specification Fault)
of_line line d skipped = []
of_line line d bad = []
of_line line d (says (range name extent edge)) = []
of_line line d (says (index of_range names)) = []
of_line line d (says (declaration name ranges)) = []
of_line line d (says (formula result indexes f)) = specified_by line d result indexes f ∷ []

-- what the formula lines among these specify; `line` is the number of the first of the lines
abbrev pub of_lines : ℕ → Declarations → List Line → List (Result Specification Fault)
of_lines line d [] = []
of_lines line d (l ∷ rest) = of_line line d l ++ of_lines (line + 1) d rest

-- what the program read
abbrev pub as_found : Declarations → List Contraction → List (Result Specification Fault)
as_found d cs = map (λ c. Ok (specification_of d c)) cs

abbrev pub as_list : Option Contraction → List Contraction
as_list None = []
as_list (Some c) = c ∷ []
