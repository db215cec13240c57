-- What the program answers of a text of several formulas.
use Rattle.std.proofs.Common.{◌≡◌, ℕ, ◌+◌, ◌^◌, Bool, true, false, drop, List, ◌∷◌, length, map, Option, Some, None, Result, Ok, Err, sym, subst, ◌∙◌, ap, nat_lt, if◌then◌else◌}
use Rattle.std.proofs.lemmas.List.{drop-map}
use Rattle.tce_grammar.specs.Lines.{lines}
use Rattle.tce_grammar.specs.Grammar.{Line}
use Rattle.tce_grammar.specs.Reading.{line_of}
use Rattle.tce_spec.specs.Declarations.{nothing_declared}
use Rattle.tce_spec.specs.Faults.{Fault, too_long}
use Rattle.tce_spec.specs.FaultCode.{Shows}
use Rattle.tce_spec.specs.Text.{Head, head_of, closing_fault}
use Rattle.tce_spec.specs.TextCode.{fault_in}
use Rattle.tce_spec.specs.declared.fault.SpecFault.{SpecFault}
use Rattle.tce_spec.proofs.Readings.{computed_head, lines_of}
use Rattle.tce_spec.specs.declared.formula.Contraction.{Contraction}
use Rattle.tce_spec.specs.Specification.{Specification}
use Rattle.tce_spec.specs.SpecCode.{specification_of}
use Rattle.tce_spec.proofs.Reading.{shows_none}
use Rattle.tce_batch.specs.Outcome.{together, IsBatchOutcome}
use Rattle.tce_batch.specs.Reading.{without_formulas, specified_by, of_lines, as_found}
use Rattle.tce_batch.proofs.Lines.{all_found}
use Rattle.tce_batch.proofs.Lines as lines_read
use Rattle.tce_batch.proofs.Computed.{batch_in, batch_behind, behind_first, batch_only}

-- the fault of a head is that of its text
pub head_shown : (text : List ℕ) (found : Result (List Specification) Fault) (f : SpecFault) → IsBatchOutcome text found → Shows (fault_in (computed_head text)) f → Shows (fault_in found) f
head_shown text found f is shown =
    subst (λ (r : Result (List Specification) Fault). Shows (fault_in r) f) (sym (batch_only text found is))
    (by_length (nat_lt (2 ^ 16) (length text)) (head_of 1 nothing_declared (lines_of text)) shown)
  where
    by_length : (long : Bool) (h : Result Head Fault) → Shows (fault_in (if long then Err too_long else h)) f → Shows (fault_in (if long then Err too_long else batch_in (lines_of text) h)) f
    by_length true h s = s
    by_length false (Err x) s = s
    by_length false (Ok x) s = shows_none _ f s

-- behind a head
found_behind : (text : List ℕ) (found : Result (List Specification) Fault) (x : Head) → IsBatchOutcome text found → computed_head text ≡ Ok x → found ≡ batch_behind (lines_of text) x
found_behind text found x is head =
    batch_only text found is ∙ by_length (nat_lt (2 ^ 16) (length text)) (head_of 1 nothing_declared (lines_of text)) head
  where
    by_length : (long : Bool) (h : Result Head Fault) → (if long then Err too_long else h) ≡ Ok x → (if long then Err too_long else batch_in (lines_of text) h) ≡ batch_behind (lines_of text) x
    by_length true h e = cc
    by_length false h e = ap (batch_in (lines_of text)) e

abbrev pub first_of : Head → Result Specification Fault
first_of x = specified_by x.line x.declarations x.result x.indexes x.written

shown_first : (r : Result Specification Fault) (closing : Option Fault) (further : List (Result Specification Fault)) (f : SpecFault) → Shows (fault_in r) f → Shows (fault_in (behind_first r closing further)) f
shown_first (Ok s) closing further f shown = shows_none _ f shown
shown_first (Err x) closing further f shown = shown

-- the fault of the first formula line
pub first_shown : (text : List ℕ) (found : Result (List Specification) Fault) (x : Head) (f : SpecFault) → IsBatchOutcome text found → computed_head text ≡ Ok x → Shows (fault_in (first_of x)) f → Shows (fault_in found) f
first_shown text found x f is head shown =
    subst (λ (r : Result (List Specification) Fault). Shows (fault_in r) f) (sym (found_behind text found x is head)) (shown_first (first_of x) _ _ f shown)

-- the lines of the text behind a line
rest_lines : (text rest : List ℕ) (line : ℕ) → lines rest ≡ drop line (lines text) → lines_of rest ≡ drop line (lines_of text)
rest_lines text rest line is = ap (map line_of) is ∙ sym (drop-map line_of line (lines text))

-- what is found behind a first formula line without a fault
behind_faultless : (text rest : List ℕ) (found : Result (List Specification) Fault) (x : Head) (s : Specification) → IsBatchOutcome text found → computed_head text ≡ Ok x
    → lines rest ≡ drop x.line (lines text) → first_of x ≡ Ok s
    → found ≡ behind_first (Ok s) (closing_fault (x.line + 1) (without_formulas (lines_of rest))) (of_lines (x.line + 1) x.declarations (lines_of rest))
behind_faultless text rest found x s is head behind first =
    found_behind text found x is head
    ∙ ap (λ (r : Result Specification Fault). behind_first r (closing_fault (x.line + 1) (without_formulas (drop x.line (lines_of text)))) (of_lines (x.line + 1) x.declarations (drop x.line (lines_of text)))) first
    ∙ ap (λ (ls : List Line). behind_first (Ok s) (closing_fault (x.line + 1) (without_formulas ls)) (of_lines (x.line + 1) x.declarations ls)) (sym (rest_lines text rest x.line behind))

shown_closing : (s : Specification) (closing : Option Fault) (further : List (Result Specification Fault)) (f : SpecFault) → Shows closing f → Shows (fault_in (behind_first (Ok s) closing further)) f
shown_closing s None further f shown = shows_none _ f shown
shown_closing s (Some x) further f shown = shown

-- the fault of a line that may not follow
pub closing_shown : (text rest : List ℕ) (found : Result (List Specification) Fault) (x : Head) (s : Specification) (f : SpecFault) → IsBatchOutcome text found → computed_head text ≡ Ok x
    → lines rest ≡ drop x.line (lines text) → first_of x ≡ Ok s → Shows (closing_fault (x.line + 1) (without_formulas (lines_of rest))) f → Shows (fault_in found) f
closing_shown text rest found x s f is head behind first shown =
    subst (λ (r : Result (List Specification) Fault). Shows (fault_in r) f) (sym (behind_faultless text rest found x s is head behind first))
    (shown_closing s (closing_fault (x.line + 1) (without_formulas (lines_of rest))) (of_lines (x.line + 1) x.declarations (lines_of rest)) f shown)

behind_closed : (text rest : List ℕ) (found : Result (List Specification) Fault) (x : Head) (s : Specification) → IsBatchOutcome text found → computed_head text ≡ Ok x
    → lines rest ≡ drop x.line (lines text) → first_of x ≡ Ok s → closing_fault (x.line + 1) (without_formulas (lines_of rest)) ≡ None
    → found ≡ together (Ok s ∷ of_lines (x.line + 1) x.declarations (lines_of rest))
behind_closed text rest found x s is head behind first closed =
    behind_faultless text rest found x s is head behind first
    ∙ ap (λ (o : Option Fault). behind_first (Ok s) o (of_lines (x.line + 1) x.declarations (lines_of rest))) closed

-- the fault of a further formula line
pub further_shown : (text rest : List ℕ) (found : Result (List Specification) Fault) (x : Head) (s : Specification) (f : SpecFault) → IsBatchOutcome text found → computed_head text ≡ Ok x
    → lines rest ≡ drop x.line (lines text) → first_of x ≡ Ok s → closing_fault (x.line + 1) (without_formulas (lines_of rest)) ≡ None
    → Shows (fault_in (together (of_lines (x.line + 1) x.declarations (lines_of rest)))) f → Shows (fault_in found) f
further_shown text rest found x s f is head behind first closed shown =
    subst (λ (r : Result (List Specification) Fault). Shows (fault_in r) f) (sym (behind_closed text rest found x s is head behind first closed))
    (subst (λ (o : Option Fault). Shows o f) (sym (lines_read.behind_first s (of_lines (x.line + 1) x.declarations (lines_of rest)))) shown)

-- all was read
pub all_read : (text rest : List ℕ) (found : Result (List Specification) Fault) (x : Head) (s : Specification) (cs : List Contraction) → IsBatchOutcome text found → computed_head text ≡ Ok x
    → lines rest ≡ drop x.line (lines text) → first_of x ≡ Ok s → closing_fault (x.line + 1) (without_formulas (lines_of rest)) ≡ None
    → Ok s ∷ of_lines (x.line + 1) x.declarations (lines_of rest) ≡ as_found x.declarations cs → found ≡ Ok (map (specification_of x.declarations) cs)
all_read text rest found x s cs is head behind first closed read =
    behind_closed text rest found x s is head behind first closed ∙ ap together read ∙ all_found x.declarations cs
