-- What a text specifies, computed, and what the program finds of it.
use Rattle.std.proofs.Common.{◌≡◌, ℕ, ◌+◌, ◌^◌, Bool, true, false, List, map, drop, length, Option, Some, None, Result, Ok, Err, refl, sym, subst, ◌∙◌, ap, nat_lt, if◌then◌else◌}
use Rattle.std.proofs.lemmas.List.{drop-map}
use Rattle.tce_grammar.specs.Lines.{lines}
use Rattle.tce_grammar.specs.Grammar.{Line}
use Rattle.tce_grammar.specs.Reading.{line_of}
use Rattle.tce_spec.specs.Declarations.{nothing_declared}
use Rattle.tce_spec.specs.Faults.{Fault, too_long}
use Rattle.tce_spec.specs.FaultCode.{Shows}
use Rattle.tce_spec.specs.Text.{Head, head_of, closing_fault, unless}
use Rattle.tce_spec.specs.TextCode.{fault_in}
use Rattle.tce_spec.specs.declared.fault.SpecFault.{SpecFault}
use Rattle.tce_spec.specs.declared.fault.SpecFault.TheVariants.{Memory, Tree}
use Rattle.tce_tree.specs.declared.fault.TreeFault.TheVariants as tree_faults
use Rattle.tce_spec.proofs.Readings.{lines_of, lines_are, lines_only, computed_head}
use Rattle.tce_spec.specs.FormulaFaults.{formula_fault}
use Rattle.tce_spec.specs.Specification.{Specification}
use Rattle.tce_spec.specs.Outcome.{IsOutcome, outcome, outcome_in, behind, specified}

abbrev pub computed : List ℕ → Result Specification Fault
computed text = if nat_lt (2 ^ 16) (length text) then Err too_long else outcome (lines_of text)

pub computed_is : (text : List ℕ) → IsOutcome text (computed text)
computed_is text = record { of_lines = lines_of text; are_lines = lines_are (lines text); same = refl }

pub computed_only : (text : List ℕ) (found : Result Specification Fault) → IsOutcome text found → found ≡ computed text
computed_only text found is =
    is.same ∙ ap (λ (ls : List Line). if nat_lt (2 ^ 16) (length text) then Err too_long else outcome ls) (lines_only (lines text) is.of_lines is.are_lines)

-- where nothing is found, the program can only answer want of memory
pub shows_none : (o : Option Fault) (f : SpecFault) → Shows None f → Shows o f
shows_none o Memory s = tt
shows_none o (Tree line tree_faults.Memory) s = absurd s
shows_none o f s = cc

-- the fault of a head is that of its text
pub head_fault : (text : List ℕ) (found : Result Specification Fault) (f : SpecFault) → IsOutcome text found → Shows (fault_in (computed_head text)) f → Shows (fault_in found) f
head_fault text found f is shown =
    subst (λ (r : Result Specification Fault). Shows (fault_in r) f) (sym (computed_only text found is))
    (by_length (nat_lt (2 ^ 16) (length text)) (head_of 1 nothing_declared (lines_of text)) shown)
  where
    by_length : (long : Bool) (h : Result Head Fault) → Shows (fault_in (if long then Err too_long else h)) f → Shows (fault_in (if long then Err too_long else outcome_in (lines_of text) h)) f
    by_length true h s = s
    by_length false (Err x) s = s
    by_length false (Ok x) s = shows_none _ f s

-- behind a head
head_behind : (text : List ℕ) (x : Head) → computed_head text ≡ Ok x → computed text ≡ behind (lines_of text) x
head_behind text x is = by_length (nat_lt (2 ^ 16) (length text)) (head_of 1 nothing_declared (lines_of text)) is
  where
    by_length : (long : Bool) (h : Result Head Fault) → (if long then Err too_long else h) ≡ Ok x → (if long then Err too_long else outcome_in (lines_of text) h) ≡ behind (lines_of text) x
    by_length true h e = cc
    by_length false h e = ap (outcome_in (lines_of text)) e

shows_unless : (o : Option Fault) (next : Result Specification Fault) (f : SpecFault) → Shows o f → Shows (fault_in (unless o next)) f
shows_unless None next f s = shows_none _ f s
shows_unless (Some x) next f s = s

abbrev pub line_fault : Head → Option Fault
line_fault x = formula_fault x.line x.declarations x.result x.indexes x.written

abbrev pub rest_fault : List ℕ → Head → Option Fault
rest_fault text x = closing_fault (x.line + 1) (drop x.line (lines_of text))

found_behind : (text : List ℕ) (found : Result Specification Fault) (x : Head) → IsOutcome text found → computed_head text ≡ Ok x → found ≡ behind (lines_of text) x
found_behind text found x is head = computed_only text found is ∙ head_behind text x head

-- the fault of the formula's line
pub formula_shown : (text : List ℕ) (found : Result Specification Fault) (x : Head) (f : SpecFault) → IsOutcome text found → computed_head text ≡ Ok x → Shows (line_fault x) f → Shows (fault_in found) f
formula_shown text found x f is head shown =
    subst (λ (r : Result Specification Fault). Shows (fault_in r) f) (sym (found_behind text found x is head))
    (shows_unless (line_fault x) (unless (rest_fault text x) (Ok (specified x))) f shown)

-- behind a formula without a fault
rest_behind : (text : List ℕ) (found : Result Specification Fault) (x : Head) → IsOutcome text found → computed_head text ≡ Ok x → line_fault x ≡ None → found ≡ unless (rest_fault text x) (Ok (specified x))
rest_behind text found x is head none =
    found_behind text found x is head ∙ ap (λ (o : Option Fault). unless o (unless (rest_fault text x) (Ok (specified x)))) none

pub rest_shown : (text : List ℕ) (found : Result Specification Fault) (x : Head) (f : SpecFault) → IsOutcome text found → computed_head text ≡ Ok x → line_fault x ≡ None → Shows (rest_fault text x) f → Shows (fault_in found) f
rest_shown text found x f is head none shown =
    subst (λ (r : Result Specification Fault). Shows (fault_in r) f) (sym (rest_behind text found x is head none)) (shows_unless (rest_fault text x) (Ok (specified x)) f shown)

pub all_specified : (text : List ℕ) (found : Result Specification Fault) (x : Head) → IsOutcome text found → computed_head text ≡ Ok x → line_fault x ≡ None → rest_fault text x ≡ None → found ≡ Ok (specified x)
all_specified text found x is head none rest =
    rest_behind text found x is head none ∙ ap (λ (o : Option Fault). unless o (Ok (specified x))) rest

-- the lines of the text behind a formula are those behind its line
pub rest_lines : (text rest : List ℕ) (line : ℕ) → lines rest ≡ drop line (lines text) → closing_fault (line + 1) (lines_of rest) ≡ closing_fault (line + 1) (drop line (lines_of text))
rest_lines text rest line is = ap (λ (ls : List Line). closing_fault (line + 1) ls) (ap (map line_of) is ∙ sym (drop-map line_of line (lines text)))
