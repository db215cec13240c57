-- The lines behind a formula, and what they specify.
use Rattle.std.proofs.Common.{zero, suc, ◌≡◌, ℕ, ◌+◌, ◌<◌, arith, length, List, [], ◌∷◌, ◌++◌, map, Option, Some, None, Result, Ok, Err, refl, sym, subst, ◌∙◌, ap, append-nil}
use Rattle.std.specs.Prelude.{IfSome, All, eqb, ◌==◌, ◌||◌, take}
use Rattle.std.specs.List.{list_any}
use Rattle.std.proofs.lemmas.List.{length-map}
use Rattle.std.proofs.lemmas.List.Elements.{All-push, All-cons, All-nil}
use Rattle.tce_grammar.specs.Grammar.{Line, skipped, bad, says, range, index, declaration, formula}
use Rattle.tce_spec.specs.Declarations.{Declarations}
use Rattle.tce_spec.specs.Faults.{Fault}
use Rattle.tce_spec.specs.FaultCode.{Shows}
use Rattle.tce_spec.specs.TextCode.{fault_in}
use Rattle.tce_spec.specs.declared.fault.SpecFault.{SpecFault}
use Rattle.tce_tree.specs.declared.fault.TreeFault.TheVariants as tree_faults
use Rattle.tce_spec.specs.declared.formula.Contraction.{Contraction}
use Rattle.tce_spec.specs.Specification.{Specification, IsSpecification}
use Rattle.tce_batch.specs.BatchCode.{AreKept, IsBatch, specifications_of, results_before}
use Rattle.tce_batch.specs.Outcome.{together, with_first}
use Rattle.tce_batch.specs.Reading.{specified_by, of_line, of_lines, as_found, as_list}
use Rattle.tce_spec.specs.SpecCode.{specification_of, IsKept}
use Rattle.tce_spec.proofs.Reading.{shows_none}

-- the fault of one result, or of the first of some
pub one_fault : (r : Result Specification Fault) → fault_in (together (r ∷ [])) ≡ fault_in r
one_fault (Ok s) = refl
one_fault (Err f) = refl

shown_one : (r : Result Specification Fault) (further : List (Result Specification Fault)) (f : SpecFault) → Shows (fault_in (together (r ∷ []))) f → Shows (fault_in (together (r ∷ further))) f
shown_one (Ok s) further f shown = shows_none _ f shown
shown_one (Err x) further f shown = shown

pub shown_more : (n : ℕ) (d : Declarations) (l : Line) (further : List (Result Specification Fault)) (f : SpecFault)
    → Shows (fault_in (together (of_line n d l))) f → Shows (fault_in (together (of_line n d l ++ further))) f
shown_more n d skipped further f shown = shows_none _ f shown
shown_more n d bad further f shown = shows_none _ f shown
shown_more n d (says (range name extent edge)) further f shown = shows_none _ f shown
shown_more n d (says (index of_range names)) further f shown = shows_none _ f shown
shown_more n d (says (declaration name ranges)) further f shown = shows_none _ f shown
shown_more n d (says (formula result indexes w)) further f shown = shown_one (specified_by n d result indexes w) further f shown

first_dropped : (s : Specification) (r : Result (List Specification) Fault) → fault_in (with_first s r) ≡ fault_in r
first_dropped s (Ok further) = refl
first_dropped s (Err f) = refl

-- what was found does not hide a fault behind it
pub behind_first : (s : Specification) (rs : List (Result Specification Fault)) → fault_in (together (Ok s ∷ rs)) ≡ fault_in (together rs)
behind_first s rs = first_dropped s (together rs)

pub behind_found : (d : Declarations) (cs : List Contraction) (rs : List (Result Specification Fault)) → fault_in (together (as_found d cs ++ rs)) ≡ fault_in (together rs)
behind_found d [] rs = refl
behind_found d (c ∷ cs) rs = first_dropped _ (together (as_found d cs ++ rs)) ∙ behind_found d cs rs

pub all_found : (d : Declarations) (cs : List Contraction) → together (as_found d cs) ≡ Ok (map (specification_of d) cs)
all_found d [] = refl
all_found d (c ∷ cs) = ap (with_first (specification_of d c)) (all_found d cs)

-- a line more is read
pub next_read : (d : Declarations) (cs : List Contraction) (n : ℕ) (l : Line) (ls : List Line) (read : Option Contraction) → of_line n d l ≡ as_found d (as_list read)
    → as_found d cs ++ of_lines n d (l ∷ ls) ≡ as_found d (cs ++ as_list read) ++ of_lines (n + 1) d ls
next_read d [] n l ls read is = ap (λ (xs : List (Result Specification Fault)). xs ++ of_lines (n + 1) d ls) is
next_read d (c ∷ cs) n l ls read is = ap (λ (xs : List (Result Specification Fault)). Ok (specification_of d c) ∷ xs) (next_read d cs n l ls read is)

pub all_kept : (d : Declarations) (cs : List Contraction) (read : Option Contraction) → All (IsKept d) cs → IfSome read (IsKept d) → All (IsKept d) (cs ++ as_list read)
all_kept d cs None all one = subst (All (IsKept d)) (sym (append-nil cs)) all
all_kept d cs (Some c) all one = All-push (IsKept d) cs c all one

-- the fault of a line behind what was found is the fault of all
pub fault_shown : (d : Declarations) (first cs : List Contraction) (rs : List (Result Specification Fault)) (n : ℕ) (l : Line) (ls : List Line) (f : SpecFault)
    → as_found d first ++ rs ≡ as_found d cs ++ of_lines n d (l ∷ ls) → Shows (fault_in (together (of_line n d l))) f → Shows (fault_in (together rs)) f
fault_shown d first cs rs n l ls f is shown =
    let same : fault_in (together rs) ≡ fault_in (together (of_lines n d (l ∷ ls))) =
    sym (behind_found d first rs) ∙ ap (λ (xs : List (Result Specification Fault)). fault_in (together xs)) is ∙ behind_found d cs (of_lines n d (l ∷ ls)) in
    subst (λ (o : Option Fault). Shows o f) (sym same) (shown_more n d l (of_lines (n + 1) d ls) f shown)

pub some_found : (d : Declarations) (cs : List Contraction) (s : Specification) (rs : List (Result Specification Fault)) → Ok s ∷ rs ≡ as_found d cs → 0 < length cs
some_found d [] s rs is = cc
some_found d (c ∷ cs) s rs is = omega arith

-- the specifications of a batch share their declarations
all_same : (d : Declarations) (cs : List Contraction) → All (λ (s : Specification). s.declarations ≡ d) (specifications_of d cs)
all_same d [] = All-nil (λ (s : Specification). s.declarations ≡ d)
all_same d (c ∷ cs) = All-cons (λ (s : Specification). s.declarations ≡ d) (specification_of d c) (specifications_of d cs) refl (all_same d cs)

all_rules : (d : Declarations) (cs : List Contraction) → All (IsKept d) cs → All IsSpecification (specifications_of d cs)
all_rules d [] kept = All-nil IsSpecification
all_rules d (c ∷ cs) kept = All-cons IsSpecification (specification_of d c) (specifications_of d cs) (kept 0 c (omega arith)).rules (all_rules d cs (λ k e less. kept (suc k) e (omega (arith, less))))

pub is_batch : (d : Declarations) (cs : List Contraction) → AreKept d cs → IsBatch (specifications_of d cs)
is_batch d cs kept = record {
  some = subst (λ n. 0 < n) (sym (length-map cs (specification_of d))) kept.some;
  declarations = d;
  same = all_same d cs;
  rules = all_rules d cs kept.each;
}

-- a tensor that one of the first contractions computes
pub computed_before : (d : Declarations) (cs : List Contraction) (number t : ℕ) → list_any (λ (c : Contraction). t == c.result.tensor) (take number cs) ≡ list_any (eqb t) (results_before (specifications_of d cs) number)
computed_before d cs zero t = refl
computed_before d [] (suc number) t = refl
computed_before d (c ∷ cs) (suc number) t = ap (λ b. (t == c.result.tensor) || b) (computed_before d cs number t)
