-- What the lines of texts specify that keep one formula line each, by the lines alone.
use Rattle.std.proofs.Common.{inl, inr, ◌≡◌, ℕ, ◌+◌, zero, suc, add-one, drop, true, false, List, [], ◌∷◌, map, Option, Some, None, Result, Ok, Err, refl, sym, subst, ◌∙◌, ap, if◌then◌else◌}
use Rattle.std.specs.Prelude.{◌⊎◌, IsTrue}
use Rattle.tce_grammar.specs.Grammar.{Line, skipped, bad, says, range, index, declaration, formula}
use Rattle.tce_spec.specs.Declarations.{Declarations, nothing_declared}
use Rattle.tce_spec.specs.DeclarationLines.{statement_fault, with_statement}
use Rattle.tce_spec.specs.Faults.{Fault, bad_text}
use Rattle.tce_spec.specs.Text.{Head, head_of, closing_fault, unless}
use Rattle.tce_spec.proofs.Readings.{unless_ok}
use Rattle.tce_spec.specs.FormulaFaults.{formula_fault}
use Rattle.tce_spec.specs.Specification.{Specification}
use Rattle.tce_spec.specs.Outcome.{outcome, outcome_in, specified}
use Rattle.tce_batch.specs.Texts.{is_formula}
use Rattle.tce_batch.specs.Reading.{without_formulas, specified_by, of_lines}

-- what lines specify, from declarations on
abbrev pub result_from : ℕ → Declarations → List Line → Result Specification Fault
result_from line d [] = Err (bad_text line)
result_from line d (skipped ∷ rest) = result_from (line + 1) d rest
result_from line d (bad ∷ rest) = Err (bad_text line)
result_from line d (says (formula result indexes f) ∷ rest) =
    unless (formula_fault line d result indexes f)
    (unless (closing_fault (line + 1) rest) (Ok (specified (record { declarations = d; line = line; result = result; indexes = indexes; written = f }))))
result_from line d (says s ∷ rest) = unless (statement_fault line d s) (result_from (line + 1) (with_statement d s) rest)

-- each formula line in turn, the others skipped
abbrev pub alones : List Line → List (List Line)
alones [] = []
alones (l ∷ ls) =
    if is_formula l then (l ∷ without_formulas ls) ∷ map (λ (others : List Line). skipped ∷ others) (alones ls)
    else map (λ (others : List Line). l ∷ others) (alones ls)

line_behind : (whole : List Line) (k : ℕ) (first : Line) (rest : List Line) → drop k whole ≡ first ∷ rest → drop (k + 1) whole ≡ rest
line_behind whole k first rest is = rw add-one (behind_suc whole k first rest is)
  where
    behind_suc : (whole : List Line) (k : ℕ) (first : Line) (rest : List Line) → drop k whole ≡ first ∷ rest → drop (suc k) whole ≡ rest
    behind_suc [] zero first rest is = cc
    behind_suc [] (suc k) first rest is = cc
    behind_suc (l ∷ ls) zero first rest is = cc
    behind_suc (l ∷ ls) (suc k) first rest is = behind_suc ls k first rest is

outcome_unless : (whole : List Line) (o : Option Fault) (h : Result Head Fault) → outcome_in whole (unless o h) ≡ unless o (outcome_in whole h)
outcome_unless whole None h = refl
outcome_unless whole (Some f) h = refl

outcome_from : (whole : List Line) (k : ℕ) (d : Declarations) (ls : List Line) → drop k whole ≡ ls → outcome_in whole (head_of (k + 1) d ls) ≡ result_from (k + 1) d ls
outcome_from whole k d [] is = refl
outcome_from whole k d (skipped ∷ rest) is = outcome_from whole (k + 1) d rest (line_behind whole k skipped rest is)
outcome_from whole k d (bad ∷ rest) is = refl
outcome_from whole k d (says (range name extent edge) ∷ rest) is =
    let s = range name extent edge in
    outcome_unless whole (statement_fault (k + 1) d s) (head_of (k + 1 + 1) (with_statement d s) rest)
    ∙ ap (unless (statement_fault (k + 1) d s)) (outcome_from whole (k + 1) (with_statement d s) rest (line_behind whole k (says s) rest is))
outcome_from whole k d (says (index of_range names) ∷ rest) is =
    let s = index of_range names in
    outcome_unless whole (statement_fault (k + 1) d s) (head_of (k + 1 + 1) (with_statement d s) rest)
    ∙ ap (unless (statement_fault (k + 1) d s)) (outcome_from whole (k + 1) (with_statement d s) rest (line_behind whole k (says s) rest is))
outcome_from whole k d (says (declaration name ranges) ∷ rest) is =
    let s = declaration name ranges in
    outcome_unless whole (statement_fault (k + 1) d s) (head_of (k + 1 + 1) (with_statement d s) rest)
    ∙ ap (unless (statement_fault (k + 1) d s)) (outcome_from whole (k + 1) (with_statement d s) rest (line_behind whole k (says s) rest is))
outcome_from whole k d (says (formula result indexes f) ∷ rest) is =
    ap (λ (ls : List Line). unless (formula_fault (k + 1) d result indexes f) (unless (closing_fault (k + 1 + 1) ls)
    (Ok (specified (record { declarations = d; line = k + 1; result = result; indexes = indexes; written = f })))))
    (line_behind whole k (says (formula result indexes f)) rest is)

pub outcome_is : (ls : List Line) → outcome ls ≡ result_from 1 nothing_declared ls
outcome_is ls = outcome_from ls 0 nothing_declared ls refl

-- lines of a text, and the same with a skipped line behind them
abbrev pub IsTrimmed : List Line → List Line → Type 0
IsTrimmed [] [] = Unit {0}
IsTrimmed [] (b ∷ []) = b ≡ skipped
IsTrimmed [] (b ∷ c ∷ ys) = ⊥
IsTrimmed (a ∷ xs) [] = ⊥
IsTrimmed (a ∷ xs) (b ∷ ys) = (a ≡ b) × IsTrimmed xs ys

-- the same, where the first formula line stands in both
abbrev pub IsAlone : List Line → List Line → Type 0
IsAlone [] ys = ⊥
IsAlone (a ∷ xs) [] = ⊥
IsAlone (a ∷ xs) (b ∷ ys) = (a ≡ b) × ((IsTrue (is_formula b) × IsTrimmed xs ys) ⊎ IsAlone xs ys)

trimmed : (xs ys : List Line) → IsAlone xs ys → IsTrimmed xs ys
trimmed [] ys is = absurd is
trimmed (a ∷ xs) [] is = absurd is
trimmed (a ∷ xs) (b ∷ ys) (same, inl is) = (same, is.1)
trimmed (a ∷ xs) (b ∷ ys) (same, inr is) = (same, trimmed xs ys is)

closing_cons : (n : ℕ) (l : Line) (xs ys : List Line) → closing_fault (n + 1) xs ≡ closing_fault (n + 1) ys → closing_fault n (l ∷ xs) ≡ closing_fault n (l ∷ ys)
closing_cons n skipped xs ys is = is
closing_cons n bad xs ys is = refl
closing_cons n (says s) xs ys is = refl

trimmed_closing : (n : ℕ) (xs ys : List Line) → IsTrimmed xs ys → closing_fault n xs ≡ closing_fault n ys
trimmed_closing n [] [] is = refl
trimmed_closing n [] (b ∷ []) is = ap (λ (l : Line). closing_fault n (l ∷ [])) (sym is)
trimmed_closing n [] (b ∷ c ∷ ys) is = absurd is
trimmed_closing n (a ∷ xs) [] is = absurd is
trimmed_closing n (a ∷ xs) (b ∷ ys) is =
    closing_cons n a xs ys (trimmed_closing (n + 1) xs ys is.1) ∙ ap (λ (l : Line). closing_fault n (l ∷ ys)) is.0

further : (a : Line) (xs ys : List Line) → is_formula a ≡ false → (IsTrue (is_formula a) × IsTrimmed xs ys) ⊎ IsAlone xs ys → IsAlone xs ys
further a xs ys none (inl is) = let e : false ≡ true = sym none ∙ is.0 in cc
further a xs ys none (inr is) = is

closed : (a : Line) (xs ys : List Line) → (IsTrue (is_formula a) × IsTrimmed xs ys) ⊎ IsAlone xs ys → IsTrimmed xs ys
closed a xs ys (inl is) = is.1
closed a xs ys (inr is) = trimmed xs ys is

result_cons : (n : ℕ) (d : Declarations) (l : Line) (xs ys : List Line) → (IsTrue (is_formula l) × IsTrimmed xs ys) ⊎ IsAlone xs ys
    → ((n : ℕ) (d : Declarations) → IsAlone xs ys → result_from n d xs ≡ result_from n d ys) → result_from n d (l ∷ xs) ≡ result_from n d (l ∷ ys)
result_cons n d skipped xs ys is more = more (n + 1) d (further skipped xs ys refl is)
result_cons n d bad xs ys is more = refl
result_cons n d (says (range name extent edge)) xs ys is more =
    ap (unless (statement_fault n d (range name extent edge))) (more (n + 1) (with_statement d (range name extent edge)) (further (says (range name extent edge)) xs ys refl is))
result_cons n d (says (index of_range names)) xs ys is more =
    ap (unless (statement_fault n d (index of_range names))) (more (n + 1) (with_statement d (index of_range names)) (further (says (index of_range names)) xs ys refl is))
result_cons n d (says (declaration name ranges)) xs ys is more =
    ap (unless (statement_fault n d (declaration name ranges))) (more (n + 1) (with_statement d (declaration name ranges)) (further (says (declaration name ranges)) xs ys refl is))
result_cons n d (says (formula result indexes f)) xs ys is more =
    ap (λ (o : Option Fault). unless (formula_fault n d result indexes f) (unless o
    (Ok (specified (record { declarations = d; line = n; result = result; indexes = indexes; written = f })))))
    (trimmed_closing (n + 1) xs ys (closed (says (formula result indexes f)) xs ys is))

pub alone_result : (n : ℕ) (d : Declarations) (xs ys : List Line) → IsAlone xs ys → result_from n d xs ≡ result_from n d ys
alone_result n d [] ys is = absurd is
alone_result n d (a ∷ xs) [] is = absurd is
alone_result n d (a ∷ xs) (b ∷ ys) is =
    ap (λ (l : Line). result_from n d (l ∷ xs)) is.0 ∙ result_cons n d b xs ys is.1 (λ n d more. alone_result n d xs ys more)

-- one line in front of each
map_cons : (n m : ℕ) (d e : Declarations) (l : Line) (lists : List (List Line)) → ((ls : List Line) → result_from n d (l ∷ ls) ≡ result_from m e ls)
    → map (result_from n d) (map (λ (ls : List Line). l ∷ ls) lists) ≡ map (result_from m e) lists
map_cons n m d e l [] is = refl
map_cons n m d e l (ls ∷ lists) is = λ i. is ls i ∷ map_cons n m d e l lists is i

-- the lines behind the first formula line
abbrev pub rest_of : List Line → List Line
rest_of [] = []
rest_of (l ∷ ls) = if is_formula l then ls else rest_of ls

unless_faultless : {A : Type 0} (fault : Option Fault) (next : Result A Fault) (x : A) → unless fault next ≡ Ok x → fault ≡ None
unless_faultless None next x is = refl
unless_faultless (Some f) next x is = cc

-- the rest of a head
rest_from : (whole : List Line) (k : ℕ) (d : Declarations) (ls : List Line) (x : Head) → drop k whole ≡ ls → head_of (k + 1) d ls ≡ Ok x → drop x.line whole ≡ rest_of ls
rest_from whole k d [] x is head = cc
rest_from whole k d (skipped ∷ rest) x is head = rest_from whole (k + 1) d rest x (line_behind whole k skipped rest is) head
rest_from whole k d (bad ∷ rest) x is head = cc
rest_from whole k d (says (range name extent edge) ∷ rest) x is head =
    let s = range name extent edge in
    rest_from whole (k + 1) (with_statement d s) rest x (line_behind whole k (says s) rest is) (unless_ok (statement_fault (k + 1) d s) _ x head)
rest_from whole k d (says (index of_range names) ∷ rest) x is head =
    let s = index of_range names in
    rest_from whole (k + 1) (with_statement d s) rest x (line_behind whole k (says s) rest is) (unless_ok (statement_fault (k + 1) d s) _ x head)
rest_from whole k d (says (declaration name ranges) ∷ rest) x is head =
    let s = declaration name ranges in
    rest_from whole (k + 1) (with_statement d s) rest x (line_behind whole k (says s) rest is) (unless_ok (statement_fault (k + 1) d s) _ x head)
rest_from whole k d (says (formula result indexes f) ∷ rest) x is head =
    let same : k + 1 ≡ x.line = cc in
    ap (λ (n : ℕ). drop n whole) (sym same) ∙ line_behind whole k (says (formula result indexes f)) rest is

pub rest_is : (ls : List Line) (x : Head) → head_of 1 nothing_declared ls ≡ Ok x → drop x.line ls ≡ rest_of ls
rest_is ls x head = rest_from ls 0 nothing_declared ls x refl head

-- what the first formula line specifies, with what stands behind it
abbrev pub first_result : Head → List Line → Result Specification Fault
first_result x rest =
    unless (formula_fault x.line x.declarations x.result x.indexes x.written) (unless (closing_fault (x.line + 1) (without_formulas rest)) (Ok (specified x)))

unless_none : {A : Type 0} (fault : Option Fault) (next : Result A Fault) → fault ≡ None → unless fault next ≡ next
unless_none fault next none = ap (λ o. unless o next) none

-- the results of all, where the first formula line was found
pub all_results : (n : ℕ) (d : Declarations) (ls : List Line) (x : Head) → head_of n d ls ≡ Ok x
    → map (result_from n d) (alones ls) ≡ first_result x (rest_of ls) ∷ map (result_from (x.line + 1) x.declarations) (alones (rest_of ls))
all_results n d [] x head = cc
all_results n d (skipped ∷ ls) x head = map_cons n (n + 1) d d skipped (alones ls) (λ ls. refl) ∙ all_results (n + 1) d ls x head
all_results n d (bad ∷ ls) x head = cc
all_results n d (says (range name extent edge) ∷ ls) x head =
    let s = range name extent edge in
    map_cons n (n + 1) d (with_statement d s) (says s) (alones ls) (λ ls. unless_none (statement_fault n d s) _ (unless_faultless (statement_fault n d s) _ x head))
    ∙ all_results (n + 1) (with_statement d s) ls x (unless_ok (statement_fault n d s) _ x head)
all_results n d (says (index of_range names) ∷ ls) x head =
    let s = index of_range names in
    map_cons n (n + 1) d (with_statement d s) (says s) (alones ls) (λ ls. unless_none (statement_fault n d s) _ (unless_faultless (statement_fault n d s) _ x head))
    ∙ all_results (n + 1) (with_statement d s) ls x (unless_ok (statement_fault n d s) _ x head)
all_results n d (says (declaration name ranges) ∷ ls) x head =
    let s = declaration name ranges in
    map_cons n (n + 1) d (with_statement d s) (says s) (alones ls) (λ ls. unless_none (statement_fault n d s) _ (unless_faultless (statement_fault n d s) _ x head))
    ∙ all_results (n + 1) (with_statement d s) ls x (unless_ok (statement_fault n d s) _ x head)
all_results n d (says (formula result indexes f) ∷ ls) x head =
    let same : record { declarations = d; line = n; result = result; indexes = indexes; written = f } ≡ x = cc in
    subst (λ (y : Head). map (result_from n d) (alones (says (formula result indexes f) ∷ ls)) ≡ first_result y ls ∷ map (result_from (y.line + 1) y.declarations) (alones ls)) same
    (ap (λ (rs : List (Result Specification Fault)). result_from n d (says (formula result indexes f) ∷ without_formulas ls) ∷ rs) (map_cons n (n + 1) d d skipped (alones ls) (λ ls. refl)))

-- the results of lines behind a formula that have no fault but that of a formula
pub further_results : (n : ℕ) (d : Declarations) (ls : List Line) → closing_fault n (without_formulas ls) ≡ None → map (result_from n d) (alones ls) ≡ of_lines n d ls
further_results n d [] none = refl
further_results n d (skipped ∷ ls) none = map_cons n (n + 1) d d skipped (alones ls) (λ ls. refl) ∙ further_results (n + 1) d ls none
further_results n d (bad ∷ ls) none = cc
further_results n d (says (range name extent edge) ∷ ls) none = cc
further_results n d (says (index of_range names) ∷ ls) none = cc
further_results n d (says (declaration name ranges) ∷ ls) none = cc
further_results n d (says (formula result indexes f) ∷ ls) none =
    let s = specified (record { declarations = d; line = n; result = result; indexes = indexes; written = f }) in
    let first : result_from n d (says (formula result indexes f) ∷ without_formulas ls) ≡ specified_by n d result indexes f =
    ap (unless (formula_fault n d result indexes f)) (unless_none (closing_fault (n + 1) (without_formulas ls)) (Ok s) none) in
    let more : map (result_from n d) (map (λ (others : List Line). skipped ∷ others) (alones ls)) ≡ of_lines (n + 1) d ls =
    map_cons n (n + 1) d d skipped (alones ls) (λ ls. refl) ∙ further_results (n + 1) d ls none in
    λ i. first i ∷ more i

-- the first of some lists that a line was put in front of
record IsInFront (l : Line) (lists : List (List Line)) (first : List Line) : Type 0 where
  behind : List Line
  others : List (List Line)
  lists_are : lists ≡ behind ∷ others
  first_is : first ≡ l ∷ behind

in_front : (l : Line) (lists : List (List Line)) (first : List Line) (more : List (List Line)) → map (λ (ls : List Line). l ∷ ls) lists ≡ first ∷ more → IsInFront l lists first
in_front l [] first more is = cc
in_front l (ls ∷ lists) first more is =
    let front : l ∷ ls ≡ first = cc in
    record { behind = ls; others = lists; lists_are = refl; first_is = sym front }

unless_err : {A B : Type 0} (o : Option Fault) (a : Result A Fault) (b : Result B Fault) (f : Fault) → unless o a ≡ Err f → (a ≡ Err f → b ≡ Err f) → unless o b ≡ Err f
unless_err None a b f is more = more is
unless_err (Some g) a b f is more = let same : g ≡ f = cc in ap Err same

-- a fault in front of the first formula line is that of the first text
pub first_fault : (n : ℕ) (d : Declarations) (ls : List Line) (f : Fault) → head_of n d ls ≡ Err f
    → (first : List Line) (more : List (List Line)) → alones ls ≡ first ∷ more → result_from n d first ≡ Err f
first_fault n d [] f head first more is = cc
first_fault n d (skipped ∷ ls) f head first more is =
    let at = in_front skipped (alones ls) first more is in
    ap (result_from n d) at.first_is ∙ first_fault (n + 1) d ls f head at.behind at.others at.lists_are
first_fault n d (bad ∷ ls) f head first more is =
    let at = in_front bad (alones ls) first more is in
    let same : bad_text n ≡ f = cc in
    ap (result_from n d) at.first_is ∙ ap Err same
first_fault n d (says (range name extent edge) ∷ ls) f head first more is =
    let s = range name extent edge in
    let at = in_front (says s) (alones ls) first more is in
    ap (result_from n d) at.first_is
    ∙ unless_err (statement_fault n d s) (head_of (n + 1) (with_statement d s) ls) (result_from (n + 1) (with_statement d s) at.behind) f head (λ next. first_fault (n + 1) (with_statement d s) ls f next at.behind at.others at.lists_are)
first_fault n d (says (index of_range names) ∷ ls) f head first more is =
    let s = index of_range names in
    let at = in_front (says s) (alones ls) first more is in
    ap (result_from n d) at.first_is
    ∙ unless_err (statement_fault n d s) (head_of (n + 1) (with_statement d s) ls) (result_from (n + 1) (with_statement d s) at.behind) f head (λ next. first_fault (n + 1) (with_statement d s) ls f next at.behind at.others at.lists_are)
first_fault n d (says (declaration name ranges) ∷ ls) f head first more is =
    let s = declaration name ranges in
    let at = in_front (says s) (alones ls) first more is in
    ap (result_from n d) at.first_is
    ∙ unless_err (statement_fault n d s) (head_of (n + 1) (with_statement d s) ls) (result_from (n + 1) (with_statement d s) at.behind) f head (λ next. first_fault (n + 1) (with_statement d s) ls f next at.behind at.others at.lists_are)
first_fault n d (says (formula result indexes w) ∷ ls) f head first more is = cc

-- without a formula line there is no head
pub no_head : (n : ℕ) (d : Declarations) (ls : List Line) (x : Head) → alones ls ≡ [] → head_of n d ls ≡ Ok x → ⊥
no_head n d ls x none head =
    let some = all_results n d ls x head in
    let nothing : map (result_from n d) (alones ls) ≡ [] = ap (map (result_from n d)) none in
    cc
