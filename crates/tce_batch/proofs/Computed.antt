-- What a text of several formulas specifies, computed from its lines.
use Rattle.std.proofs.Common.{◌≡◌, ℕ, ◌+◌, ◌≤◌, ◌^◌, arith, drop, Bool, true, false, List, [], ◌∷◌, length, map, Option, Some, None, Result, Ok, Err, refl, sym, subst, ◌∙◌, ap, nat_lt, if◌then◌else◌}
use Rattle.std.specs.List.{slice_split, join_with_byte, AllZip}
use Rattle.std.proofs.lemmas.List.Splits.{join_with_byte-slice_split}
use Rattle.std.proofs.lemmas.Bool.{le-ltb, ltb-false}
use Rattle.tce_grammar.specs.Lines.{lines, ended}
use Rattle.tce_grammar.specs.Grammar.{Line}
use Rattle.tce_grammar.specs.Reading.{line_of}
use Rattle.tce_grammar.proofs.FirstLines.{feed, split_some}
use Rattle.tce_spec.specs.Declarations.{nothing_declared}
use Rattle.tce_spec.specs.Faults.{Fault, too_long}
use Rattle.tce_spec.specs.Text.{Head, head_of, closing_fault, unless}
use Rattle.tce_spec.proofs.Readings.{lines_of, lines_are, lines_only}
use Rattle.tce_spec.specs.FormulaFaults.{formula_fault}
use Rattle.tce_spec.specs.Specification.{Specification}
use Rattle.tce_spec.specs.Outcome.{IsOutcome, outcome, outcome_in, specified}
use Rattle.tce_spec.proofs.Reading.{computed, computed_is, computed_only}
use Rattle.tce_batch.specs.Texts.{alone, or_whole, texts}
use Rattle.tce_batch.specs.Outcome.{together, IsBatchOutcome}
use Rattle.tce_batch.specs.Reading.{without_formulas, specified_by, of_lines}
use Rattle.tce_batch.proofs.Results.{result_from, outcome_is, alones, IsAlone, alone_result, rest_of, rest_is, all_results, further_results, first_fault, no_head}
use Rattle.tce_batch.proofs.Parts.{AreSome, AreFree, AreFor, size, split_free, joined_lines, joined_size, alone_for}

-- what the first formula line and the lines behind it give
abbrev pub behind_first : Result Specification Fault → Option Fault → List (Result Specification Fault) → Result (List Specification) Fault
behind_first (Err fault) closing further = Err fault
behind_first (Ok s) (Some fault) further = Err fault
behind_first (Ok s) None further = together (Ok s ∷ further)

abbrev pub batch_behind : List Line → Head → Result (List Specification) Fault
batch_behind ls x =
    behind_first (specified_by x.line x.declarations x.result x.indexes x.written) (closing_fault (x.line + 1) (without_formulas (drop x.line ls))) (of_lines (x.line + 1) x.declarations (drop x.line ls))

abbrev pub batch_in : List Line → Result Head Fault → Result (List Specification) Fault
batch_in ls (Err fault) = Err fault
batch_in ls (Ok x) = batch_behind ls x

abbrev pub batch_computed : List ℕ → Result (List Specification) Fault
batch_computed text = if nat_lt (2 ^ 16) (length text) then Err too_long else batch_in (lines_of text) (head_of 1 nothing_declared (lines_of text))

-- the outcomes of texts, computed
all_computed : (ts : List (List ℕ)) (found : List (Result Specification Fault)) → AllZip IsOutcome ts found → found ≡ map computed ts
all_computed [] [] each = refl
all_computed [] (r ∷ rs) each = absurd each
all_computed (t ∷ ts) [] each = absurd each
all_computed (t ∷ ts) (r ∷ rs) each = λ i. computed_only t r each.0 i ∷ all_computed ts rs each.1 i

all_are : (ts : List (List ℕ)) → AllZip IsOutcome ts (map computed ts)
all_are [] = tt
all_are (t ∷ ts) = (computed_is t, all_are ts)

-- a short text specifies what its lines do
short_computed : (text : List ℕ) → length text ≤ 2 ^ 16 → computed text ≡ outcome (lines_of text)
short_computed text short = rw (le-ltb (2 ^ 16) (length text) short) refl

one_computed : (text : List ℕ) (parts : List (List ℕ)) (ls : List Line) → length text ≤ 2 ^ 16 → AreFor IsAlone (length text + 1) parts ls → computed (join_with_byte 10 parts) ≡ result_from 1 nothing_declared ls
one_computed text parts ls short is =
    let long = joined_size parts is.some in
    short_computed (join_with_byte 10 parts) (omega (arith, long, is.short, short))
    ∙ outcome_is (lines_of (join_with_byte 10 parts))
    ∙ ap (λ (ts : List (List ℕ)). result_from 1 nothing_declared (map line_of ts)) (joined_lines parts is.some is.free)
    ∙ alone_result 1 nothing_declared (map line_of (ended parts)) ls is.are

each_computed : (text : List ℕ) (partses : List (List (List ℕ))) (lists : List (List Line)) → length text ≤ 2 ^ 16 → AllZip (AreFor IsAlone (length text + 1)) partses lists
    → map computed (map (join_with_byte 10) partses) ≡ map (result_from 1 nothing_declared) lists
each_computed text [] [] short each = refl
each_computed text [] (ls ∷ lists) short each = absurd each
each_computed text (parts ∷ partses) [] short each = absurd each
each_computed text (parts ∷ partses) (ls ∷ lists) short each = λ i. one_computed text parts ls short each.0 i ∷ each_computed text partses lists short each.1 i

alone_are : (text : List ℕ) → AllZip (AreFor IsAlone (length text + 1)) (alone (slice_split feed text) (lines_of text)) (alones (lines_of text))
unfolding lines
alone_are text =
    let some : AreSome (slice_split feed text) = split_some text in
    let long : size (slice_split feed text) ≡ length text + 1 =
    sym (joined_size (slice_split feed text) some) ∙ ap (λ (t : List ℕ). length t + 1) (join_with_byte-slice_split 10 text) in
    subst (λ (n : ℕ). AllZip (AreFor IsAlone n) (alone (slice_split feed text) (map line_of (ended (slice_split feed text)))) (alones (map line_of (ended (slice_split feed text))))) long
    (subst (λ (ps : List (List ℕ)). AllZip (AreFor IsAlone (size ps)) (alone ps (map line_of (ended ps))) (alones (map line_of (ended ps)))) (sym some.2)
    (alone_for some.0 some.1 (subst AreFree some.2 (split_free text))))

-- the outcome of the lines together
together_first : (o closing : Option Fault) (s : Specification) (rs further : List (Result Specification Fault)) → (closing ≡ None → rs ≡ further)
    → together (unless o (unless closing (Ok s)) ∷ rs) ≡ behind_first (unless o (Ok s)) closing further
together_first (Some f) closing s rs further same = refl
together_first None (Some f) s rs further same = refl
together_first None None s rs further same = ap (λ (xs : List (Result Specification Fault)). together (Ok s ∷ xs)) (same refl)

found_head : (ls : List Line) (x : Head) → head_of 1 nothing_declared ls ≡ Ok x → together (map (result_from 1 nothing_declared) (alones ls)) ≡ batch_behind ls x
found_head ls x head =
    ap together (all_results 1 nothing_declared ls x head)
    ∙ together_first (formula_fault x.line x.declarations x.result x.indexes x.written) (closing_fault (x.line + 1) (without_formulas (rest_of ls))) (specified x)
    (map (result_from (x.line + 1) x.declarations) (alones (rest_of ls))) (of_lines (x.line + 1) x.declarations (rest_of ls)) (further_results (x.line + 1) x.declarations (rest_of ls))
    ∙ ap (λ (rest : List Line). behind_first (specified_by x.line x.declarations x.result x.indexes x.written) (closing_fault (x.line + 1) (without_formulas rest)) (of_lines (x.line + 1) x.declarations rest)) (sym (rest_is ls x head))

no_found_head : (ls : List Line) (f : Fault) (first : List Line) (more : List (List Line)) → head_of 1 nothing_declared ls ≡ Err f → alones ls ≡ first ∷ more
    → together (map (result_from 1 nothing_declared) (alones ls)) ≡ Err f
no_found_head ls f first more head are =
    ap (λ (lists : List (List Line)). together (map (result_from 1 nothing_declared) lists)) are
    ∙ ap (λ (r : Result Specification Fault). together (r ∷ map (result_from 1 nothing_declared) more)) (first_fault 1 nothing_declared ls f head first more are)

whole_alone : (text : List ℕ) (h : Result Head Fault) → length text ≤ 2 ^ 16 → head_of 1 nothing_declared (lines_of text) ≡ h → alones (lines_of text) ≡ []
    → together (computed text ∷ []) ≡ batch_in (lines_of text) h
whole_alone text (Ok x) short head none = absurd (no_head 1 nothing_declared (lines_of text) x none head)
whole_alone text (Err f) short head none =
    ap (λ (r : Result Specification Fault). together (r ∷ [])) (short_computed text short ∙ ap (outcome_in (lines_of text)) head)

some_alone : (ls : List Line) (h : Result Head Fault) (first : List Line) (more : List (List Line)) → head_of 1 nothing_declared ls ≡ h → alones ls ≡ first ∷ more
    → together (map (result_from 1 nothing_declared) (alones ls)) ≡ batch_in ls h
some_alone ls (Ok x) first more head are = found_head ls x head
some_alone ls (Err f) first more head are = no_found_head ls f first more head are

short_batch : (text : List ℕ) → length text ≤ 2 ^ 16 → together (map computed (texts text (lines_of text))) ≡ batch_in (lines_of text) (head_of 1 nothing_declared (lines_of text))
short_batch text short = by_texts (alone (slice_split feed text) (lines_of text)) (alones (lines_of text)) refl (alone_are text)
  where
    by_texts : (partses : List (List (List ℕ))) (lists : List (List Line)) → alones (lines_of text) ≡ lists → AllZip (AreFor IsAlone (length text + 1)) partses lists
        → together (map computed (or_whole text (map (join_with_byte 10) partses))) ≡ batch_in (lines_of text) (head_of 1 nothing_declared (lines_of text))
    by_texts [] [] are each = whole_alone text (head_of 1 nothing_declared (lines_of text)) short refl are
    by_texts [] (ls ∷ lists) are each = absurd each
    by_texts (parts ∷ partses) [] are each = absurd each
    by_texts (parts ∷ partses) (ls ∷ lists) are each =
        ap together (each_computed text (parts ∷ partses) (ls ∷ lists) short each)
        ∙ ap (λ (xs : List (List Line)). together (map (result_from 1 nothing_declared) xs)) (sym are)
        ∙ some_alone (lines_of text) (head_of 1 nothing_declared (lines_of text)) ls lists refl are

by_length : (text : List ℕ) → (if nat_lt (2 ^ 16) (length text) then Err too_long else together (map computed (texts text (lines_of text)))) ≡ batch_computed text
by_length text = by_test (nat_lt (2 ^ 16) (length text)) refl
  where
    by_test : (long : Bool) → nat_lt (2 ^ 16) (length text) ≡ long
        → (if long then Err too_long else together (map computed (texts text (lines_of text)))) ≡ (if long then Err too_long else batch_in (lines_of text) (head_of 1 nothing_declared (lines_of text)))
    by_test true is = refl
    by_test false is = short_batch text (ltb-false (2 ^ 16) (length text) is)

pub batch_is : (text : List ℕ) → IsBatchOutcome text (batch_computed text)
batch_is text = record {
  of_lines = lines_of text;
  are_lines = lines_are (lines text);
  found = map computed (texts text (lines_of text));
  each = all_are (texts text (lines_of text));
  same = sym (by_length text);
}

pub batch_only : (text : List ℕ) (found : Result (List Specification) Fault) → IsBatchOutcome text found → found ≡ batch_computed text
batch_only text found is =
    let ls = lines_only (lines text) is.of_lines is.are_lines in
    let rs = all_computed (texts text is.of_lines) is.found is.each ∙ ap (λ (xs : List Line). map computed (texts text xs)) ls in
    is.same ∙ ap (λ (xs : List (Result Specification Fault)). if nat_lt (2 ^ 16) (length text) then Err too_long else together xs) rs ∙ by_length text
