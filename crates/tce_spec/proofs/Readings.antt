-- Lines, as they are read.
use Rattle.std.proofs.Common.{◌≡◌, ℕ, zero, suc, add-one, drop, false, ◌+◌, ◌^◌, List, [], ◌∷◌, length, map, Option, Some, None, Result, Ok, Err, refl, sym, ◌∙◌, ap, subst, nat_lt, if◌then◌else◌, arith, get_or, ◌-◌}
use Rattle.std.specs.Prelude.{IsTrue, IfOk, IfErr}
use Rattle.std.specs.List.{AllByRecursion}
use Rattle.std.proofs.lemmas.List.Elements.{All-push}
use Rattle.tce_space.specs.Name.{is_name}
use Rattle.tce_grammar.specs.Tokens.{Token}
use Rattle.tce_grammar.specs.Lines.{lines}
use Rattle.tce_grammar.specs.Grammar.{Line, IsLine, AreLines, Statement, Says, range, index, declaration, formula, skipped, bad, says}
use Rattle.tce_grammar.specs.Reading.{line_of}
use Rattle.tce_grammar.proofs.OneReading.{line_is, line_only, line_read}
use Rattle.tce_spec.specs.FaultCode.{Shows}
use Rattle.tce_spec.specs.declared.fault.SpecFault.{SpecFault}
use Rattle.tce_spec.specs.declared.text.Head as code
use Rattle.tce_spec.specs.TextCode.{Answers, head, fault_in, formula_line, LineHasNames}
use Rattle.tce_spec.specs.Declarations.{Tensor, Declarations, HaveNames, nothing_declared}
use Rattle.tce_spec.specs.DeclarationLines.{HasNames, statement_fault, with_statement, numbers_of_ranges}
use Rattle.tce_spec.specs.Faults.{Fault, too_long}
use Rattle.tce_spec.specs.Text.{Head, IsHead, IsClosing, head_of, closing_fault, unless}

-- the lines of a text, computed
abbrev pub lines_of : List ℕ → List Line
lines_of text = map line_of (lines text)

pub lines_are : (texts : List (List ℕ)) → AreLines texts (map line_of texts)
lines_are [] = tt
lines_are (text ∷ texts) = (line_is text, lines_are texts)

pub lines_only : (texts : List (List ℕ)) (ls : List Line) → AreLines texts ls → ls ≡ map line_of texts
lines_only [] [] h = refl
lines_only [] (l ∷ ls) h = absurd h
lines_only (text ∷ texts) [] h = absurd h
lines_only (text ∷ texts) (l ∷ ls) h = λ i. line_only text l h.0 i ∷ lines_only texts ls h.1 i

abbrev pub computed_head : List ℕ → Result Head Fault
computed_head text = if nat_lt (2 ^ 16) (length text) then Err too_long else head_of 1 nothing_declared (lines_of text)

pub head_is : (text : List ℕ) → IsHead text (computed_head text)
head_is text = record { of_lines = lines_of text; are_lines = lines_are (lines text); same = refl }

pub head_only : (text : List ℕ) (found : Result Head Fault) → IsHead text found → found ≡ computed_head text
head_only text found is =
    is.same ∙ ap (λ (ls : List Line). if nat_lt (2 ^ 16) (length text) then Err too_long else head_of 1 nothing_declared ls) (lines_only (lines text) is.of_lines is.are_lines)

pub closing_is : (line : ℕ) (text : List ℕ) → IsClosing line text (closing_fault line (lines_of text))
closing_is line text = record { of_lines = lines_of text; are_lines = lines_are (lines text); same = refl }

pub closing_only : (line : ℕ) (text : List ℕ) (found : Option Fault) → IsClosing line text found → found ≡ closing_fault line (lines_of text)
closing_only line text found is = is.same ∙ ap (closing_fault line) (lines_only (lines text) is.of_lines is.are_lines)

-- the line behind, among all lines
pub line_behind : (texts : List (List ℕ)) (line : ℕ) (first : List ℕ) (rest : List (List ℕ)) → drop line texts ≡ first ∷ rest → drop (line + 1) texts ≡ rest
line_behind texts line first rest is = rw add-one (behind_suc texts line first rest is)
  where
    behind_suc : (texts : List (List ℕ)) (line : ℕ) (first : List ℕ) (rest : List (List ℕ)) → drop line texts ≡ first ∷ rest → drop (suc line) texts ≡ rest
    behind_suc [] zero first rest is = cc
    behind_suc [] (suc line) first rest is = cc
    behind_suc (text ∷ texts) zero first rest is = cc
    behind_suc (text ∷ texts) (suc line) first rest is = behind_suc texts line first rest is

pub behind_first : (texts : List (List ℕ)) (line : ℕ) (first : List ℕ) (rest : List (List ℕ)) → drop line ([] ∷ texts) ≡ first ∷ rest → drop line texts ≡ rest
behind_first texts line first rest is = sym (ap (λ n. drop n ([] ∷ texts)) (add-one line)) ∙ line_behind ([] ∷ texts) line first rest is

-- the head of lines of which the first is known
pub head_from : (line : ℕ) (d : Declarations) (texts : List (List ℕ)) (first : List ℕ) (rest : List (List ℕ)) → texts ≡ first ∷ rest
    → head_of line d (map line_of texts) ≡ head_of line d (line_of first ∷ map line_of rest)
head_from line d texts first rest is = ap (λ (ts : List (List ℕ)). head_of line d (map line_of ts)) is

-- what was read is what is found
pub answers : (found : Result Head Fault) (text : List ℕ) (result : Result code.Head SpecFault) → nat_lt (2 ^ 16) (length text) ≡ false → IsHead text found
    → IfOk result (λ h. head_of 1 nothing_declared (lines_of text) ≡ Ok (head h)) → IfErr result (λ f. Shows (fault_in (head_of 1 nothing_declared (lines_of text))) f)
    → Answers found result
answers found text (Ok h) short is ok err = head_only text found is ∙ rw short ok
answers found text (Err f) short is ok err =
    subst (λ (r : Result Head Fault). Shows (fault_in r) f) (sym (head_only text found is ∙ rw short refl)) err

-- the tensors that lines declare have names
abbrev pub LinesHaveNames : List Line → Type 0
LinesHaveNames ls = AllByRecursion LineHasNames ls

range_said : (ts : List Token) (name extent : List ℕ) (edge : Option (List ℕ)) → Says ts (range name extent edge) → IsTrue (is_name name)
range_said ts name extent None said = said.0
range_said ts name extent (Some edge) said = said.0

line_has_names : (text : List ℕ) (l : Line) → IsLine text l → LineHasNames l
line_has_names text skipped is = tt
line_has_names text bad is = tt
line_has_names text (says (range name extent edge)) is = range_said is.0 name extent edge is.2
line_has_names text (says (index of_range names)) is = (is.2.0, is.2.2)
line_has_names text (says (declaration name ranges)) is = (is.2.0, is.2.1)
line_has_names text (says (formula result indexes f)) is = tt

pub lines_have_names : (texts : List (List ℕ)) → LinesHaveNames (map line_of texts)
lines_have_names [] = tt
lines_have_names (text ∷ texts) = (line_has_names text (line_of text) (line_is text), lines_have_names texts)

names_kept : (d : Declarations) (s : Statement) → HasNames s → HaveNames d.tensors → HaveNames (with_statement d s).tensors
names_kept d (range name extent edge) has named = named
names_kept d (index of_range names) has named = named
names_kept d (declaration name ranges) has named =
    All-push (λ (t : Tensor). IsTrue (is_name t.name)) d.tensors (record { name = name; ranges = numbers_of_ranges d.space ranges }) named has.0
names_kept d (formula result indexes f) has named = named

pub unless_ok : {A : Type 0} (fault : Option Fault) (next : Result A Fault) (x : A) → unless fault next ≡ Ok x → next ≡ Ok x
unless_ok None next x is = is
unless_ok (Some f) next x is = cc

pub head_has_names : (line : ℕ) (d : Declarations) (ls : List Line) (h : Head) → LinesHaveNames ls → HaveNames d.tensors → head_of line d ls ≡ Ok h → HaveNames h.declarations.tensors
head_has_names line d [] h names named is = cc
head_has_names line d (skipped ∷ rest) h names named is = head_has_names (line + 1) d rest h names.1 named is
head_has_names line d (bad ∷ rest) h names named is = cc
head_has_names line d (says (range name extent edge) ∷ rest) h names named is =
    head_has_names (line + 1) (with_statement d (range name extent edge)) rest h names.1 (names_kept d (range name extent edge) names.0 named)
    (unless_ok (statement_fault line d (range name extent edge)) _ h is)
head_has_names line d (says (index of_range indexes) ∷ rest) h names named is =
    head_has_names (line + 1) (with_statement d (index of_range indexes)) rest h names.1 (names_kept d (index of_range indexes) names.0 named)
    (unless_ok (statement_fault line d (index of_range indexes)) _ h is)
head_has_names line d (says (declaration name ranges) ∷ rest) h names named is =
    head_has_names (line + 1) (with_statement d (declaration name ranges)) rest h names.1 (names_kept d (declaration name ranges) names.0 named)
    (unless_ok (statement_fault line d (declaration name ranges)) _ h is)
head_has_names line d (says (formula result indexes f) ∷ rest) h names named is =
    let same : record { declarations = d; line = line; result = result; indexes = indexes; written = f } ≡ h = cc in
    subst (λ (x : Head). HaveNames x.declarations.tensors) same named

pub read_has_names : (text : List ℕ) (result : Result code.Head SpecFault)
    → IfOk result (λ h. head_of 1 nothing_declared (lines_of text) ≡ Ok (head h)) → IfOk result (λ h. HaveNames h.declarations.tensors)
read_has_names text (Ok h) is = head_has_names 1 nothing_declared (lines_of text) (head h) (lines_have_names (lines text)) (λ k d less. absurd (omega arith)) is
read_has_names text (Err f) is = tt

-- the line of a head says its formula
record SaysFormula (texts : List (List ℕ)) (line : ℕ) (h : Head) : Type 0 where
  place : ℕ
  line_is : h.line ≡ line + place
  said : IsLine (get_or texts place []) (says (formula h.result h.indexes h.written))

says_further : (text : List ℕ) (texts : List (List ℕ)) (line : ℕ) (h : Head) → SaysFormula texts (line + 1) h → SaysFormula (text ∷ texts) line h
says_further text texts line h behind = record { place = suc behind.place; line_is = omega (arith, behind.line_is); said = behind.said }

says_at : (text : List ℕ) (texts : List (List ℕ)) (line : ℕ) (d : Declarations) (h : Head) (l : Line) → line_of text ≡ l → head_of line d (l ∷ map line_of texts) ≡ Ok h
    → ((other : Declarations) → head_of (line + 1) other (map line_of texts) ≡ Ok h → SaysFormula texts (line + 1) h) → SaysFormula (text ∷ texts) line h
says_at text texts line d h skipped is_line is behind = says_further text texts line h (behind d is)
says_at text texts line d h bad is_line is behind = cc
says_at text texts line d h (says (range name extent edge)) is_line is behind =
    says_further text texts line h (behind (with_statement d (range name extent edge)) (unless_ok (statement_fault line d (range name extent edge)) _ h is))
says_at text texts line d h (says (index of_range indexes)) is_line is behind =
    says_further text texts line h (behind (with_statement d (index of_range indexes)) (unless_ok (statement_fault line d (index of_range indexes)) _ h is))
says_at text texts line d h (says (declaration name ranges)) is_line is behind =
    says_further text texts line h (behind (with_statement d (declaration name ranges)) (unless_ok (statement_fault line d (declaration name ranges)) _ h is))
says_at text texts line d h (says (formula result indexes f)) is_line is behind =
    let same : record { declarations = d; line = line; result = result; indexes = indexes; written = f } ≡ h = cc in
    subst (SaysFormula (text ∷ texts) line) same
    (record { place = 0; line_is = omega arith; said = line_read text (says (formula result indexes f)) is_line })

says_formula : (texts : List (List ℕ)) (line : ℕ) (d : Declarations) (h : Head) → head_of line d (map line_of texts) ≡ Ok h → SaysFormula texts line h
says_formula [] line d h is = cc
says_formula (text ∷ texts) line d h is =
    says_at text texts line d h (line_of text) refl is (λ other next. says_formula texts (line + 1) other h next)

pub read_says : (text : List ℕ) (result : Result code.Head SpecFault)
    → IfOk result (λ h. head_of 1 nothing_declared (lines_of text) ≡ Ok (head h))
    → IfOk result (λ h. IsLine (get_or (lines text) (h.line - 1) []) (says (formula_line h)))
read_says text (Ok h) is =
    let told = says_formula (lines text) 1 nothing_declared (head h) is in
    let place : told.place ≡ h.line - 1 = omega (arith, told.line_is) in
    subst (λ (k : ℕ). IsLine (get_or (lines text) k []) (says (formula_line h))) place told.said
read_says text (Err f) is = tt
