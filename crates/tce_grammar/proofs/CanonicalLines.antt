-- The lines of a canonical text.
use Rattle.std.proofs.Common.{◌≡◌, ℕ, suc, zero, ◌-◌, ◌==◌, List, [], ◌∷◌, ◌++◌, take, length, get_or, map, Bool, true, false, not, ◌&&◌, IsTrue, Some, None, refl, sym, ◌∙◌, ap, subst, arith, append_assoc, if◌then◌else◌}
use Rattle.std.specs.List.{list_all, AllByRecursion, before_first, position_or_len, slice_split}
use Rattle.std.proofs.lemmas.List.Splits.{slice_split_at}
use Rattle.std.proofs.lemmas.List.Folds.{list_all-append}
use Rattle.std.proofs.lemmas.List.Elements.{All-from_recursion}
use Rattle.std.proofs.lemmas.Bool.{and_parts}
use Rattle.tce_space.specs.Name.{is_name}
use Rattle.tce_grammar.specs.Lines.{lines, ended, without_return, without_comment}
use Rattle.tce_grammar.specs.Tokens.{Token, word, number, symbol, tokens, IsToken}
use Rattle.tce_grammar.specs.Formula.{Formula, Arithmetic, multiply, add, subtract, tensor, constant, sum, binary}
use Rattle.tce_grammar.specs.Grammar.{Written, listed, sign, bracketed, spelling, AreNames, Statement, range, index, declaration, formula, Says, IsLine, says, AreLines}
use Rattle.tce_grammar.specs.Printed.{token_text, Front, kind, is_spaced, printed_behind, nothing}
use Rattle.tce_grammar.specs.Canonical.{written_of, grouped_if, canonical_tokens, canonical_line, canonical_text, joined_lines, IsFormula, IsStatement, AreStatements}
use Rattle.tce_grammar.specs.Laws.{IsPlainLine}
use Rattle.tce_grammar.proofs.Formulas.{IsNameText, name_text}
use Rattle.tce_grammar.proofs.FirstLines.{feed, split_some, ended_more}
use Rattle.tce_grammar.proofs.TokenTexts.{is_plain, word_run, number_run, mark, word_plain}
use Rattle.tce_grammar.proofs.Printed.{printed_read}
use Rattle.tce_grammar.proofs.WrittenForms.{written_is, written_meaning, written_depth}

-- the tokens of a canonical line are tokens

pub all_joined : {A : Type 0} (P : A → Type 0) (xs ys : List A) → AllByRecursion P xs → AllByRecursion P ys → AllByRecursion P (xs ++ ys)
all_joined P [] ys a b = b
all_joined P (x ∷ xs) ys a b = (a.0, all_joined P xs ys a.1 b)

name_token : (name : List ℕ) → IsTrue (is_name name) → IsToken (word name)
name_token name is = let text : IsNameText name = name_text name is in (text.starts, text.letters)

listed_tokens : (names : List (List ℕ)) → AreNames names → AllByRecursion IsToken (listed names)
listed_tokens [] are = tt
listed_tokens (n ∷ []) are = (name_token n are.0, tt)
listed_tokens (n ∷ m ∷ ns) are = (name_token n are.0, (refl, listed_tokens (m ∷ ns) are.1))

word_tokens : (names : List (List ℕ)) → AreNames names → AllByRecursion IsToken (map word names)
word_tokens [] are = tt
word_tokens (n ∷ ns) are = (name_token n are.0, word_tokens ns are.1)

bracketed_tokens : (name : List ℕ) (names : List (List ℕ)) → IsTrue (is_name name) → AreNames names → AllByRecursion IsToken (bracketed name names)
bracketed_tokens name names is are =
    (name_token name is, (refl, all_joined IsToken (listed names) (symbol 93 ∷ []) (listed_tokens names are) (refl, tt)))

sign_token : (o : Arithmetic) → IsToken (sign o)
sign_token multiply = refl
sign_token add = refl
sign_token subtract = refl

group_tokens : (b : Bool) (w : Written) → AllByRecursion IsToken (spelling w) → AllByRecursion IsToken (spelling (grouped_if b w))
group_tokens true w are = (refl, all_joined IsToken (spelling w) (symbol 41 ∷ []) are (refl, tt))
group_tokens false w are = are

formula_tokens : (f : Formula) → IsFormula f → AllByRecursion IsToken (spelling (written_of f))
formula_tokens (tensor name indexes) is = bracketed_tokens name indexes is.0 is.1
formula_tokens (constant digits) is = (is, tt)
formula_tokens (sum indexes operand) is = (
  (refl, refl),
  (
    refl,
    all_joined IsToken (listed indexes) (symbol 125 ∷ symbol 40 ∷ (spelling (written_of operand) ++ symbol 41 ∷ []))
        (listed_tokens indexes is.1)
        (refl, (refl, all_joined IsToken (spelling (written_of operand)) (symbol 41 ∷ []) (formula_tokens operand is.2) (refl, tt))),
  ),
)
formula_tokens (binary o left right) is =
    all_joined IsToken
    (spelling (grouped_if _ (written_of left)))
    (sign o ∷ spelling (grouped_if _ (written_of right)))
    (group_tokens _ (written_of left) (formula_tokens left is.0))
    (sign_token o, group_tokens _ (written_of right) (formula_tokens right is.1))

canonical_are_tokens : (s : Statement) → IsStatement s → AllByRecursion IsToken (canonical_tokens s)
canonical_are_tokens (range name extent None) is = ((refl, refl), (name_token name is.0, (is.1, tt)))
canonical_are_tokens (range name extent (Some edge)) is = ((refl, refl), (name_token name is.0, (is.1, ((refl, refl), (is.2, tt)))))
canonical_are_tokens (index name names) is = ((refl, refl), (name_token name is.0, word_tokens names is.2))
canonical_are_tokens (declaration name ranges) is = ((refl, refl), bracketed_tokens name ranges is.0 is.1)
canonical_are_tokens (formula name indexes f) is =
    all_joined IsToken (bracketed name indexes) (symbol 61 ∷ spelling (written_of f)) (bracketed_tokens name indexes is.0 is.1)
    (refl, formula_tokens f is.2)

-- and say the statement
canonical_says : (s : Statement) → IsStatement s → Says (canonical_tokens s) s
canonical_says (range name extent None) is = (is.0, refl)
canonical_says (range name extent (Some edge)) is = (is.0, refl)
canonical_says (index name names) is = (is.0, is.1, is.2, refl)
canonical_says (declaration name ranges) is = (is.0, is.1, refl)
canonical_says (formula name indexes f) is =
    (is.0, is.1, (written_of f, written_is f is.2, omega (arith, written_depth f, is.3), written_meaning f, refl))

-- the bytes of a printed line

token_plain : (t : Token) → IsToken t → list_all is_plain (token_text t) ≡ true
token_plain (word w) is = word_plain w (word_run w is).letters
token_plain (number d) is = word_plain d (number_run d is).letters
token_plain (symbol b) is = rw (mark b is).plain refl

spaced_plain : (d : Bool) (t : Token) → IsToken t → list_all is_plain (if d then 32 ∷ token_text t else token_text t) ≡ true
spaced_plain true t is = token_plain t is
spaced_plain false t is = token_plain t is

printed_plain : (front : Front) (ts : List Token) → AllByRecursion IsToken ts → list_all is_plain (printed_behind front ts) ≡ true
printed_plain front [] are = refl
printed_plain front (t ∷ ts) are =
    list_all-append is_plain (if is_spaced front (kind t) then 32 ∷ token_text t else token_text t) (printed_behind (kind t) ts)
    ∙ rw (spaced_plain (is_spaced front (kind t)) t are.0) (printed_plain (kind t) ts are.1)

pub record IsPlain (b : ℕ) : Type 0 where
  pub no_feed : (b == 10) ≡ false
  pub no_return : (b == 13) ≡ false
  pub no_comment : (b == 35) ≡ false

three_false : (a b c : Bool) → (not a && not b && not c) ≡ true → (a ≡ false) × (b ≡ false) × (c ≡ false)
three_false false false false e = (refl, refl, refl)
three_false false false true e = cc
three_false false true c e = cc
three_false true b c e = cc

plain_byte : (b : ℕ) → is_plain b ≡ true → IsPlain b
plain_byte b is =
    let three : ((b == 10) ≡ false) × ((b == 13) ≡ false) × ((b == 35) ≡ false) = three_false (b == 10) (b == 13) (b == 35) is in
    record { no_feed = three.0; no_return = three.1; no_comment = three.2 }

all_plain : (text : List ℕ) → list_all is_plain text ≡ true → AllByRecursion IsPlain text
all_plain [] all = tt
all_plain (b ∷ bs) all =
    let both : (is_plain b ≡ true) × (list_all is_plain bs ≡ true) = and_parts (is_plain b) (list_all is_plain bs) all in
    (plain_byte b both.0, all_plain bs both.1)

no_comment : (text : List ℕ) → AllByRecursion IsPlain text → before_first (λ b. b == 35) text ≡ text
no_comment [] are = refl
no_comment (b ∷ bs) are =
    let none : (b == 35) ≡ false = are.0.no_comment in
    let len : position_or_len (λ b. b == 35) (b ∷ bs) ≡ suc (position_or_len (λ b. b == 35) bs) = rw none (omega arith) in
    ap (λ n. take n (b ∷ bs)) len ∙ ap (λ (x : List ℕ). b ∷ x) (no_comment bs are.1)

without_comment_same : (text : List ℕ) → AllByRecursion IsPlain text → without_comment text ≡ text
unfolding without_comment
without_comment_same text are = no_comment text are

no_feeds : (text : List ℕ) → AllByRecursion IsPlain text → AllByRecursion (λ b. (b == 10) ≡ false) text
no_feeds [] are = tt
no_feeds (b ∷ bs) are = (are.0.no_feed, no_feeds bs are.1)

plain_at : (text : List ℕ) (k : ℕ) → AllByRecursion IsPlain text → (get_or text k 0 == 13) ≡ false
plain_at [] k are = refl
plain_at (b ∷ bs) zero are = are.0.no_return
plain_at (b ∷ bs) (suc k) are = plain_at bs k are.1

canonical_plain : (s : Statement) → IsStatement s → AllByRecursion IsPlain (canonical_line s)
canonical_plain s is = all_plain (canonical_line s) (printed_plain nothing (canonical_tokens s) (canonical_are_tokens s is))

pub canonical_line_says : (s : Statement) → IsStatement s → IsLine (canonical_line s) (says s)
canonical_line_says s is = (
  canonical_tokens s,
  ap tokens (without_comment_same (canonical_line s) (canonical_plain s is)) ∙ printed_read nothing (canonical_tokens s) (canonical_are_tokens s is),
  canonical_says s is,
)

no_return : (text : List ℕ) → (get_or text (length text - 1) 0 == 13) ≡ false → without_return text ≡ text
no_return text none = rw none refl

pub joined_are_lines : (texts : List (List ℕ)) → AllByRecursion IsPlainLine texts → lines (joined_lines texts) ≡ texts
unfolding lines
joined_are_lines [] are = refl
joined_are_lines (text ∷ texts) are =
    let rest : List ℕ = joined_lines texts in
    let s : (n : List ℕ) × (ns : List (List ℕ)) × (slice_split feed rest ≡ n ∷ ns) = split_some rest in
    ap lines (append_assoc text (10 ∷ []) rest)
    ∙ ap ended (slice_split_at feed text 10 rest are.0.0 refl)
    ∙ ended_more text (slice_split feed rest) s.0 s.1 s.2
    ∙ (λ i. no_return text are.0.1 i ∷ joined_are_lines texts are.1 i)

lines_plain : (statements : List Statement) → AreStatements statements → AllByRecursion IsPlainLine (map canonical_line statements)
lines_plain [] are = tt
lines_plain (s ∷ ss) are =
    let plain : AllByRecursion IsPlain (canonical_line s) = canonical_plain s are.0 in
    ((All-from_recursion (λ b. (b == 10) ≡ false) (canonical_line s) (no_feeds (canonical_line s) plain), plain_at (canonical_line s) (length (canonical_line s) - 1) plain), lines_plain ss are.1)

lines_say : (statements : List Statement) → AreStatements statements → AreLines (map canonical_line statements) (map says statements)
lines_say [] are = tt
lines_say (s ∷ ss) are = (canonical_line_says s are.0, lines_say ss are.1)

pub canonical_text_says : (statements : List Statement) → AreStatements statements → AreLines (lines (canonical_text statements)) (map says statements)
canonical_text_says statements are =
    subst (λ (texts : List (List ℕ)). AreLines texts (map says statements)) (sym (joined_are_lines (map canonical_line statements) (lines_plain statements are)))
    (lines_say statements are)
