-- Printed tokens are read again.
use Rattle.std.proofs.Common.{◌≡◌, ℕ, suc, List, [], ◌∷◌, ◌++◌, take, drop, length, Bool, true, false, Option, Some, refl, sym, ◌∙◌, ap, arith, append_assoc, if◌then◌else◌}
use Rattle.std.specs.List.{prefix_len, list_all, AllByRecursion}
use Rattle.std.proofs.lemmas.List.{append-nil}
use Rattle.std.proofs.lemmas.Bool.{and_parts}
use Rattle.tce_space.specs.Name.{is_word_byte}
use Rattle.tce_grammar.specs.Reading.{piece_len}
use Rattle.tce_grammar.specs.Tokens.{Token, word, number, symbol, is_blank, starts_word, token_of, tokens, IsToken}
use Rattle.tce_grammar.specs.Printed.{token_text, Front, letters, kind, is_sign, is_spaced, spaced_text, printed_behind, Printing, with_token, with_tokens}
use Rattle.tce_grammar.proofs.TokenTexts.{IsRun, word_run, number_run, IsMark, mark}
use Rattle.tce_grammar.proofs.Pieces.{tokens_first, tokens_blank, token_first, prefix_more, prefix_none, blank_no_word}

word_not_blank : (b : ℕ) → is_word_byte b ≡ true → is_blank b ≡ false
word_not_blank b is = by_blank (is_blank b) refl
  where
    by_blank : (d : Bool) → is_blank b ≡ d → d ≡ false
    by_blank true blank = let no_word : is_word_byte b ≡ false = blank_no_word b blank in cc
    by_blank false blank = refl

prefix_stops : (rest : List ℕ) → starts_word rest ≡ false → prefix_len is_word_byte rest ≡ 0
prefix_stops [] stop = refl
prefix_stops (c ∷ cs) stop = prefix_none c cs stop

prefix_whole : (w rest : List ℕ) → list_all is_word_byte w ≡ true → starts_word rest ≡ false → prefix_len is_word_byte (w ++ rest) ≡ length w
prefix_whole [] rest all stop = prefix_stops rest stop
prefix_whole (b ∷ bs) rest all stop =
    let both : (is_word_byte b ≡ true) × (list_all is_word_byte bs ≡ true) = and_parts (is_word_byte b) (list_all is_word_byte bs) all in
    prefix_more b (bs ++ rest) both.0 ∙ ap suc (prefix_whole bs rest both.1 stop)

take_front : (w rest : List ℕ) → take (length w) (w ++ rest) ≡ w
take_front [] rest = refl
take_front (b ∷ bs) rest = ap (λ (x : List ℕ). b ∷ x) (take_front bs rest)

drop_front : (w rest : List ℕ) → drop (length w) (w ++ rest) ≡ rest
drop_front [] rest = refl
drop_front (b ∷ bs) rest = drop_front bs rest

-- a word or a number, and what stands behind it
run_read : (w rest : List ℕ) (t : Token) → IsRun w t → starts_word rest ≡ false → tokens (w ++ rest) ≡ token_first (Some t) (tokens rest)
run_read [] rest t is stop = absurd (is.some refl)
run_read (b ∷ bs) rest t is stop =
    let both : (is_word_byte b ≡ true) × (list_all is_word_byte bs ≡ true) = and_parts (is_word_byte b) (list_all is_word_byte bs) is.letters in
    let len : piece_len (b ∷ (bs ++ rest)) ≡ length (b ∷ bs) = omega (arith, prefix_whole (b ∷ bs) rest is.letters stop) in
    tokens_first b (bs ++ rest) (word_not_blank b both.0)
    ∙ ap (λ n. token_first (token_of (take n (b ∷ (bs ++ rest)))) (tokens (drop n (b ∷ (bs ++ rest))))) len
    ∙ (λ i. token_first (token_of (take_front (b ∷ bs) rest i)) (tokens (drop_front (b ∷ bs) rest i)))
    ∙ ap (λ (d : Option Token). token_first d (tokens rest)) is.read

mark_read : (b : ℕ) (rest : List ℕ) → IsMark b → tokens (b ∷ rest) ≡ token_first (Some (symbol b)) (tokens rest)
mark_read b rest is =
    let len : piece_len (b ∷ rest) ≡ 1 = omega (arith, prefix_none b rest is.no_word) in
    tokens_first b rest is.no_blank
    ∙ ap (λ n. token_first (token_of (take n (b ∷ rest))) (tokens (drop n (b ∷ rest)))) len
    ∙ ap (λ (d : Option Token). token_first d (tokens rest)) is.read

-- what may stand directly behind a token
abbrev Follows : Token → List ℕ → Type 0
Follows (word w) rest = starts_word rest ≡ false
Follows (number d) rest = starts_word rest ≡ false
Follows (symbol b) rest = Unit {0}

token_read : (t : Token) (rest : List ℕ) → IsToken t → Follows t rest → tokens (token_text t ++ rest) ≡ token_first (Some t) (tokens rest)
token_read (word w) rest is follows = run_read w rest (word w) (word_run w is) follows
token_read (number d) rest is follows = run_read d rest (number d) (number_run d is) follows
token_read (symbol b) rest is follows = mark_read b rest (mark b is)

symbol_stops : (b : ℕ) (ts : List Token) (d : Bool) → IsMark b → is_sign b ≡ d → starts_word (printed_behind letters (symbol b ∷ ts)) ≡ false
symbol_stops b ts true is e = rw e refl
symbol_stops b ts false is e = rw e (is.no_word)

-- a word ends where the next token begins
run_ends : (ts : List Token) → AllByRecursion IsToken ts → starts_word (printed_behind letters ts) ≡ false
run_ends [] are = refl
run_ends (word w ∷ ts) are = refl
run_ends (number d ∷ ts) are = refl
run_ends (symbol b ∷ ts) are = symbol_stops b ts (is_sign b) (mark b are.0) refl

follows : (t : Token) (ts : List Token) → AllByRecursion IsToken ts → Follows t (printed_behind (kind t) ts)
follows (word w) ts are = run_ends ts are
follows (number d) ts are = run_ends ts are
follows (symbol b) ts are = tt

space_read : (rest : List ℕ) → tokens (32 ∷ rest) ≡ tokens rest
space_read rest = tokens_blank 32 rest refl

spaced_read : (d : Bool) (t : Token) (rest : List ℕ) → tokens ((if d then 32 ∷ token_text t else token_text t) ++ rest) ≡ tokens (token_text t ++ rest)
spaced_read true t rest = space_read (token_text t ++ rest)
spaced_read false t rest = refl

no_tokens : tokens [] ≡ Some []
unfolding tokens
no_tokens = refl

pub printed_read : (front : Front) (ts : List Token) → AllByRecursion IsToken ts → tokens (printed_behind front ts) ≡ Some ts
printed_read front [] are = no_tokens
printed_read front (t ∷ ts) are =
    spaced_read (is_spaced front (kind t)) t (printed_behind (kind t) ts)
    ∙ token_read t (printed_behind (kind t) ts) are.0 (follows t ts are.1)
    ∙ ap (token_first (Some t)) (printed_read (kind t) ts are.1)

pub printed_by_tokens : (p : Printing) (ts : List Token) → (with_tokens p ts).text ≡ p.text ++ printed_behind p.front ts
printed_by_tokens p [] = sym (append-nil p.text)
printed_by_tokens p (t ∷ ts) = printed_by_tokens (with_token p t) ts ∙ append_assoc p.text (spaced_text p.front t) (printed_behind (kind t) ts)
