-- The pieces of a line, from the left.
use Rattle.std.proofs.Common.{◌≡◌, ℕ, suc, List, [], ◌∷◌, ◌++◌, take, drop, length, map, not, Bool, true, false, Option, Some, None, refl, sym, ◌∙◌, ap, arith, ◌==◌, ◌+◌, ◌-◌, ◌<◌, inl, inr, append_assoc, get_or}
use Rattle.std.proofs.lemmas.Bool.{eqb-true, or_cases}
use Rattle.std.proofs.lemmas.List.{append-nil}
use Rattle.tce_grammar.specs.Reading.{piece_len}
use Rattle.std.specs.Prelude.{option_map, filter}
use Rattle.std.specs.List.{prefix_len, list_all}
use Rattle.tce_space.specs.Name.{is_word_byte}
use Rattle.tce_grammar.specs.Tokens.{Token, is_blank, starts_word, in_front, pieces, token_of, all_some, tokens}

pieces_alone : (b : ℕ) (ps : List (List ℕ)) → is_word_byte b ≡ false → in_front b ps ≡ (b ∷ []) ∷ ps
pieces_alone b [] h = refl
pieces_alone b (p ∷ ps) h = rw h refl

in_front_word : (b c : ℕ) (p : List ℕ) (ps : List (List ℕ)) → is_word_byte b ≡ true → is_word_byte c ≡ true → in_front b ((c ∷ p) ∷ ps) ≡ (b ∷ c ∷ p) ∷ ps
in_front_word b c p ps word next = rw (word, next) refl

pub prefix_more : (b : ℕ) (bs : List ℕ) → is_word_byte b ≡ true → prefix_len is_word_byte (b ∷ bs) ≡ suc (prefix_len is_word_byte bs)
prefix_more b bs is = let n : 1 + prefix_len is_word_byte bs ≡ suc (prefix_len is_word_byte bs) = omega arith in rw is n

pub prefix_none : (b : ℕ) (bs : List ℕ) → is_word_byte b ≡ false → prefix_len is_word_byte (b ∷ bs) ≡ 0
prefix_none b bs is = rw is refl

pieces_end : (b : ℕ) (bs : List ℕ) → is_word_byte b ≡ true → starts_word bs ≡ false → pieces (b ∷ bs) ≡ (b ∷ []) ∷ pieces bs
pieces_end b [] word none = refl
pieces_end b (c ∷ cs) word none =
    ap (in_front b) (pieces_alone c (pieces cs) none) ∙ rw (word, none) refl ∙ ap (λ (ps : List (List ℕ)). (b ∷ []) ∷ ps) (sym (pieces_alone c (pieces cs) none))

pieces_word : (b : ℕ) (bs : List ℕ) → is_word_byte b ≡ true
    → pieces (b ∷ bs) ≡ (b ∷ take (prefix_len is_word_byte bs) bs) ∷ pieces (drop (prefix_len is_word_byte bs) bs)
pieces_word b [] word = refl
pieces_word b (c ∷ cs) word = by_next b c cs (is_word_byte c) refl word (pieces_word c cs)
  where
    by_next : (b c : ℕ) (cs : List ℕ) (d : Bool) → is_word_byte c ≡ d → is_word_byte b ≡ true
        → (is_word_byte c ≡ true → pieces (c ∷ cs) ≡ (c ∷ take (prefix_len is_word_byte cs) cs) ∷ pieces (drop (prefix_len is_word_byte cs) cs))
        → pieces (b ∷ c ∷ cs) ≡ (b ∷ take (prefix_len is_word_byte (c ∷ cs)) (c ∷ cs)) ∷ pieces (drop (prefix_len is_word_byte (c ∷ cs)) (c ∷ cs))
    by_next b c cs true is word more =
        let len : prefix_len is_word_byte (c ∷ cs) ≡ suc (prefix_len is_word_byte cs) = prefix_more c cs is in
        ap (in_front b) (more is) ∙ in_front_word b c (take (prefix_len is_word_byte cs) cs) (pieces (drop (prefix_len is_word_byte cs) cs)) word is
        ∙ ap (λ n. (b ∷ take n (c ∷ cs)) ∷ pieces (drop n (c ∷ cs))) (sym len)
    by_next b c cs false is word more =
        let len : prefix_len is_word_byte (c ∷ cs) ≡ 0 = prefix_none c cs is in
        pieces_end b (c ∷ cs) word is ∙ ap (λ n. (b ∷ take n (c ∷ cs)) ∷ pieces (drop n (c ∷ cs))) (sym len)

-- the first piece, and those of the rest
pub pieces_first : (b : ℕ) (bs : List ℕ) → pieces (b ∷ bs) ≡ take (piece_len (b ∷ bs)) (b ∷ bs) ∷ pieces (drop (piece_len (b ∷ bs)) (b ∷ bs))
pieces_first b bs = by_first b bs (is_word_byte b) refl
  where
    by_first : (b : ℕ) (bs : List ℕ) (d : Bool) → is_word_byte b ≡ d → pieces (b ∷ bs) ≡ take (piece_len (b ∷ bs)) (b ∷ bs) ∷ pieces (drop (piece_len (b ∷ bs)) (b ∷ bs))
    by_first b bs true is =
        let len : piece_len (b ∷ bs) ≡ suc (prefix_len is_word_byte bs) = omega (arith, prefix_more b bs is) in
        pieces_word b bs is ∙ ap (λ n. take n (b ∷ bs) ∷ pieces (drop n (b ∷ bs))) (sym len)
    by_first b bs false is =
        let len : piece_len (b ∷ bs) ≡ 1 = omega (arith, prefix_none b bs is) in
        pieces_alone b (pieces bs) is ∙ ap (λ n. take n (b ∷ bs) ∷ pieces (drop n (b ∷ bs))) (sym len)

-- a token in front of those of the rest
abbrev pub token_first : Option Token → Option (List Token) → Option (List Token)
token_first None ts = None
token_first (Some t) ts = option_map (λ more. t ∷ more) ts

all_some_first : (t : Option Token) (ts : List (Option Token)) → all_some (t ∷ ts) ≡ token_first t (all_some ts)
all_some_first None ts = refl
all_some_first (Some t) ts = refl

first_of_piece : (b : ℕ) (bs : List ℕ) → (x : List ℕ) × (take (piece_len (b ∷ bs)) (b ∷ bs) ≡ b ∷ x)
first_of_piece b bs =
    let len : piece_len (b ∷ bs) ≡ suc (piece_len (b ∷ bs) - 1) = omega arith in
    (take (piece_len (b ∷ bs) - 1) bs, ap (λ n. take n (b ∷ bs)) len)

abbrev pub tokens_of_pieces : List (List ℕ) → Option (List Token)
tokens_of_pieces ps = all_some (map token_of (filter (λ piece. not (list_all is_blank piece)) ps))

kept : (p : List ℕ) (ps : List (List ℕ)) → list_all is_blank p ≡ false → tokens_of_pieces (p ∷ ps) ≡ token_first (token_of p) (tokens_of_pieces ps)
kept p ps h = rw h (all_some_first (token_of p) (map token_of (filter (λ piece. not (list_all is_blank piece)) ps)))

dropped : (p : List ℕ) (ps : List (List ℕ)) → list_all is_blank p ≡ true → tokens_of_pieces (p ∷ ps) ≡ tokens_of_pieces ps
dropped p ps h = rw h refl

some_not_blank : (b : ℕ) (x : List ℕ) → is_blank b ≡ false → list_all is_blank (b ∷ x) ≡ false
some_not_blank b x is = rw is refl

pub blank_no_word : (b : ℕ) → is_blank b ≡ true → is_word_byte b ≡ false
blank_no_word b is = elim (or_cases (b == 32) (b == 9) is) [
  | inl space ↦ ap is_word_byte (eqb-true b 32 space)
  | inr tab ↦ ap is_word_byte (eqb-true b 9 tab)
]

pub tokens_first : (b : ℕ) (bs : List ℕ) → is_blank b ≡ false
    → tokens (b ∷ bs) ≡ token_first (token_of (take (piece_len (b ∷ bs)) (b ∷ bs))) (tokens (drop (piece_len (b ∷ bs)) (b ∷ bs)))
unfolding tokens
tokens_first b bs is =
    let f : (x : List ℕ) × (take (piece_len (b ∷ bs)) (b ∷ bs) ≡ b ∷ x) = first_of_piece b bs in
    ap tokens_of_pieces (pieces_first b bs)
    ∙ kept (take (piece_len (b ∷ bs)) (b ∷ bs)) (pieces (drop (piece_len (b ∷ bs)) (b ∷ bs))) (ap (list_all is_blank) f.1 ∙ some_not_blank b f.0 is)

pub tokens_blank : (b : ℕ) (bs : List ℕ) → is_blank b ≡ true → tokens (b ∷ bs) ≡ tokens (drop (piece_len (b ∷ bs)) (b ∷ bs))
unfolding tokens
tokens_blank b bs is =
    let len : piece_len (b ∷ bs) ≡ 1 = omega (arith, prefix_none b bs (blank_no_word b is)) in
    let piece : list_all is_blank (take (piece_len (b ∷ bs)) (b ∷ bs)) ≡ true = ap (λ n. list_all is_blank (take n (b ∷ bs))) len ∙ rw is refl in
    ap tokens_of_pieces (pieces_first b bs) ∙ dropped (take (piece_len (b ∷ bs)) (b ∷ bs)) (pieces (drop (piece_len (b ∷ bs)) (b ∷ bs))) piece

-- what stands behind these tokens
abbrev pub behind_tokens : List Token → Option (List Token) → Option (List Token)
behind_tokens front m = option_map (λ more. front ++ more) m

behind_first : (front : List Token) (t : Token) (m : Option (List Token)) → behind_tokens front (token_first (Some t) m) ≡ behind_tokens (front ++ t ∷ []) m
behind_first front t None = refl
behind_first front t (Some ts) = ap (λ (us : List Token). Some us) (sym (append_assoc front (t ∷ []) ts))

pub token_kept : (whole : Option (List Token)) (front : List Token) (line : List ℕ) (t : Token) → whole ≡ behind_tokens front (tokens line) → 0 < length line
    → is_blank (get_or line 0 0) ≡ false → Some t ≡ token_of (take (piece_len line) line) → whole ≡ behind_tokens (front ++ t ∷ []) (tokens (drop (piece_len line) line))
token_kept whole front [] t e some is found = absurd (omega arith)
token_kept whole front (b ∷ bs) t e some is found =
    e ∙ ap (behind_tokens front) (tokens_first b bs is ∙ ap (λ (m : Option Token). token_first m (tokens (drop (piece_len (b ∷ bs)) (b ∷ bs)))) (sym found))
    ∙ behind_first front t (tokens (drop (piece_len (b ∷ bs)) (b ∷ bs)))

pub blank_dropped : (whole : Option (List Token)) (front : List Token) (line : List ℕ) → whole ≡ behind_tokens front (tokens line) → 0 < length line
    → is_blank (get_or line 0 0) ≡ true → whole ≡ behind_tokens front (tokens (drop (piece_len line) line))
blank_dropped whole front [] e some is = absurd (omega arith)
blank_dropped whole front (b ∷ bs) e some is = e ∙ ap (behind_tokens front) (tokens_blank b bs is)

pub no_token : (whole : Option (List Token)) (front : List Token) (line : List ℕ) → whole ≡ behind_tokens front (tokens line) → 0 < length line
    → is_blank (get_or line 0 0) ≡ false → None ≡ token_of (take (piece_len line) line) → whole ≡ None
no_token whole front [] e some is found = absurd (omega arith)
no_token whole front (b ∷ bs) e some is found =
    e ∙ ap (behind_tokens front) (tokens_first b bs is ∙ ap (λ (m : Option Token). token_first m (tokens (drop (piece_len (b ∷ bs)) (b ∷ bs)))) (sym found))

pub no_line : (whole : Option (List Token)) (front : List Token) (line : List ℕ) → whole ≡ behind_tokens front (tokens line) → length line ≡ 0 → whole ≡ Some front
unfolding tokens
no_line whole front [] e none = e ∙ ap (λ (us : List Token). Some us) (append-nil front)
no_line whole front (b ∷ bs) e none = absurd (omega arith)
