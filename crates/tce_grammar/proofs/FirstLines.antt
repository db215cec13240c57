-- The lines of a text, from the first on.
use Rattle.std.proofs.Common.{◌≡◌, ℕ, ◌+◌, ◌<◌, ◌==◌, List, [], ◌∷◌, length, Bool, true, false, refl, sym, ◌∙◌, ap, arith}
use Rattle.std.specs.List.{slice_split, onto_first, position_or_len, before_first, after_first}
use Rattle.std.proofs.lemmas.List.Splits.{slice_split_first, slice_split-cons_yes, slice_split-cons_no}
use Rattle.std.proofs.lemmas.Bool.{eqb-true}
use Rattle.tce_grammar.specs.Lines.{without_return, ended, lines}

abbrev pub feed : ℕ → Bool
feed b = b == 10

onto_some : (b : ℕ) (parts : List (List ℕ)) → (n : List ℕ) × (ns : List (List ℕ)) × (onto_first b parts ≡ n ∷ ns)
onto_some b [] = (b ∷ [], [], refl)
onto_some b (p ∷ ps) = (b ∷ p, ps, refl)

pub split_some : (text : List ℕ) → (n : List ℕ) × (ns : List (List ℕ)) × (slice_split feed text ≡ n ∷ ns)
split_some [] = ([], [], refl)
split_some (b ∷ bs) = by_feed (feed b) refl
  where
    by_feed : (d : Bool) → feed b ≡ d → (n : List ℕ) × (ns : List (List ℕ)) × (slice_split feed (b ∷ bs) ≡ n ∷ ns)
    by_feed true is = ([], slice_split feed bs, slice_split-cons_yes feed b bs is)
    by_feed false is =
        let o : (n : List ℕ) × (ns : List (List ℕ)) × (onto_first b (slice_split feed bs) ≡ n ∷ ns) = onto_some b (slice_split feed bs) in
        (o.0, o.1, slice_split-cons_no feed b bs is ∙ o.2)

pub ended_more : (part : List ℕ) (parts : List (List ℕ)) (n : List ℕ) (ns : List (List ℕ)) → parts ≡ n ∷ ns → ended (part ∷ parts) ≡ without_return part ∷ ended parts
ended_more [] parts n ns e = ap (λ (ps : List (List ℕ)). ended ([] ∷ ps)) e ∙ ap (λ (ps : List (List ℕ)). without_return [] ∷ ended ps) (sym e)
ended_more (b ∷ bs) parts n ns e = ap (λ (ps : List (List ℕ)). ended ((b ∷ bs) ∷ ps)) e ∙ ap (λ (ps : List (List ℕ)). without_return (b ∷ bs) ∷ ended ps) (sym e)

-- where no line feed is, the text is one part
split_whole : (text : List ℕ) → position_or_len feed text ≡ length text → slice_split feed text ≡ text ∷ []
split_whole [] e = refl
split_whole (b ∷ bs) e = by_feed (feed b) refl (split_whole bs)
  where
    by_feed : (d : Bool) → feed b ≡ d → (position_or_len feed bs ≡ length bs → slice_split feed bs ≡ bs ∷ []) → slice_split feed (b ∷ bs) ≡ (b ∷ bs) ∷ []
    by_feed true is more_is =
        let none : position_or_len feed (b ∷ bs) ≡ 0 = rw is refl in
        absurd (omega arith)
    by_feed false is more_is =
        let more : position_or_len feed (b ∷ bs) ≡ 1 + position_or_len feed bs = rw is refl in
        slice_split-cons_no feed b bs is ∙ ap (onto_first b) (more_is (omega arith))

pub lines_single : (text : List ℕ) → 0 < length text → position_or_len feed text ≡ length text → lines text ≡ text ∷ []
unfolding lines
lines_single [] some e = absurd (omega arith)
lines_single (b ∷ bs) some e = ap ended (split_whole (b ∷ bs) e)

pub lines_more : (text : List ℕ) → position_or_len feed text < length text → lines text ≡ without_return (before_first feed text) ∷ lines (after_first feed text)
unfolding lines
lines_more text less =
    let s : (n : List ℕ) × (ns : List (List ℕ)) × (slice_split feed (after_first feed text) ≡ n ∷ ns) = split_some (after_first feed text) in
    ap ended (slice_split_first feed text 10 less) ∙ ended_more (before_first feed text) (slice_split feed (after_first feed text)) s.0 s.1 s.2

pub lines_none : lines [] ≡ []
unfolding lines
lines_none = refl

no_bytes : (text : List ℕ) → length text ≡ 0 → text ≡ []
no_bytes [] e = refl
no_bytes (b ∷ bs) e = absurd (omega arith)

pub is_empty_yes : (text : List ℕ) (d : Bool) → d ≡ (length text == 0) → d ≡ true → text ≡ []
is_empty_yes text d is empty = no_bytes text (eqb-true (length text) 0 (sym is ∙ empty))

pub is_empty_no : (text : List ℕ) (d : Bool) → d ≡ (length text == 0) → d ≡ false → 0 < length text
is_empty_no [] d is none = cc
is_empty_no (b ∷ bs) d is none = omega arith
