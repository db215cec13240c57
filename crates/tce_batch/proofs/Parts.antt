-- The parts of texts that keep one formula line each, and their lines.
use Rattle.std.proofs.Common.{inl, inr, ◌≡◌, ℕ, ◌+◌, ◌≤◌, arith, Bool, true, false, List, [], ◌∷◌, length, map, refl, sym, subst, ◌∙◌, ap, if◌then◌else◌}
use Rattle.std.specs.Prelude.{All}
use Rattle.std.specs.List.{slice_split, onto_first, join_with_byte, AllZip}
use Rattle.std.proofs.lemmas.List.{length-append}
use Rattle.std.proofs.lemmas.List.Elements.{All-cons, All-nil}
use Rattle.std.proofs.lemmas.List.Splits.{slice_split_at, slice_split_none, slice_split-cons_yes, slice_split-cons_no}
use Rattle.tce_grammar.specs.Lines.{lines, ended, without_return, without_comment}
use Rattle.tce_grammar.specs.Tokens.{tokens}
use Rattle.tce_grammar.specs.Grammar.{Line, skipped}
use Rattle.tce_grammar.specs.Reading.{line_of}
use Rattle.tce_grammar.proofs.FirstLines.{feed, ended_more}
use Rattle.tce_batch.specs.Texts.{is_formula, emptied, alone}
use Rattle.tce_batch.specs.Reading.{without_formulas}
use Rattle.tce_batch.proofs.Results.{alones, IsTrimmed, IsAlone}

-- no part has a line feed
abbrev pub AreFree : List (List ℕ) → Type 0
AreFree [] = Unit {0}
AreFree (part ∷ parts) = All (λ b. feed b ≡ false) part × AreFree parts

-- the bytes of parts, each with one more
abbrev pub size : List (List ℕ) → ℕ
size [] = 0
size (part ∷ parts) = length part + 1 + size parts

abbrev pub AreSome : List (List ℕ) → Type 0
AreSome parts = (n : List ℕ) × (ns : List (List ℕ)) × (parts ≡ n ∷ ns)

onto_free : (b : ℕ) (parts : List (List ℕ)) → feed b ≡ false → AreFree parts → AreFree (onto_first b parts)
onto_free b [] none free = (All-cons (λ b. feed b ≡ false) b [] none (All-nil (λ b. feed b ≡ false)), tt)
onto_free b (part ∷ parts) none free = (All-cons (λ b. feed b ≡ false) b part none free.0, free.1)

pub split_free : (text : List ℕ) → AreFree (slice_split feed text)
split_free [] = (All-nil (λ b. feed b ≡ false), tt)
split_free (b ∷ bs) = by_feed (feed b) refl (split_free bs)
  where
    by_feed : (d : Bool) → feed b ≡ d → AreFree (slice_split feed bs) → AreFree (slice_split feed (b ∷ bs))
    by_feed true is more = subst AreFree (sym (slice_split-cons_yes feed b bs is)) (All-nil (λ b. feed b ≡ false), more)
    by_feed false is more = subst AreFree (sym (slice_split-cons_no feed b bs is)) (onto_free b (slice_split feed bs) is more)

-- parts that are joined are cut again where they were
pub split_joined : (part : List ℕ) (parts : List (List ℕ)) → AreFree (part ∷ parts) → slice_split feed (join_with_byte 10 (part ∷ parts)) ≡ part ∷ parts
split_joined part [] free = slice_split_none feed part free.0
split_joined part (next ∷ parts) free =
    slice_split_at feed part 10 (join_with_byte 10 (next ∷ parts)) free.0 refl ∙ ap (λ (ps : List (List ℕ)). part ∷ ps) (split_joined next parts free.1)

pub joined_lines : (parts : List (List ℕ)) → AreSome parts → AreFree parts → lines (join_with_byte 10 parts) ≡ ended parts
unfolding lines
joined_lines parts some free =
    let free_some : AreFree (some.0 ∷ some.1) = subst AreFree some.2 free in
    ap (λ (ps : List (List ℕ)). ended (slice_split feed (join_with_byte 10 ps))) some.2
    ∙ ap ended (split_joined some.0 some.1 free_some)
    ∙ ap ended (sym some.2)

join_size : (part : List ℕ) (parts : List (List ℕ)) → length (join_with_byte 10 (part ∷ parts)) + 1 ≡ size (part ∷ parts)
join_size part [] = omega arith
join_size part (next ∷ parts) =
    let more = join_size next parts in
    let long = length-append part (10 ∷ join_with_byte 10 (next ∷ parts)) in
    omega (arith, more, long)

pub joined_size : (parts : List (List ℕ)) → AreSome parts → length (join_with_byte 10 parts) + 1 ≡ size parts
joined_size parts some = subst (λ (ps : List (List ℕ)). length (join_with_byte 10 ps) + 1 ≡ size ps) (sym some.2) (join_size some.0 some.1)

-- parts of which the lines are these, but for skipped ones at the end
pub record AreFor (IsFor : List Line → List Line → Type 0) (bound : ℕ) (parts : List (List ℕ)) (ls : List Line) : Type 0 where
  pub some : AreSome parts
  pub free : AreFree parts
  pub short : size parts ≤ bound
  pub are : IsFor (map line_of (ended parts)) ls

cons_ended : (part : List ℕ) (parts : List (List ℕ)) → AreSome parts → map line_of (ended (part ∷ parts)) ≡ line_of (without_return part) ∷ map line_of (ended parts)
cons_ended part parts some = ap (map line_of) (ended_more part parts some.0 some.1 some.2)

empty_skipped : line_of [] ≡ skipped
unfolding line_of tokens without_comment
empty_skipped = refl

cons_trimmed : (bound more : ℕ) (part : List ℕ) (parts : List (List ℕ)) (l : Line) (ls : List Line) → All (λ b. feed b ≡ false) part → line_of (without_return part) ≡ l → length part + 1 + bound ≤ more
    → AreFor IsTrimmed bound parts ls → AreFor IsTrimmed more (part ∷ parts) (l ∷ ls)
cons_trimmed bound more part parts l ls free is short for_parts = record {
  some = (part, parts, refl);
  free = (free, for_parts.free);
  short = omega (arith, for_parts.short, short);
  are = subst (λ (xs : List Line). IsTrimmed xs (l ∷ ls)) (sym (cons_ended part parts for_parts.some)) (is, for_parts.are);
}

cons_alone : (bound more : ℕ) (part : List ℕ) (parts : List (List ℕ)) (l : Line) (ls : List Line) → All (λ b. feed b ≡ false) part → line_of (without_return part) ≡ l → length part + 1 + bound ≤ more
    → AreFor IsAlone bound parts ls → AreFor IsAlone more (part ∷ parts) (l ∷ ls)
cons_alone bound more part parts l ls free is short for_parts = record {
  some = (part, parts, refl);
  free = (free, for_parts.free);
  short = omega (arith, for_parts.short, short);
  are = subst (λ (xs : List Line). IsAlone xs (l ∷ ls)) (sym (cons_ended part parts for_parts.some)) (is, inr for_parts.are);
}

cons_first : (bound more : ℕ) (part : List ℕ) (parts : List (List ℕ)) (l : Line) (ls : List Line) → All (λ b. feed b ≡ false) part → line_of (without_return part) ≡ l → is_formula l ≡ true → length part + 1 + bound ≤ more
    → AreFor IsTrimmed bound parts ls → AreFor IsAlone more (part ∷ parts) (l ∷ ls)
cons_first bound more part parts l ls free is has short for_parts = record {
  some = (part, parts, refl);
  free = (free, for_parts.free);
  short = omega (arith, for_parts.short, short);
  are = subst (λ (xs : List Line). IsAlone xs (l ∷ ls)) (sym (cons_ended part parts for_parts.some)) (is, inl (has, for_parts.are));
}

no_feeds : All (λ b. feed b ≡ false) []
no_feeds = All-nil (λ b. feed b ≡ false)

abbrev lines_in : List (List ℕ) → List Line
lines_in parts = map line_of (ended parts)

-- the last part, which is a line unless it is empty
last_emptied : (part : List ℕ) → All (λ b. feed b ≡ false) part → AreFor IsTrimmed (size (part ∷ [])) (emptied (part ∷ []) (lines_in (part ∷ []))) (without_formulas (lines_in (part ∷ [])))
last_emptied [] free = record { some = ([], [], refl); free = (free, tt); short = omega arith; are = tt }
last_emptied (b ∷ bs) free = by_kind (line_of (b ∷ bs)) refl (is_formula (line_of (b ∷ bs))) refl
  where
    by_kind : (l : Line) → line_of (b ∷ bs) ≡ l → (has : Bool) → is_formula l ≡ has
        → AreFor IsTrimmed (size ((b ∷ bs) ∷ [])) ((if is_formula l then [] else b ∷ bs) ∷ []) ((if is_formula l then skipped else l) ∷ [])
    by_kind l is true has = rw has (record { some = ([], [], refl); free = (no_feeds, tt); short = omega arith; are = refl })
    by_kind l is false has = rw has (record { some = (b ∷ bs, [], refl); free = (free, tt); short = omega arith; are = (is, tt) })

emptied_for : (part : List ℕ) (parts : List (List ℕ)) → AreFree (part ∷ parts) → AreFor IsTrimmed (size (part ∷ parts)) (emptied (part ∷ parts) (lines_in (part ∷ parts))) (without_formulas (lines_in (part ∷ parts)))
emptied_for part [] free = last_emptied part free.0
emptied_for part (next ∷ parts) free =
    let more = emptied_for next parts free.1 in
    subst (λ (ls : List Line). AreFor IsTrimmed (size (part ∷ next ∷ parts)) (emptied (part ∷ next ∷ parts) ls) (without_formulas ls)) (sym (cons_ended part (next ∷ parts) (next, parts, refl)))
    (by_kind (line_of (without_return part)) refl (is_formula (line_of (without_return part))) refl more)
  where
    by_kind : (l : Line) → line_of (without_return part) ≡ l → (has : Bool) → is_formula l ≡ has
        → AreFor IsTrimmed (size (next ∷ parts)) (emptied (next ∷ parts) (lines_in (next ∷ parts))) (without_formulas (lines_in (next ∷ parts)))
        → AreFor IsTrimmed (size (part ∷ next ∷ parts)) ((if is_formula l then [] else part) ∷ emptied (next ∷ parts) (lines_in (next ∷ parts))) ((if is_formula l then skipped else l) ∷ without_formulas (lines_in (next ∷ parts)))
    by_kind l is true has more = rw has (cons_trimmed (size (next ∷ parts)) (size (part ∷ next ∷ parts)) [] _ skipped _ no_feeds empty_skipped (omega arith) more)
    by_kind l is false has more = rw has (cons_trimmed (size (next ∷ parts)) (size (part ∷ next ∷ parts)) part _ l _ free.0 is (omega arith) more)

-- the same part and the same line in front of each
each_cons : (bound more : ℕ) (part : List ℕ) (l : Line) → All (λ b. feed b ≡ false) part → line_of (without_return part) ≡ l → length part + 1 + bound ≤ more
    → (partses : List (List (List ℕ))) (lists : List (List Line)) → AllZip (AreFor IsAlone bound) partses lists
    → AllZip (AreFor IsAlone more) (map (λ (others : List (List ℕ)). part ∷ others) partses) (map (λ (others : List Line). l ∷ others) lists)
each_cons bound more part l free is short [] [] each = tt
each_cons bound more part l free is short [] (ls ∷ lists) each = absurd each
each_cons bound more part l free is short (parts ∷ partses) [] each = absurd each
each_cons bound more part l free is short (parts ∷ partses) (ls ∷ lists) each =
    (cons_alone bound more part parts l ls free is short each.0, each_cons bound more part l free is short partses lists each.1)

last_alone : (part : List ℕ) → All (λ b. feed b ≡ false) part → AllZip (AreFor IsAlone (size (part ∷ []))) (alone (part ∷ []) (lines_in (part ∷ []))) (alones (lines_in (part ∷ [])))
last_alone [] free = tt
last_alone (b ∷ bs) free = by_kind (line_of (b ∷ bs)) refl (is_formula (line_of (b ∷ bs))) refl
  where
    by_kind : (l : Line) → line_of (b ∷ bs) ≡ l → (has : Bool) → is_formula l ≡ has
        → AllZip (AreFor IsAlone (size ((b ∷ bs) ∷ []))) (alone ((b ∷ bs) ∷ []) (l ∷ [])) (alones (l ∷ []))
    by_kind l is true has = rw has (record { some = (b ∷ bs, [], refl); free = (free, tt); short = omega arith; are = (is, inl (has, tt)) }, tt)
    by_kind l is false has = rw has tt

-- the parts of each text, and its lines
pub alone_for : (part : List ℕ) (parts : List (List ℕ)) → AreFree (part ∷ parts)
    → AllZip (AreFor IsAlone (size (part ∷ parts))) (alone (part ∷ parts) (lines_in (part ∷ parts))) (alones (lines_in (part ∷ parts)))
alone_for part [] free = last_alone part free.0
alone_for part (next ∷ parts) free =
    let more = alone_for next parts free.1 in
    let behind = emptied_for next parts free.1 in
    subst (λ (ls : List Line). AllZip (AreFor IsAlone (size (part ∷ next ∷ parts))) (alone (part ∷ next ∷ parts) ls) (alones ls)) (sym (cons_ended part (next ∷ parts) (next, parts, refl)))
    (by_kind (line_of (without_return part)) refl (is_formula (line_of (without_return part))) refl more behind)
  where
    by_kind : (l : Line) → line_of (without_return part) ≡ l → (has : Bool) → is_formula l ≡ has
        → AllZip (AreFor IsAlone (size (next ∷ parts))) (alone (next ∷ parts) (lines_in (next ∷ parts))) (alones (lines_in (next ∷ parts)))
        → AreFor IsTrimmed (size (next ∷ parts)) (emptied (next ∷ parts) (lines_in (next ∷ parts))) (without_formulas (lines_in (next ∷ parts)))
        → AllZip (AreFor IsAlone (size (part ∷ next ∷ parts))) (alone (part ∷ next ∷ parts) (l ∷ lines_in (next ∷ parts))) (alones (l ∷ lines_in (next ∷ parts)))
    by_kind l is true has more behind =
        rw has (
          cons_first (size (next ∷ parts)) (size (part ∷ next ∷ parts)) part _ l _ free.0 is has (omega arith) behind,
          each_cons (size (next ∷ parts)) (size (part ∷ next ∷ parts)) [] skipped no_feeds empty_skipped (omega arith) _ _ more,
        )
    by_kind l is false has more behind =
        rw has (each_cons (size (next ∷ parts)) (size (part ∷ next ∷ parts)) part l free.0 is (omega arith) _ _ more)
