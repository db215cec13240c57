-- The parts of a text are what was joined.
use Rattle.std.proofs.Common.{◌≡◌, ◌≢◌, ℕ, ◌<◌, ◌≤◌, ◌==◌, ◌↔◌, Bool, true, false, not, List, [], ◌∷◌, ◌++◌, length, take, drop, ◌+◌, ◌-◌, length-drop, length-append, take_all, Some, None, refl, sym, ap, subst, ◌∙◌, arith, eq-eqb, nat_lt}
use Rattle.std.specs.List.{list_all, join_with_byte, slice_split, onto_first, position, position_or_len}
use Rattle.std.proofs.lemmas.Bool.{and_parts, ltb-true, ltb-false, not-true}
use Rattle.std.proofs.lemmas.List.Splits.{slice_split-cons_yes, slice_split-cons_no, slice_split_first, slice_split_none, join_with_byte-slice_split}
use Rattle.std.proofs.lemmas.Bool.Decides.{nat_tests}
use Rattle.std.proofs.lemmas.List.Sums.{fails_before_first}
use Rattle.std.proofs.lemmas.Option.{none-some, same_Some}
use Rattle.tce_fields.specs.Fields.{lacks, AreParts}

abbrev pub parts_at : ℕ → List ℕ → List (List ℕ)
parts_at c text = slice_split (λ b. b == c) text

split_lacking : (c : ℕ) (text : List ℕ) → lacks c text ≡ true → parts_at c text ≡ text ∷ []
split_lacking c [] e = refl
split_lacking c (b ∷ bs) e =
    let both = and_parts (not (b == c)) (lacks c bs) e in
    slice_split-cons_no (λ b. b == c) b bs (not-true (b == c) both.0) ∙ ap (onto_first b) (split_lacking c bs both.1)

split_front : (c : ℕ) (text rest : List ℕ) → lacks c text ≡ true → parts_at c (text ++ c ∷ rest) ≡ text ∷ parts_at c rest
split_front c [] rest e = slice_split-cons_yes (λ b. b == c) c rest (eq-eqb c c refl)
split_front c (b ∷ bs) rest e =
    let both = and_parts (not (b == c)) (lacks c bs) e in
    slice_split-cons_no (λ b. b == c) b (bs ++ c ∷ rest) (not-true (b == c) both.0) ∙ ap (onto_first b) (split_front c bs rest both.1)

pub split_joined : (c : ℕ) (parts : List (List ℕ)) → parts ≢ [] → list_all (lacks c) parts ≡ true → parts_at c (join_with_byte c parts) ≡ parts
split_joined c [] some apart = absurd (some refl)
split_joined c (x ∷ []) some apart = split_lacking c x (and_parts (lacks c x) true apart).0
split_joined c (x ∷ y ∷ rest) some apart =
    let both = and_parts (lacks c x) (list_all (lacks c) (y ∷ rest)) apart in
    split_front c x (join_with_byte c (y ∷ rest)) both.0 ∙ ap (λ ps. x ∷ ps) (split_joined c (y ∷ rest) (λ e. cc) both.1)

onto_lacking : (c b : ℕ) (parts : List (List ℕ)) → (b == c) ≡ false → list_all (lacks c) parts ≡ true → list_all (lacks c) (onto_first b parts) ≡ true
onto_lacking c b [] differs apart = rw differs refl
onto_lacking c b (part ∷ parts) differs apart = rw differs apart

parts_apart : (c : ℕ) (text : List ℕ) → list_all (lacks c) (parts_at c text) ≡ true
parts_apart c [] = refl
parts_apart c (b ∷ bs) = by_byte (b == c) refl (parts_apart c bs)
  where
    by_byte : (d : Bool) → (b == c) ≡ d → list_all (lacks c) (parts_at c bs) ≡ true → list_all (lacks c) (parts_at c (b ∷ bs)) ≡ true
    by_byte true e behind = ap (list_all (lacks c)) (slice_split-cons_yes (λ b. b == c) b bs e) ∙ behind
    by_byte false e behind = ap (list_all (lacks c)) (slice_split-cons_no (λ b. b == c) b bs e) ∙ onto_lacking c b (parts_at c bs) e behind

pub onto_some : (b : ℕ) (parts : List (List ℕ)) → onto_first b parts ≢ []
onto_some b [] = λ e. cc
onto_some b (part ∷ parts) = λ e. cc

parts_some : (c : ℕ) (text : List ℕ) → parts_at c text ≢ []
parts_some c [] = λ e. cc
parts_some c (b ∷ bs) = by_byte (b == c) refl
  where
    by_byte : (d : Bool) → (b == c) ≡ d → parts_at c (b ∷ bs) ≢ []
    by_byte true e = λ is. let none = sym (slice_split-cons_yes (λ b. b == c) b bs e) ∙ is in cc
    by_byte false e = λ is. onto_some b (parts_at c bs) (sym (slice_split-cons_no (λ b. b == c) b bs e) ∙ is)

only_parts : (c limit : ℕ) (text : List ℕ) (parts : List (List ℕ)) → AreParts c limit text parts → parts_at c text ≡ parts
only_parts c limit text parts are = ap (parts_at c) are.text_is ∙ split_joined c parts are.some are.apart

pub parts_given : (c limit : ℕ) (text : List ℕ) (found : List (List ℕ)) → found ≡ parts_at c text → length found ≤ limit
    → (value : List (List ℕ)) → (Some found ≡ Some value) ↔ AreParts c limit text value
parts_given c limit text found is few value = (
  (λ e. let same : parts_at c text ≡ value = sym is ∙ same_Some found value e in record {
    some = λ none. parts_some c text (same ∙ none);
    few = omega (arith, few, ap length (same_Some found value e));
    apart = ap (list_all (lacks c)) (sym same) ∙ parts_apart c text;
    text_is = sym (join_with_byte-slice_split c text) ∙ ap (join_with_byte c) same;
  }),
  (λ are. ap (λ ps. Some ps) (is ∙ only_parts c limit text value are)),
)

pub parts_refused : (c limit : ℕ) (text : List ℕ) → limit < length (parts_at c text) → (value : List (List ℕ)) → (None ≡ Some value) ↔ AreParts c limit text value
parts_refused c limit text many value = (
  (λ e. absurd (none-some value e)),
  (λ are. absurd (omega (arith, many, are.few, ap length (only_parts c limit text value are)))),
)

-- up to the first separator and behind it
pub first_part : (c : ℕ) (text : List ℕ) (end : ℕ) → position (λ b. b == c) text ≡ Some end
    → (end < length text) × (parts_at c text ≡ take end text ∷ parts_at c (drop (end + 1) text))
first_part c text end is = by_place (nat_lt n (length text)) refl
  where
    n : ℕ
    n = position_or_len (λ b. b == c) text

    by_place : (d : Bool) → nat_lt n (length text) ≡ d → (end < length text) × (parts_at c text ≡ take end text ∷ parts_at c (drop (end + 1) text))
    by_place true e =
        let same : n ≡ end = same_Some n end (rw e at is) in
        let inside : n < length text = ltb-true n (length text) e in
        (omega (arith, inside, same), subst (λ k. parts_at c text ≡ take k text ∷ parts_at c (drop (k + 1) text)) same (slice_split_first (λ b. b == c) text 0 inside))
    by_place false e = absurd (none-some end (rw e at is))

pub last_part : (c : ℕ) (text : List ℕ) → position (λ b. b == c) text ≡ None → parts_at c text ≡ text ∷ []
last_part c text none = by_place (nat_lt n (length text)) refl
  where
    n : ℕ
    n = position_or_len (λ b. b == c) text

    by_place : (d : Bool) → nat_lt n (length text) ≡ d → parts_at c text ≡ text ∷ []
    by_place true e = absurd (none-some n (sym (rw e at none)))
    by_place false e = slice_split_none (λ b. b == c) text (λ k d inside. fails_before_first (λ b. b == c) text k d (omega (arith, ltb-false n (length text) e, inside)))

pub cut_at : (c : ℕ) (text : List ℕ) (end : ℕ) → position (λ b. b == c) text ≡ Some end
    → parts_at c text ≡ take end text ∷ parts_at c (take (length text - (end + 1)) (drop (end + 1) text))
cut_at c text end is =
    (first_part c text end is).1
    ∙ ap (λ rest. take end text ∷ parts_at c rest) (sym (take_all (length text - (end + 1)) (drop (end + 1) text) (omega (arith, length-drop (end + 1) text))))

-- where the parts that are found fill the limit and one more follows, there are too many
pub too_many : (c limit : ℕ) (text rest : List ℕ) (found : List (List ℕ)) → parts_at c text ≡ found ++ parts_at c rest → length found ≡ limit → limit < length (parts_at c text)
too_many c limit text rest found whole full =
    omega (arith, full, ap length whole, length-append found (parts_at c rest), some_length (parts_at c rest) (parts_some c rest))
  where
    some_length : (parts : List (List ℕ)) → parts ≢ [] → 0 < length parts
    some_length [] some = absurd (some refl)
    some_length (part ∷ parts) some = omega arith

pub room_left : (n limit : ℕ) → false ≡ (n == limit) → n ≤ limit → n + 1 ≤ limit
room_left n limit differs within = grind (arith, nat_tests)
