-- Where a text is cut.
use Rattle.std.proofs.Common.{◌≡◌, ℕ, ◌+◌, ◌-◌, ◌<◌, ◌==◌, Bool, true, false, not, List, [], ◌∷◌, ◌++◌, length, take, drop, Option, Some, None, refl, sym, ap, subst, ◌∙◌, arith, eq-eqb, eqb-true, ◌≤◌, suc, nat_lt}
use Rattle.std.specs.Prelude.{option_map}
use Rattle.std.specs.List.{position, position_or_len}
use Rattle.std.proofs.lemmas.Bool.{and_parts, ltb-true, ltb-false, not-true}
use Rattle.std.proofs.lemmas.List.{take_all, length-drop}
use Rattle.std.proofs.lemmas.Option.{none-some, same_Some}
use Rattle.tce_fields.specs.Fields.{lacks}
use Rattle.tce_einsum.specs.Reading.{cut}

-- a byte in front of what stands before a cut
abbrev pub longer : ℕ → Option (List ℕ × List ℕ) → Option (List ℕ × List ℕ)
longer b r = option_map (λ (halves : List ℕ × List ℕ). (b ∷ halves.0, halves.1)) r

pub cut_here : (c b : ℕ) (bs : List ℕ) → (b == c) ≡ true → cut c (b ∷ bs) ≡ Some ([], bs)
unfolding cut
cut_here c b bs e = rw e refl

pub cut_later : (c b : ℕ) (bs : List ℕ) → (b == c) ≡ false → cut c (b ∷ bs) ≡ longer b (cut c bs)
unfolding cut
cut_later c b bs e = rw e refl

pub cut_empty : (c : ℕ) → cut c [] ≡ None
unfolding cut
cut_empty c = refl

pub cut_lacking : (c : ℕ) (text : List ℕ) → lacks c text ≡ true → cut c text ≡ None
cut_lacking c [] e = cut_empty c
cut_lacking c (b ∷ bs) e =
    let both = and_parts (not (b == c)) (lacks c bs) e in
    cut_later c b bs (not-true (b == c) both.0) ∙ ap (longer b) (cut_lacking c bs both.1)

pub cut_front : (c : ℕ) (front behind : List ℕ) → lacks c front ≡ true → cut c (front ++ c ∷ behind) ≡ Some (front, behind)
cut_front c [] behind e = cut_here c c behind (eq-eqb c c refl)
cut_front c (b ∷ bs) behind e =
    let both = and_parts (not (b == c)) (lacks c bs) e in
    cut_later c b (bs ++ c ∷ behind) (not-true (b == c) both.0) ∙ ap (longer b) (cut_front c bs behind both.1)

-- what is cut is the text
abbrev pub Joins : ℕ → List ℕ → Option (List ℕ × List ℕ) → Type 0
Joins c text None = Unit {0}
Joins c text (Some halves) = text ≡ halves.0 ++ c ∷ halves.1

joins_longer : (c b : ℕ) (bs : List ℕ) (r : Option (List ℕ × List ℕ)) → Joins c bs r → Joins c (b ∷ bs) (longer b r)
joins_longer c b bs None j = tt
joins_longer c b bs (Some halves) j = ap (λ (xs : List ℕ). b ∷ xs) j

pub cut_joins : (c : ℕ) (text : List ℕ) → Joins c text (cut c text)
cut_joins c [] = subst (Joins c []) (sym (cut_empty c)) tt
cut_joins c (b ∷ bs) = by_byte (b == c) refl (cut_joins c bs)
  where
    by_byte : (d : Bool) → (b == c) ≡ d → Joins c bs (cut c bs) → Joins c (b ∷ bs) (cut c (b ∷ bs))
    by_byte true e j = subst (Joins c (b ∷ bs)) (sym (cut_here c b bs e)) (ap (λ x. x ∷ bs) (eqb-true b c e))
    by_byte false e j = subst (Joins c (b ∷ bs)) (sym (cut_later c b bs e)) (joins_longer c b bs (cut c bs) j)

abbrev place_of : ℕ → List ℕ → ℕ
place_of c text = position_or_len (λ b. b == c) text

-- the halves at a place
abbrev halves_at : ℕ → List ℕ → Option (List ℕ × List ℕ)
halves_at n text = Some (take n text, drop (n + 1) text)

cut_at_place : (c : ℕ) (text : List ℕ) → place_of c text < length text → cut c text ≡ halves_at (place_of c text) text
cut_at_place c [] less = absurd (omega arith)
cut_at_place c (b ∷ bs) less = by_byte (b == c) refl (cut_at_place c bs)
  where
    by_byte : (d : Bool) → (b == c) ≡ d → (place_of c bs < length bs → cut c bs ≡ halves_at (place_of c bs) bs) → cut c (b ∷ bs) ≡ halves_at (place_of c (b ∷ bs)) (b ∷ bs)
    by_byte true e more =
        let none : place_of c (b ∷ bs) ≡ 0 = rw e refl in
        cut_here c b bs e ∙ ap (λ n. halves_at n (b ∷ bs)) (sym none)
    by_byte false e more =
        let next : place_of c (b ∷ bs) ≡ 1 + place_of c bs = rw e refl in
        let one : suc (place_of c bs) ≡ place_of c (b ∷ bs) = omega arith in
        let two : suc (place_of c bs + 1) ≡ place_of c (b ∷ bs) + 1 = omega arith in
        cut_later c b bs e ∙ ap (longer b) (more (omega arith))
        ∙ (λ i. Some (take (one i) (b ∷ bs), drop (two i) (b ∷ bs)))

cut_no_place : (c : ℕ) (text : List ℕ) → length text ≤ place_of c text → cut c text ≡ None
cut_no_place c [] none = cut_empty c
cut_no_place c (b ∷ bs) none = by_byte (b == c) refl (cut_no_place c bs)
  where
    by_byte : (d : Bool) → (b == c) ≡ d → (length bs ≤ place_of c bs → cut c bs ≡ None) → cut c (b ∷ bs) ≡ None
    by_byte true e more =
        let first : place_of c (b ∷ bs) ≡ 0 = rw e refl in
        absurd (omega arith)
    by_byte false e more =
        let next : place_of c (b ∷ bs) ≡ 1 + place_of c bs = rw e refl in
        cut_later c b bs e ∙ ap (longer b) (more (omega arith))

pub cut_found : (c : ℕ) (text : List ℕ) (end : ℕ) → position (λ b. b == c) text ≡ Some end
    → ◌≡◌ {A = Option (List ℕ × List ℕ)} (Some (take end text, take (length text - (end + 1)) (drop (end + 1) text))) (cut c text)
cut_found c text end is = by_place (nat_lt (place_of c text) (length text)) refl
  where
    by_place : (d : Bool) → nat_lt (place_of c text) (length text) ≡ d
        → ◌≡◌ {A = Option (List ℕ × List ℕ)} (Some (take end text, take (length text - (end + 1)) (drop (end + 1) text))) (cut c text)
    by_place true e =
        let same : place_of c text ≡ end = same_Some (place_of c text) end (rw e at is) in
        let inside : place_of c text < length text = ltb-true (place_of c text) (length text) e in
        ap (λ (rest : List ℕ). Some (take end text, rest)) (take_all (length text - (end + 1)) (drop (end + 1) text) (omega (arith, length-drop (end + 1) text)))
        ∙ ap (λ n. halves_at n text) (sym same) ∙ sym (cut_at_place c text inside)
    by_place false e = absurd (none-some end (rw e at is))

pub cut_missing : (c : ℕ) (text : List ℕ) → position (λ b. b == c) text ≡ None → ◌≡◌ {A = Option (List ℕ × List ℕ)} None (cut c text)
cut_missing c text none = by_place (nat_lt (place_of c text) (length text)) refl
  where
    by_place : (d : Bool) → nat_lt (place_of c text) (length text) ≡ d → ◌≡◌ {A = Option (List ℕ × List ℕ)} None (cut c text)
    by_place true e = absurd (none-some (place_of c text) (sym (rw e at none)))
    by_place false e = sym (cut_no_place c text (ltb-false (place_of c text) (length text) e))
