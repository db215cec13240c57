-- The texts of sizes.
use Rattle.std.proofs.Common.{◌≡◌, ℕ, ◌<◌, ◌==◌, Bool, true, false, ◌&&◌, not, List, [], ◌∷◌, ◌++◌, map, length, Option, Some, None, refl, sym, ap, subst, ◌∙◌, arith, eqb-true, append-nil}
use Rattle.std.specs.Prelude.{nat_le, option_map}
use Rattle.std.specs.List.{list_all, join_with_byte}
use Rattle.std.proofs.lemmas.Bool.{and_parts, and_from}
use Rattle.std.proofs.lemmas.Bool.Decides.{nat_tests}
use Rattle.std.proofs.lemmas.List.Folds.{list_all-append}
use Rattle.std.proofs.lemmas.List.Splits.{join_with_byte-slice_split}
use Rattle.std.proofs.lemmas.Option.{none-some, same_Some}
use Rattle.tce_space.specs.Name.{is_digit}
use Rattle.tce_fields.specs.Digits.{starts_as_number}
use Rattle.tce_fields.specs.Fields.{lacks}
use Rattle.tce_fields.proofs.Splitting.{split_joined}
use Rattle.tce_grammar.specs.Tokens.{all_some}
use Rattle.tce_einsum.specs.Text.{Size, is_label, is_number, is_number_if_some, is_size, edge_text, size_text}
use Rattle.tce_einsum.specs.Reading.{cut, numbers_of, size_of, sizes_in, sizes_of, comma_parts}
use Rattle.tce_einsum.proofs.Cuts.{cut_lacking, cut_front, Joins, cut_joins}

digits_lack : (c : ℕ) (ds : List ℕ) → c < 48 → list_all is_digit ds ≡ true → lacks c ds ≡ true
digits_lack c [] low all = refl
digits_lack c (d ∷ ds) low all =
    let parts = and_parts (is_digit d) (list_all is_digit ds) all in
    and_from (not (d == c)) (lacks c ds) (apart c d low parts.0) (digits_lack c ds low parts.1)
  where
    apart : (c d : ℕ) → c < 48 → is_digit d ≡ true → not (d == c) ≡ true
    apart c d low digit = grind (arith, nat_tests)

number_lacks : (c : ℕ) (ds : List ℕ) → c < 48 → is_number ds ≡ true → lacks c ds ≡ true
number_lacks c ds low is =
    let parts = and_parts (starts_as_number ds) (list_all is_digit ds && nat_le (length ds) 20) is in
    digits_lack c ds low (and_parts (list_all is_digit ds) (nat_le (length ds) 20) parts.1).0

-- what is read from the text of a size
numbers_written : (l : ℕ) (ds : List ℕ) (edge : Option (List ℕ)) → is_number ds ≡ true → is_number_if_some edge ≡ true
    → numbers_of l (ds ++ edge_text edge) (cut 47 (ds ++ edge_text edge)) ≡ Some (record { label = l; extent = ds; edge = edge })
numbers_written l ds None p q =
    ap (λ (xs : List ℕ). numbers_of l xs (cut 47 xs)) (append-nil ds) ∙ ap (numbers_of l ds) (cut_lacking 47 ds (number_lacks 47 ds (omega arith) p)) ∙ rw p refl
numbers_written l ds (Some es) p q =
    ap (numbers_of l (ds ++ 47 ∷ es)) (cut_front 47 ds es (number_lacks 47 ds (omega arith) p)) ∙ rw (p, q) refl

size_by_test : (l b : ℕ) (ds : List ℕ) (d : Bool) → (is_label l && b == 61) ≡ true → size_of (l ∷ b ∷ ds) ≡ numbers_of l ds (cut 47 ds)
unfolding size_of
size_by_test l b ds d e = rw e refl

size_refused : (l b : ℕ) (ds : List ℕ) → (is_label l && b == 61) ≡ false → size_of (l ∷ b ∷ ds) ≡ None
unfolding size_of
size_refused l b ds e = rw e refl

size_written : (s : Size) → is_size s ≡ true → size_of (size_text s) ≡ Some s
size_written s is =
    let parts = and_parts (is_label s.label) (is_number s.extent && is_number_if_some s.edge) is in
    let numbers = and_parts (is_number s.extent) (is_number_if_some s.edge) parts.1 in
    size_by_test s.label 61 (s.extent ++ edge_text s.edge) true (and_from (is_label s.label) true parts.0 refl)
    ∙ numbers_written s.label s.extent s.edge numbers.0 numbers.1

-- what is read is a size, and the text is its
abbrev pub IsSizeOf : List ℕ → Size → Type 0
IsSizeOf text s = (is_size s ≡ true) × (text ≡ size_text s)

numbers_sound : (l b : ℕ) (ds : List ℕ) (r : Option (List ℕ × List ℕ)) (s : Size) → is_label l ≡ true → b ≡ 61 → Joins 47 ds r → numbers_of l ds r ≡ Some s
    → IsSizeOf (l ∷ b ∷ ds) s
numbers_sound l b ds None s label sign joins e = by_number (is_number ds) refl
  where
    by_number : (d : Bool) → is_number ds ≡ d → IsSizeOf (l ∷ b ∷ ds) s
    by_number true p =
        let same : ◌≡◌ {A = Size} (record { label = l; extent = ds; edge = None }) s = same_Some _ s (rw p at e) in
        subst (IsSizeOf (l ∷ b ∷ ds)) same (and_from (is_label l) _ label (and_from (is_number ds) true p refl), λ i. l ∷ sign i ∷ sym (append-nil ds) i)
    by_number false p = absurd (none-some s (rw p at e))
numbers_sound l b ds (Some r) s label sign joins e = by_number (is_number r.0 && is_number r.1) refl
  where
    by_number : (d : Bool) → (is_number r.0 && is_number r.1) ≡ d → IsSizeOf (l ∷ b ∷ ds) s
    by_number true p =
        let same : ◌≡◌ {A = Size} (record { label = l; extent = r.0; edge = Some r.1 }) s = same_Some _ s (rw p at e) in
        subst (IsSizeOf (l ∷ b ∷ ds)) same (and_from (is_label l) _ label p, λ i. l ∷ sign i ∷ joins i)
    by_number false p = absurd (none-some s (rw p at e))

size_none : size_of [] ≡ None
unfolding size_of
size_none = refl

size_short : (l : ℕ) → size_of (l ∷ []) ≡ None
unfolding size_of
size_short l = refl

size_sound : (text : List ℕ) (s : Size) → size_of text ≡ Some s → IsSizeOf text s
size_sound [] s e = absurd (none-some s (sym size_none ∙ e))
size_sound (l ∷ []) s e = absurd (none-some s (sym (size_short l) ∙ e))
size_sound (l ∷ b ∷ ds) s e = by_test (is_label l && b == 61) refl
  where
    by_test : (d : Bool) → (is_label l && b == 61) ≡ d → IsSizeOf (l ∷ b ∷ ds) s
    by_test true p =
        let parts = and_parts (is_label l) (b == 61) p in
        numbers_sound l b ds (cut 47 ds) s parts.0 (eqb-true b 61 parts.1) (cut_joins 47 ds) (sym (size_by_test l b ds true p) ∙ e)
    by_test false p = absurd (none-some s (sym (size_refused l b ds p) ∙ e))

sizes_written : (ss : List Size) → list_all is_size ss ≡ true → sizes_in (map size_text ss) ≡ Some ss
sizes_written [] all = refl
sizes_written (s ∷ ss) all =
    let parts = and_parts (is_size s) (list_all is_size ss) all in
    ap (λ (o : Option Size). all_some (o ∷ map size_of (map size_text ss))) (size_written s parts.0)
    ∙ ap (λ (o : Option (List Size)). option_map (λ (more : List Size). s ∷ more) o) (sizes_written ss parts.1)

-- what is read are sizes, and the texts are theirs
abbrev pub AreSizesOf : List (List ℕ) → List Size → Type 0
AreSizesOf texts ss = (list_all is_size ss ≡ true) × (texts ≡ map size_text ss)

one_more : (s : Size) (text : List ℕ) (texts : List (List ℕ)) (ss : List Size) (more : Option (List Size)) → IsSizeOf text s
    → ((rest : List Size) → more ≡ Some rest → AreSizesOf texts rest) → option_map (λ (rest : List Size). s ∷ rest) more ≡ Some ss → AreSizesOf (text ∷ texts) ss
one_more s text texts ss None is rest e = absurd (none-some ss e)
one_more s text texts ss (Some found) is rest e =
    let behind = rest found refl in
    subst (AreSizesOf (text ∷ texts)) (same_Some (s ∷ found) ss e) (and_from (is_size s) (list_all is_size found) is.0 behind.0, λ i. is.1 i ∷ behind.1 i)

sizes_sound : (texts : List (List ℕ)) (ss : List Size) → sizes_in texts ≡ Some ss → AreSizesOf texts ss
sizes_sound [] ss e = subst (AreSizesOf []) (same_Some [] ss e) (refl, refl)
sizes_sound (text ∷ texts) ss e = by_first (size_of text) refl (λ rest found. sizes_sound texts rest found)
  where
    by_first : (o : Option Size) → size_of text ≡ o → ((rest : List Size) → sizes_in texts ≡ Some rest → AreSizesOf texts rest) → AreSizesOf (text ∷ texts) ss
    by_first None is more = absurd (none-some ss (sym (ap (λ (o : Option Size). all_some (o ∷ map size_of texts)) is) ∙ e))
    by_first (Some s) is more =
        one_more s text texts ss (sizes_in texts) (size_sound text s is) more
        (sym (ap (λ (o : Option Size). all_some (o ∷ map size_of texts)) is) ∙ e)

-- no comma stands in the text of a size
edge_lacks : (edge : Option (List ℕ)) → is_number_if_some edge ≡ true → lacks 44 (edge_text edge) ≡ true
edge_lacks None is = refl
edge_lacks (Some ds) is = number_lacks 44 ds (omega arith) is

size_lacks : (s : Size) → is_size s ≡ true → lacks 44 (size_text s) ≡ true
size_lacks s is =
    let parts = and_parts (is_label s.label) (is_number s.extent && is_number_if_some s.edge) is in
    let numbers = and_parts (is_number s.extent) (is_number_if_some s.edge) parts.1 in
    and_from (not (s.label == 44)) (lacks 44 (s.extent ++ edge_text s.edge)) (letter s.label parts.0)
    (list_all-append (λ b. not (b == 44)) s.extent (edge_text s.edge)
    ∙ and_from (lacks 44 s.extent) (lacks 44 (edge_text s.edge)) (number_lacks 44 s.extent (omega arith) numbers.0) (edge_lacks s.edge numbers.1))
  where
    letter : (l : ℕ) → is_label l ≡ true → not (l == 44) ≡ true
    letter l is = grind (arith, nat_tests)

sizes_lack : (ss : List Size) → list_all is_size ss ≡ true → list_all (lacks 44) (map size_text ss) ≡ true
sizes_lack [] all = refl
sizes_lack (s ∷ ss) all =
    let parts = and_parts (is_size s) (list_all is_size ss) all in
    and_from (lacks 44 (size_text s)) (list_all (lacks 44) (map size_text ss)) (size_lacks s parts.0) (sizes_lack ss parts.1)

sizes_of_none : sizes_of [] ≡ Some []
unfolding sizes_of
sizes_of_none = refl

sizes_of_some : (b : ℕ) (bs : List ℕ) → sizes_of (b ∷ bs) ≡ sizes_in (comma_parts (b ∷ bs))
unfolding sizes_of
sizes_of_some b bs = refl

some_sizes : (s : Size) (ss : List Size) → sizes_of (join_with_byte 44 (map size_text (s ∷ ss))) ≡ sizes_in (comma_parts (join_with_byte 44 (map size_text (s ∷ ss))))
some_sizes s [] = sizes_of_some s.label (61 ∷ (s.extent ++ edge_text s.edge))
some_sizes s (t ∷ ss) = sizes_of_some s.label (61 ∷ (s.extent ++ edge_text s.edge) ++ 44 ∷ join_with_byte 44 (map size_text (t ∷ ss)))

pub all_sizes_written : (ss : List Size) → list_all is_size ss ≡ true → sizes_of (join_with_byte 44 (map size_text ss)) ≡ Some ss
all_sizes_written [] all = sizes_of_none
all_sizes_written (s ∷ ss) all =
    some_sizes s ss ∙ ap sizes_in (split_joined 44 (map size_text (s ∷ ss)) (λ e. cc) (sizes_lack (s ∷ ss) all)) ∙ sizes_written (s ∷ ss) all

pub all_sizes_sound : (text : List ℕ) (ss : List Size) → sizes_of text ≡ Some ss → (list_all is_size ss ≡ true) × (text ≡ join_with_byte 44 (map size_text ss))
all_sizes_sound [] ss e =
    subst (λ (found : List Size). (list_all is_size found ≡ true) × ([] ≡ join_with_byte 44 (map size_text found))) (same_Some [] ss (sym sizes_of_none ∙ e)) (refl, refl)
all_sizes_sound (b ∷ bs) ss e =
    let are = sizes_sound (comma_parts (b ∷ bs)) ss (sym (sizes_of_some b bs) ∙ e) in
    (are.0, sym (join_with_byte-slice_split 44 (b ∷ bs)) ∙ ap (join_with_byte 44) are.1)
