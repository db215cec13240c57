-- Entries by name, as the program keeps them and as a space shows them.
use Rattle.std.proofs.Common.{◌≡◌, ℕ, zero, suc, ◌+◌, ◌<◌, ◌≤◌, Bool, false, not, cond, List, [], ◌∷◌, ◌++◌, length, map, Option, Some, None, is_some, All, inl, inr, get_or, slice_get, refl, sym, ap, ◌∙◌, nat_eq, nat_lt, arith}
use Rattle.std.specs.List.{IsDistinct, AllByRecursion, position, prefix_len}
use Rattle.std.specs.Str.{bytes_eq}
use Rattle.std.specs.Cmp.Lexicographic.{pointwise, nat_list_eq_equiv}
use Rattle.std.specs.Map.{keys_of, values_of}
use Rattle.std.proofs.lemmas.Bool.{cases_Bool}
use Rattle.std.proofs.lemmas.Bool.Decides.{nat_tests}
use Rattle.std.proofs.lemmas.Slice.Eq.{bytes_eq-Decides}
use Rattle.std.proofs.lemmas.List.Elements.{recursion_from_All}
use Rattle.std.proofs.lemmas.List.{length-map}
use Rattle.indexmap.specs.IndexMap.{insert_entry}
use Rattle.indexmap.proofs.MapLemmas.{some_index, insert_entry-absent, absent_from_lookup}
use Rattle.std.specs.Map.{lookup}
use Rattle.arrayvec.specs.ArrayString.{ArrayString}
use Rattle.tce_space.specs.SpaceEntries.{entry_number, names_of}

bytes_eq_flip : (xs ys : List ℕ) → bytes_eq xs ys ≡ bytes_eq ys xs
bytes_eq_flip = nat_list_eq_equiv.symm

prefix_len_along : {X Y : Type 0} (p : X → Bool) (q : Y → Bool) (f : X → Y) → ((x : X) → q (f x) ≡ p x) → (xs : List X) → prefix_len q (map f xs) ≡ prefix_len p xs
prefix_len_along p q f same [] = refl
prefix_len_along p q f same (x ∷ xs) = λ i. cond (same x i) (1 + prefix_len_along p q f same xs i) 0

-- tests that agree at each element find the same place
pub position_along : {X Y : Type 0} (p : X → Bool) (q : Y → Bool) (f : X → Y) → ((x : X) → q (f x) ≡ p x) → (xs : List X) → position q (map f xs) ≡ position p xs
position_along p q f same xs =
    let lens = prefix_len_along (λ x. not (p x)) (λ y. not (q y)) f (λ x. ap not (same x)) xs in
    λ i. cond (nat_lt (lens i) (length-map xs f i)) (Some (lens i)) None

-- the place of a key among the keys
pub key_number : {V : Type 0} (entries : List (ArrayString × V)) (name : ArrayString) → position (λ (k : ArrayString). pointwise nat_eq name.bytes k.bytes) (keys_of entries) ≡ entry_number entries name.bytes
key_number entries name = position_along _ _ (λ e. e.0) (λ e. bytes_eq_flip name.bytes e.0.bytes) entries

-- different keys have different names
apart : {V : Type 0} (key : ArrayString) (entries : List (ArrayString × V)) → AllByRecursion (λ (k : ArrayString). pointwise nat_eq key.bytes k.bytes ≡ false) (keys_of entries)
    → AllByRecursion (λ name. bytes_eq key.bytes name ≡ false) (names_of entries)
apart key [] all = tt
apart key (e ∷ entries) all = (all.0, apart key entries all.1)

pub distinct_names : {V : Type 0} (entries : List (ArrayString × V)) → IsDistinct (λ (j k : ArrayString). pointwise nat_eq j.bytes k.bytes) (keys_of entries) → IsDistinct bytes_eq (names_of entries)
unfolding IsDistinct
distinct_names [] d = tt
distinct_names (e ∷ entries) d = (apart e.0 entries d.0, distinct_names entries d.1)

pub none_of : {X : Type 0} (o : Option X) → is_some o ≡ false → o ≡ None
none_of None e = refl
none_of (Some x) e = cc

-- a new name goes last
pub entered : {V : Type 0} (entries : List (ArrayString × V)) (name : ArrayString) (value : V) → entry_number entries name.bytes ≡ None
    → insert_entry (λ (j k : ArrayString). pointwise nat_eq j.bytes k.bytes) entries name value ≡ entries ++ (name, value) ∷ []
entered entries name value unnamed =
    let same : ArrayString → Bool = λ k. pointwise nat_eq name.bytes k.bytes in
    let absent : lookup same entries ≡ None = none_of _ (sym (some_index same entries) ∙ ap is_some (key_number entries name ∙ unnamed)) in
    insert_entry-absent (λ (j k : ArrayString). pointwise nat_eq j.bytes k.bytes) name value entries (absent_from_lookup same entries absent)

-- a name that is longer than all is none of them
differ : (a b : List ℕ) → length a ≤ 16 → 16 < length b → bytes_eq a b ≡ false
differ a b short long =
    elim (cases_Bool (bytes_eq a b)) [
      | inl t ↦ absurd (omega (arith, ap length ((bytes_eq-Decides a b).0 t)))
      | inr f ↦ f
    ]

all_passed : {V : Type 0} (entries : List (ArrayString × V)) (name : List ℕ) → AllByRecursion (λ n. length n ≤ 16) (names_of entries) → 16 < length name
    → prefix_len (λ (e : ArrayString × V). not (bytes_eq e.0.bytes name)) entries ≡ length entries
all_passed [] name short long = refl
all_passed {V} (e ∷ entries) name short long =
    ap (λ b. cond (not b) (1 + prefix_len (λ (e : ArrayString × V). not (bytes_eq e.0.bytes name)) entries) 0) (differ e.0.bytes name short.0 long)
    ∙ omega (arith, all_passed entries name short.1 long)

pub too_long : {V : Type 0} (entries : List (ArrayString × V)) (name : List ℕ) → All (λ n. length n ≤ 16) (names_of entries) → 16 < length name → entry_number entries name ≡ None
too_long {V} entries name short long =
    let all : prefix_len (λ (e : ArrayString × V). not (bytes_eq e.0.bytes name)) entries ≡ length entries =
    all_passed entries name (recursion_from_All (λ n. length n ≤ 16) (names_of entries) short) long in
    ap (λ n. cond (nat_lt n (length entries)) (Some n) None) all ∙ ap (λ b. cond b (Some (length entries)) None) (not_below (length entries))
  where
    not_below : (n : ℕ) → nat_lt n n ≡ false
    not_below n = grind (arith, nat_tests)

-- what an entry with this value shows
pub shown_at : {V W X : Type 0} (shows : ArrayString × V → W) (part : W → X) (part_of : V → X) → ((e : ArrayString × V) → part (shows e) ≡ part_of e.1)
    → (entries : List (ArrayString × V)) (i : ℕ) (value : V) (d : W) → slice_get (values_of entries) i ≡ Some value → part_of value ≡ part (get_or (map shows entries) i d)
shown_at shows part part_of same [] i value d e = cc
shown_at shows part part_of same (x ∷ entries) zero value d e =
    let first : x.1 ≡ value = cc in
    ap part_of (sym first) ∙ sym (same x)
shown_at shows part part_of same (x ∷ entries) (suc i) value d e = shown_at shows part part_of same entries i value d e

pub name_shown_at : {V W : Type 0} (shows : ArrayString × V → W) (name : W → List ℕ) → ((e : ArrayString × V) → name (shows e) ≡ e.0.bytes)
    → (entries : List (ArrayString × V)) (i : ℕ) (n : List ℕ) (d : W) → i < length entries → get_or (names_of entries) i n ≡ name (get_or (map shows entries) i d)
name_shown_at shows name same [] i n d l = absurd (omega arith)
name_shown_at shows name same (x ∷ entries) zero n d l = sym (same x)
name_shown_at shows name same (x ∷ entries) (suc i) n d l = name_shown_at shows name same entries i n d (omega arith)
