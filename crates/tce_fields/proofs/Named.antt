-- Declared indexes and their names.
use Rattle.std.proofs.Common.{◌≡◌, ◌≢◌, ℕ, zero, suc, ◌+◌, ◌<◌, ◌≤◌, ◌↔◌, true, false, List, [], ◌∷◌, length, get_or, map, length-append, ◌++◌, ◌⊎◌, cond, Option, Some, None, refl, sym, ap, subst, ◌∙◌, inl, inr, arith, nat_lt}
use Rattle.std.specs.Prelude.{IsUtf8}
use Rattle.std.specs.Borrow.{Bor}
use Rattle.std.specs.List.{list_all, position_or_len}
use Rattle.std.specs.Str.{bytes_eq, IsAscii}
use Rattle.std.proofs.lemmas.Bool.{and_parts, lt-ltb, false_from_ne_true, cases_lt}
use Rattle.std.proofs.lemmas.Grind.{same_number_lists}
use Rattle.std.proofs.lemmas.List.{get_or-map, length-map, ext_get_or}
use Rattle.std.proofs.lemmas.List.Quantifiers.{position-Some}
use Rattle.std.proofs.lemmas.List.Sums.{position_or_len_is}
use Rattle.std.proofs.lemmas.Map.Made.{AllPairs-from_IsDistinct}
use Rattle.std.proofs.lemmas.Option.{none-some, same_Some}
use Rattle.std.proofs.lemmas.Slice.Eq.{bytes_eq-Decides}
use Rattle.std.proofs.lemmas.Str.{IsUtf8-from_ascii}
use Rattle.tce_space.specs.IndexSet.{IsIndexSet, members, set_of}
use Rattle.tce_space.specs.Name.{is_name, is_word_byte}
use Rattle.tce_space.specs.Space.{Index, IndexSpace, IsSpace, index_number, index_at, no_index}
use Rattle.tce_fields.specs.Names.{IsNamed, AreNamed, IsSetNamed, names_of}
use Rattle.tce_fields.specs.Reading.{texts}
use lib.ListN.{get_or-append}
use Rattle.std.proofs.Math.Seq.{get_or-append_seam}
use Rattle.std.proofs.lemmas.List.{get_or_default}
use Rattle.tce_space.proofs.IndexSetLaws.{set_of_lt}
use Rattle.tce_space.proofs.Members.{set_of_members}
use Rattle.tce_space.proofs.Names.{word_byte_below, same_bytes}
use Rattle.tce_fields.proofs.Listing.{name_parts}

word_ascii : (w : List ℕ) → list_all is_word_byte w ≡ true → IsAscii w
word_ascii [] is i = omega arith
word_ascii (b ∷ bs) is zero = word_byte_below b (and_parts (is_word_byte b) (list_all is_word_byte bs) is).0
word_ascii (b ∷ bs) is (suc i) = word_ascii bs (and_parts (is_word_byte b) (list_all is_word_byte bs) is).1 i

pub name_utf8 : (name : List ℕ) → is_name name ≡ true → IsUtf8 name
name_utf8 name is = IsUtf8-from_ascii name (word_ascii name (name_parts name is).1)

-- different indexes have different names
names_apart : (space : IndexSpace) (i j : ℕ) → IsSpace space → i < j → j < length space.indexes → (index_at space i).name ≢ (index_at space j).name
names_apart space i j is less inside = λ same.
    AllPairs-from_IsDistinct bytes_eq-Decides (map (λ (x : Index). x.name) space.indexes) is.index_names i j [] less (omega (arith, inside, length-map space.indexes (λ (x : Index). x.name)))
    (get_or-map (λ (x : Index). x.name) space.indexes i no_index [] (omega arith) ∙ same ∙ sym (get_or-map (λ (x : Index). x.name) space.indexes j no_index [] inside))

-- the first index with a name is the one with it
pub index_found : (space : IndexSpace) (name text : List ℕ) (answer : Option ℕ) → IsSpace space → text ≡ name → answer ≡ index_number space text
    → (value : ℕ) → (answer ≡ Some value) ↔ IsNamed space name value
index_found space name text answer is same gives value = (
  (λ e.
      let found = position-Some (λ (x : Index). bytes_eq x.name text) space.indexes value no_index (sym gives ∙ e) in
      record { declared = found.0; name_is = same_bytes _ text found.1 ∙ same }),
  (λ named.
      let place : position_or_len (λ (x : Index). bytes_eq x.name text) space.indexes ≡ value =
      position_or_len_is (λ (x : Index). bytes_eq x.name text) space.indexes value no_index (omega (arith, named.declared))
      (λ k l. differs (index_at space k).name text (λ e. names_apart space k value is l named.declared (e ∙ same ∙ sym named.name_is)))
      (λ l. (bytes_eq-Decides (index_at space value).name text).1 (named.name_is ∙ sym same)) in
      gives ∙ at_place (position_or_len (λ (x : Index). bytes_eq x.name text) space.indexes) (length space.indexes) value place named.declared),
)
  where
    at_place : (p n v : ℕ) → p ≡ v → v < n → cond (nat_lt p n) (Some p) None ≡ Some v
    at_place p n v e l = rw (e, lt-ltb v n l) refl

    differs : (xs ys : List ℕ) → xs ≢ ys → bytes_eq xs ys ≡ false
    differs xs ys ne = false_from_ne_true (bytes_eq xs ys) (λ e. ne (same_bytes xs ys e))

-- what is read past the end of a list of texts
abbrev pub no_text : Bor (List ℕ)
no_text = record { ref_ptr = (0, 0); now = [] }

-- the indexes of the names up to one of them
pub record AreFound (space : IndexSpace) (names : List (Bor (List ℕ))) (k : ℕ) (indexes : List ℕ) : Type 0 where
  pub count : length indexes ≡ k
  pub each : (i : ℕ) → i < k → (value : ℕ) → (Some (get_or indexes i 0) ≡ Some value) ↔ IsNamed space (get_or names i no_text).now value

abbrev pub ExactAt : IndexSpace → List (Bor (List ℕ)) → ℕ → ℕ → Type 0
ExactAt space names k index = (value : ℕ) → (Some index ≡ Some value) ↔ IsNamed space (get_or names k no_text).now value

pub found_more : (space : IndexSpace) (names : List (Bor (List ℕ))) (k : ℕ) (indexes new : List ℕ) (index : ℕ) → AreFound space names k indexes
    → ((value : ℕ) → (Some index ≡ Some value) ↔ IsNamed space (get_or names k no_text).now value) → new ≡ indexes ++ index ∷ [] → AreFound space names (k + 1) new
found_more space names k indexes new index found exact is = record {
  count = ap length is ∙ length-append indexes (index ∷ []) ∙ ap (λ n. n + 1) found.count;
  each = λ i l. by_place i (cases_lt i k) l;
}
  where
    by_place : (i : ℕ) → (i < k) ⊎ (k ≤ i) → i < k + 1 → ExactAt space names i (get_or new i 0)
    by_place i (inl before) l =
        subst (ExactAt space names i) (sym (get_or-append indexes (index ∷ []) 0 i (omega (arith, before, found.count))) ∙ ap (λ xs. get_or xs i 0) (sym is)) (found.each i before)
    by_place i (inr past) l =
        let last : k ≡ i = omega (arith, past, l) in
        let here : get_or new i 0 ≡ index =
        ap (λ n. get_or new n 0) (sym last ∙ sym found.count) ∙ ap (λ xs. get_or xs (length indexes) 0) is ∙ get_or-append_seam indexes index [] 0 in
        subst (ExactAt space names i) (sym here) (subst (λ n. ExactAt space names n index) last exact)

-- names of indexes, one by one
long_as : (space : IndexSpace) (names : List (Bor (List ℕ))) (indexes : List ℕ) → AreNamed space (texts names) indexes → length indexes ≡ length names
long_as space names indexes are =
    sym (length-map indexes (λ i. (index_at space i).name)) ∙ ap length (sym are.names_are) ∙ length-map names (λ (b : Bor (List ℕ)). b.now)

named_at : (space : IndexSpace) (names : List (Bor (List ℕ))) (indexes : List ℕ) (k : ℕ) → AreNamed space (texts names) indexes → k < length names
    → IsNamed space (get_or names k no_text).now (get_or indexes k 0)
named_at space names indexes k are l =
    let long = long_as space names indexes are in
    record {
      declared = are.declared k 0 (omega (arith, long, l));
      name_is =
          sym (get_or-map (λ i. (index_at space i).name) indexes k 0 [] (omega (arith, long, l)))
          ∙ ap (λ ns. get_or ns k []) (sym are.names_are)
          ∙ get_or-map (λ (b : Bor (List ℕ)). b.now) names k no_text [] l;
    }

found_named : (space : IndexSpace) (names : List (Bor (List ℕ))) (indexes : List ℕ) → AreFound space names (length names) indexes → AreNamed space (texts names) indexes
found_named space names indexes found = record {
  declared = λ k d l. subst (λ i. i < length space.indexes) (get_or_default indexes k 0 d l) ((found.each k (omega (arith, l, found.count)) (get_or indexes k 0)).0 refl).declared;
  names_are =
      ext_get_or [] (texts names) (names_of space indexes)
      (length-map names (λ (b : Bor (List ℕ)). b.now) ∙ sym found.count ∙ sym (length-map indexes (λ i. (index_at space i).name)))
      (λ k l.
      let inside : k < length names = omega (arith, l, length-map names (λ (b : Bor (List ℕ)). b.now)) in
      get_or-map (λ (b : Bor (List ℕ)). b.now) names k no_text [] inside
      ∙ sym ((found.each k inside (get_or indexes k 0)).0 refl).name_is
      ∙ sym (get_or-map (λ i. (index_at space i).name) indexes k 0 [] (omega (arith, inside, found.count))));
}

pub all_found : (space : IndexSpace) (names : List (Bor (List ℕ))) (indexes : List ℕ) → AreFound space names (length names) indexes
    → (value : List ℕ) → (Some indexes ≡ Some value) ↔ AreNamed space (texts names) value
all_found space names indexes found value = (
  (λ e. subst (AreNamed space (texts names)) (same_Some indexes value e) (found_named space names indexes found)),
  (λ are. ap (λ is. Some is)
      (same_number_lists indexes value (found.count ∙ sym (long_as space names value are))
      (λ i l. same_Some _ _ ((found.each i (omega (arith, l, found.count)) (get_or value i 0)).1 (named_at space names value i are (omega (arith, l, found.count))))))),
)

pub one_unnamed : (space : IndexSpace) (names : List (Bor (List ℕ))) (k : ℕ) → k < length names
    → ((value : ℕ) → (None ≡ Some value) ↔ IsNamed space (get_or names k no_text).now value) → (value : List ℕ) → (None ≡ Some value) ↔ AreNamed space (texts names) value
one_unnamed space names k inside exact value = (
  (λ e. absurd (none-some value e)),
  (λ are. absurd (none-some (get_or value k 0) ((exact (get_or value k 0)).1 (named_at space names value k are inside)))),
)

-- each of the names is one
pub name_each : (names : List (Bor (List ℕ))) (k : ℕ) → k < length names → list_all is_name (texts names) ≡ true → is_name (get_or names k no_text).now ≡ true
name_each [] k l all = absurd (omega arith)
name_each (name ∷ names) zero l all = (and_parts (is_name name.now) (list_all is_name (texts names)) all).0
name_each (name ∷ names) (suc k) l all = name_each names k (omega arith) (and_parts (is_name name.now) (list_all is_name (texts names)) all).1

pub set_found : (space : IndexSpace) (names : List (List ℕ)) (indexes : List ℕ) (set : ℕ) → set ≡ set_of indexes → members set ≡ indexes
    → ((value : List ℕ) → (Some indexes ≡ Some value) ↔ AreNamed space names value) → (value : ℕ) → (Some set ≡ Some value) ↔ IsSetNamed space names value
set_found space names indexes set is same exact value = (
  (λ e. subst (IsSetNamed space names) (same_Some set value e)
      (record { is_set = subst IsIndexSet (sym is) (set_of_lt indexes); named = subst (AreNamed space names) (sym same) ((exact indexes).0 refl) })),
  (λ named. ap (λ s. Some s) (is ∙ ap set_of (same_Some indexes (members value) ((exact (members value)).1 named.named)) ∙ set_of_members value named.is_set)),
)

pub out_of_order : (space : IndexSpace) (names : List (List ℕ)) (indexes : List ℕ) → (members (set_of indexes) ≡ indexes → ⊥)
    → ((value : List ℕ) → (Some indexes ≡ Some value) ↔ AreNamed space names value) → (value : ℕ) → (None ≡ Some value) ↔ IsSetNamed space names value
out_of_order space names indexes other exact value = (
  (λ e. absurd (none-some value e)),
  (λ named.
      let same : indexes ≡ members value = same_Some indexes (members value) ((exact (members value)).1 named.named) in
      absurd (other (ap (λ is. members (set_of is)) same ∙ ap members (set_of_members value named.is_set) ∙ sym same))),
)
