-- Lists of names, and what does not stand in them.
use Rattle.std.proofs.Common.{◌≡◌, ◌≢◌, ℕ, ◌==◌, ◌↔◌, Bool, true, false, ◌&&◌, not, List, [], ◌∷◌, ◌++◌, length, Some, None, refl, sym, ap, subst, ◌∙◌, arith, eqb-true, nat_le, get_or, append-nil}
use Rattle.std.specs.Prelude.{codes}
use Rattle.std.specs.List.{list_all, join_with_byte}
use Rattle.std.proofs.lemmas.Bool.{and_parts, and_from}
use Rattle.std.proofs.lemmas.List.Folds.{list_all-append}
use Rattle.std.proofs.lemmas.Option.{none-some, same_Some}
use Rattle.std.proofs.lemmas.Slice.Eq.{bytes_eq-Decides}
use Rattle.std.specs.Str.{bytes_eq}
use Rattle.tce_space.specs.Name.{is_name, is_word_byte, starts_with_letter, is_letter, is_keyword}
use Rattle.tce_fields.specs.Fields.{lacks, listed, AreParts, AreListed}

-- a byte that is none of a word's stands in no word
word_lacks : (c : ℕ) (word : List ℕ) → is_word_byte c ≡ false → list_all is_word_byte word ≡ true → lacks c word ≡ true
word_lacks c [] none all = refl
word_lacks c (b ∷ bs) none all =
    let both = and_parts (is_word_byte b) (list_all is_word_byte bs) all in
    and_from (not (b == c)) (lacks c bs) (by_byte (b == c) refl both.0) (word_lacks c bs none both.1)
  where
    by_byte : (d : Bool) → (b == c) ≡ d → is_word_byte b ≡ true → not (b == c) ≡ true
    by_byte false e word = rw e refl
    by_byte true e word = absurd (let no_word : false ≡ true = sym none ∙ ap is_word_byte (sym (eqb-true b c e)) ∙ word in cc)

pub name_parts : (name : List ℕ) → is_name name ≡ true → (starts_with_letter name ≡ true) × (list_all is_word_byte name ≡ true)
unfolding is_name
name_parts name is =
    let three = and_parts (starts_with_letter name && nat_le (length name) 16 && list_all is_word_byte name) (not (is_keyword name)) is in
    let two = and_parts (starts_with_letter name && nat_le (length name) 16) (list_all is_word_byte name) three.0 in
    ((and_parts (starts_with_letter name) (nat_le (length name) 16) two.0).0, two.1)

pub name_lacks : (c : ℕ) (name : List ℕ) → is_word_byte c ≡ false → is_name name ≡ true → lacks c name ≡ true
name_lacks c name none is = word_lacks c name none (name_parts name is).1

pub names_lack : (c : ℕ) (names : List (List ℕ)) → is_word_byte c ≡ false → list_all is_name names ≡ true → list_all (lacks c) names ≡ true
names_lack c [] none all = refl
names_lack c (name ∷ names) none all =
    let both = and_parts (is_name name) (list_all is_name names) all in
    and_from (lacks c name) (list_all (lacks c) names) (name_lacks c name none both.0) (names_lack c names none both.1)

-- what lacks in the parts and is not the separator lacks in the text
pub joined_lacks : (c separator : ℕ) (parts : List (List ℕ)) → (separator == c) ≡ false → list_all (lacks c) parts ≡ true → lacks c (join_with_byte separator parts) ≡ true
joined_lacks c separator [] differs all = refl
joined_lacks c separator (x ∷ []) differs all = (and_parts (lacks c x) true all).0
joined_lacks c separator (x ∷ y ∷ parts) differs all =
    let both = and_parts (lacks c x) (list_all (lacks c) (y ∷ parts)) all in
    list_all-append (λ b. not (b == c)) x (separator ∷ join_with_byte separator (y ∷ parts))
    ∙ and_from (lacks c x) (lacks c (separator ∷ join_with_byte separator (y ∷ parts))) both.0
    (rw differs (joined_lacks c separator (y ∷ parts) differs both.1))

-- no space stands in a list of names
pub listed_lacks : (names : List (List ℕ)) → list_all is_name names ≡ true → lacks 32 (listed names) ≡ true
listed_lacks [] all = refl
listed_lacks (name ∷ names) all = joined_lacks 32 44 (name ∷ names) refl (names_lack 32 (name ∷ names) refl all)

-- a list with a name is not `-`
starts_apart : (rest : List ℕ) (name : List ℕ) → starts_with_letter name ≡ true → name ++ rest ≢ codes "-"
starts_apart rest [] letter = cc
starts_apart rest (b ∷ bs) letter = λ e.
    let same : b ≡ 45 = ap (λ text. get_or text 0 0) e in
    let no_letter : is_letter 45 ≡ true = ap is_letter (sym same) ∙ letter in
    absurd (let wrong : false ≡ true = no_letter in cc)

pub only_none : (names : List (List ℕ)) → list_all is_name names ≡ true → listed names ≡ codes "-" → names ≡ []
only_none [] all is = refl
only_none (name ∷ []) all is = absurd (starts_apart [] name (name_parts name (and_parts (is_name name) true all).0).0 (append-nil name ∙ is))
only_none (name ∷ other ∷ names) all is =
    absurd (starts_apart (44 ∷ join_with_byte 44 (other ∷ names)) name (name_parts name (and_parts (is_name name) (list_all is_name (other ∷ names)) all).0).0 is)

pub none_listed : (limit : ℕ) (text : List ℕ) → text ≡ codes "-" → (value : List (List ℕ)) → (Some [] ≡ Some value) ↔ AreListed limit text value
none_listed limit text is value = (
  (λ e. subst (AreListed limit text) (same_Some [] value e) (record { few = omega arith; named = refl; text_is = is })),
  (λ are. ap (λ ns. Some ns) (sym (only_none value are.named (sym are.text_is ∙ is)))),
)

-- names with commas between them are the parts
parts_of_names : (limit : ℕ) (text : List ℕ) (names : List (List ℕ)) → text ≢ codes "-" → AreListed limit text names → AreParts 44 limit text names
parts_of_names limit text [] some are = absurd (some are.text_is)
parts_of_names limit text (name ∷ names) some are = record { some = λ e. cc; few = are.few; apart = names_lack 44 (name ∷ names) refl are.named; text_is = are.text_is }

names_of_parts : (limit : ℕ) (text : List ℕ) (parts : List (List ℕ)) → AreParts 44 limit text parts → list_all is_name parts ≡ true → AreListed limit text parts
names_of_parts limit text [] are all = absurd (are.some refl)
names_of_parts limit text (part ∷ parts) are all = record { few = are.few; named = all; text_is = are.text_is }

pub names_listed : (limit : ℕ) (text : List ℕ) (found : List (List ℕ)) → text ≢ codes "-" → ((value : List (List ℕ)) → (Some found ≡ Some value) ↔ AreParts 44 limit text value)
    → list_all is_name found ≡ true → (value : List (List ℕ)) → (Some found ≡ Some value) ↔ AreListed limit text value
names_listed limit text found some split all value = (
  (λ e. subst (AreListed limit text) (same_Some found value e) (names_of_parts limit text found ((split found).0 refl) all)),
  (λ are. (split value).1 (parts_of_names limit text value some are)),
)

pub no_parts : (limit : ℕ) (text : List ℕ) → text ≢ codes "-" → ((value : List (List ℕ)) → (None ≡ Some value) ↔ AreParts 44 limit text value)
    → (value : List (List ℕ)) → (None ≡ Some value) ↔ AreListed limit text value
no_parts limit text some split value =
    ((λ e. absurd (none-some value e)), (λ are. (split value).1 (parts_of_names limit text value some are)))

pub no_names : (limit : ℕ) (text : List ℕ) (found : List (List ℕ)) → text ≢ codes "-" → ((value : List (List ℕ)) → (Some found ≡ Some value) ↔ AreParts 44 limit text value)
    → list_all is_name found ≡ false → (value : List (List ℕ)) → (None ≡ Some value) ↔ AreListed limit text value
no_names limit text found some split other value = (
  (λ e. absurd (none-some value e)),
  (λ are.
      let same = same_Some found value ((split value).1 (parts_of_names limit text value some are)) in
      let e : false ≡ true = sym other ∙ ap (list_all is_name) same ∙ are.named in
      cc),
)

pub other_bytes : (xs ys : List ℕ) → bytes_eq xs ys ≡ false → xs ≢ ys
other_bytes xs ys e = λ same. let wrong : false ≡ true = sym e ∙ (bytes_eq-Decides xs ys).1 same in cc
