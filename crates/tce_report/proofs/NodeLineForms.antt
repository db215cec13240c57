-- Node lines by their fields.
use Rattle.std.proofs.Common.{◌≡◌, ◌≢◌, ℕ, ◌<◌, ◌≤◌, ◌↔◌, true, List, [], ◌∷◌, ◌++◌, length, get_or, drop, codes, Option, Some, None, refl, sym, ap, ap₂, subst, ◌∙◌, append_assoc, arith}
use Rattle.std.specs.Borrow.{Bor}
use Rattle.std.specs.Fmt.{decimal}
use Rattle.std.specs.List.{list_all, join_with_byte}
use Rattle.std.proofs.lemmas.List.{length-map}
use Rattle.std.proofs.lemmas.Option.{none-some, same_Some}
use Rattle.tce_fields.specs.Fields.{lacks, listed, AreParts, AreListed, IsNumber}
use Rattle.tce_fields.specs.Reading.{texts}
use Rattle.tce_fields.proofs.Decimals.{decimal_lacks}
use Rattle.tce_fields.proofs.Listing.{listed_lacks}
use Rattle.tce_fields.proofs.Named.{no_text}
use Rattle.tce_tree.specs.declared.node.Kind.{Kind}
use Rattle.tce_tree.specs.declared.node.Kind.TheVariants.{Product, Sum, Add, Sub}
use Rattle.tce_report.specs.Fields.{array_fields, form_fields}
use Rattle.tce_report.specs.NodeForm.{Form, ArrayForm, IsArrayForm, IsForm, array_text, form_text}
use Rattle.tce_report.specs.NodeLine.{kind_word, loops_written}

-- the fields one by one
abbrev pub field : List (Bor (List ℕ)) → ℕ → List ℕ
field fs k = (get_or fs k no_text).now

one_field : (fs : List (Bor (List ℕ))) → 1 ≤ length fs → length fs < 2 → texts fs ≡ field fs 0 ∷ []
one_field [] some few = absurd (omega arith)
one_field (f ∷ []) some few = refl
one_field (f ∷ g ∷ fs) some few = absurd (omega arith)

four_fields : (fs : List (Bor (List ℕ))) → 4 ≤ length fs → length fs < 5 → texts fs ≡ field fs 0 ∷ field fs 1 ∷ field fs 2 ∷ field fs 3 ∷ []
four_fields [] some few = absurd (omega arith)
four_fields (a ∷ []) some few = absurd (omega arith)
four_fields (a ∷ b ∷ []) some few = absurd (omega arith)
four_fields (a ∷ b ∷ c ∷ []) some few = absurd (omega arith)
four_fields (a ∷ b ∷ c ∷ d ∷ []) some few = refl
four_fields (a ∷ b ∷ c ∷ d ∷ e ∷ fs) some few = absurd (omega arith)

five_fields : (fs : List (Bor (List ℕ))) → 5 ≤ length fs → texts fs ≡ field fs 0 ∷ field fs 1 ∷ field fs 2 ∷ field fs 3 ∷ field fs 4 ∷ texts (drop 5 fs)
five_fields [] some = absurd (omega arith)
five_fields (a ∷ []) some = absurd (omega arith)
five_fields (a ∷ b ∷ []) some = absurd (omega arith)
five_fields (a ∷ b ∷ c ∷ []) some = absurd (omega arith)
five_fields (a ∷ b ∷ c ∷ d ∷ []) some = absurd (omega arith)
five_fields (a ∷ b ∷ c ∷ d ∷ e ∷ fs) some = refl

texts_long : (fs : List (Bor (List ℕ))) → length (texts fs) ≡ length fs
texts_long fs = length-map fs (λ (b : Bor (List ℕ)). b.now)

-- behind the loops
abbrev pub IsArray : List (Bor (List ℕ)) → Option ArrayForm → Type 0
IsArray fs array = IsArrayForm array × (texts fs ≡ array_fields array)

pub result_read : (fs : List (Bor (List ℕ))) → 1 ≤ length fs → length fs < 2 → field fs 0 ≡ codes "result" → (value : Option ArrayForm) → (Some None ≡ Some value) ↔ IsArray fs value
result_read fs some few word value = (
  (λ e. subst (IsArray fs) (same_Some None value e) (tt, one_field fs some few ∙ ap (λ w. w ∷ []) word)),
  (λ is. ap (λ v. Some v) (none_left value is.1)),
)
  where
    none_left : (value : Option ArrayForm) → texts fs ≡ array_fields value → None ≡ value
    none_left None same = refl
    none_left (Some array) same = absurd (omega (arith, few, texts_long fs, ap length same))

array_texts : (fs : List (Bor (List ℕ))) (array : ArrayForm) → 4 ≤ length fs → length fs < 5 → texts fs ≡ array_fields (Some array)
    → (field fs 1 ≡ listed array.fused) × (field fs 3 ≡ decimal array.size)
array_texts fs array some few same =
    let all = sym (four_fields fs some few) ∙ same in
    (ap (λ l. get_or l 1 []) all, ap (λ l. get_or l 3 []) all)

pub array_read : (fs : List (Bor (List ℕ))) (fused : List (List ℕ)) (size : ℕ) → 4 ≤ length fs → length fs < 5 → field fs 0 ≡ codes "fused" → field fs 2 ≡ codes "size"
    → ((value : List (List ℕ)) → (Some fused ≡ Some value) ↔ AreListed 24 (field fs 1) value) → ((value : ℕ) → (Some size ≡ Some value) ↔ IsNumber (field fs 3) value)
    → (value : Option ArrayForm) → (Some (Some (record { fused = fused; size = size })) ≡ Some value) ↔ IsArray fs value
array_read fs fused size some few fused_word size_word names number value = (
  (λ e. subst (IsArray fs) (same_Some _ value e) here),
  (λ is. ap (λ v. Some v) (same_array value is.0 is.1)),
)
  where
    here : IsArray fs (Some (record { fused = fused; size = size }))
    here =
        let listed_are = (names fused).0 refl in
        let number_is = (number size).0 refl in (
          (record { few = listed_are.few; named = listed_are.named }, number_is.limit),
          four_fields fs some few
              ∙ ap₂ (λ a b. a ∷ b) fused_word (ap₂ (λ a b. a ∷ b) listed_are.text_is (ap₂ (λ a b. a ∷ b ∷ []) size_word number_is.text_is)),
        )

    same_array : (value : Option ArrayForm) → IsArrayForm value → texts fs ≡ array_fields value → Some (record { fused = fused; size = size }) ≡ value
    same_array None fits same = absurd (omega (arith, some, texts_long fs, ap length same))
    same_array (Some array) fits same =
        let parts = array_texts fs array some few same in
        let is_fused : fused ≡ array.fused = same_Some fused array.fused ((names array.fused).1 (record { few = fits.0.few; named = fits.0.named; text_is = parts.0 })) in
        let is_size : size ≡ array.size = same_Some size array.size ((number array.size).1 (record { limit = fits.1; text_is = parts.1 })) in
        ap₂ (λ f s. Some (record { fused = f; size = s })) is_fused is_size

pub no_size : (fs : List (Bor (List ℕ))) → 4 ≤ length fs → length fs < 5 → ((value : ℕ) → (None ≡ Some value) ↔ IsNumber (field fs 3) value)
    → (value : Option ArrayForm) → (None ≡ Some value) ↔ IsArray fs value
no_size fs some few number value = ((λ e. absurd (none-some value e)), (λ is. absurd (not_here value is.0 is.1)))
  where
    not_here : (value : Option ArrayForm) → IsArrayForm value → texts fs ≡ array_fields value → ⊥
    not_here None fits same = omega (arith, some, texts_long fs, ap length same)
    not_here (Some array) fits same = none-some array.size ((number array.size).1 (record { limit = fits.1; text_is = (array_texts fs array some few same).1 }))

-- the whole line
abbrev pub IsLine : List (Bor (List ℕ)) → Form → Type 0
IsLine fs form = IsForm form × (texts fs ≡ form_fields form)

record LineParts (fs : List (Bor (List ℕ))) (value : Form) : Type 0 where
  node_word : field fs 0 ≡ codes "node"
  number : IsNumber (field fs 1) value.node
  kind : field fs 2 ≡ kind_word value.kind
  loops_word : field fs 3 ≡ codes "loops"
  order : AreListed 10 (field fs 4) value.order
  array : IsArray (drop 5 fs) value.array

line_parts : (fs : List (Bor (List ℕ))) (value : Form) → 5 ≤ length fs → IsLine fs value → LineParts fs value
line_parts fs value some is =
    let all = sym (five_fields fs some) ∙ is.1 in record {
      node_word = ap (λ l. get_or l 0 []) all;
      number = record { limit = is.0.node; text_is = ap (λ l. get_or l 1 []) all };
      kind = ap (λ l. get_or l 2 []) all;
      loops_word = ap (λ l. get_or l 3 []) all;
      order = record { few = is.0.order.few; named = is.0.order.named; text_is = ap (λ l. get_or l 4 []) all };
      array = (is.0.array, ap (drop 5) all);
    }

pub line_read : (fs rest : List (Bor (List ℕ))) (node : ℕ) (kind : Kind) (order : List (List ℕ)) (array : Option ArrayForm) → 5 ≤ length fs → rest ≡ drop 5 fs → field fs 0 ≡ codes "node" → field fs 3 ≡ codes "loops"
    → ((value : ℕ) → (Some node ≡ Some value) ↔ IsNumber (field fs 1) value) → ((value : Kind) → (Some kind ≡ Some value) ↔ (field fs 2 ≡ kind_word value))
    → ((value : List (List ℕ)) → (Some order ≡ Some value) ↔ AreListed 10 (field fs 4) value) → ((value : Option ArrayForm) → (Some array ≡ Some value) ↔ IsArray rest value)
    → (value : Form) → (Some (record { node = node; kind = kind; order = order; array = array }) ≡ Some value) ↔ IsLine fs value
line_read fs rest node kind order array some behind node_word loops_word number word names ends value = (
  (λ e. subst (IsLine fs) (same_Some _ value e) here),
  (λ is. ap (λ v. Some v) (same_form (line_parts fs value some is))),
)
  where
    here : IsLine fs (record { node = node; kind = kind; order = order; array = array })
    here =
        let number_is = (number node).0 refl in
        let listed_are = (names order).0 refl in
        let array_is = (ends array).0 refl in (
          record { node = number_is.limit; order = record { few = listed_are.few; named = listed_are.named }; array = array_is.0 },
          five_fields fs some
              ∙ ap₂ (λ a b. a ∷ b) node_word (ap₂ (λ a b. a ∷ b) number_is.text_is (ap₂ (λ a b. a ∷ b) ((word kind).0 refl)
              (ap₂ (λ a b. a ∷ b) loops_word (ap₂ (λ a b. a ∷ b) listed_are.text_is (ap texts (sym behind) ∙ array_is.1))))),
        )

    same_form : LineParts fs value → record { node = node; kind = kind; order = order; array = array } ≡ value
    same_form parts =
        let is_node : node ≡ value.node = same_Some node value.node ((number value.node).1 parts.number) in
        let is_kind : kind ≡ value.kind = same_Some kind value.kind ((word value.kind).1 parts.kind) in
        let is_order : order ≡ value.order = same_Some order value.order ((names value.order).1 parts.order) in
        let is_array : array ≡ value.array = same_Some array value.array ((ends value.array).1 (subst (λ fields. IsArray fields value.array) (sym behind) parts.array)) in
        λ i. record { node = is_node i; kind = is_kind i; order = is_order i; array = is_array i }

-- a line that lacks a part is none
no_line : (fs : List (Bor (List ℕ))) → ((value : Form) → IsLine fs value → ⊥) → (value : Form) → (None ≡ Some value) ↔ IsLine fs value
no_line fs none value = ((λ e. absurd (none-some value e)), (λ is. absurd (none value is)))

missing : {A : Type 0} (Holds : A → Type 0) (x : A) → ((value : A) → (None ≡ Some value) ↔ Holds value) → Holds x → ⊥
missing Holds x none holds = none-some x ((none x).1 holds)

pub too_few : (fs : List (Bor (List ℕ))) → length fs < 5 → (value : Form) → (None ≡ Some value) ↔ IsLine fs value
too_few fs few = no_line fs (λ value is. omega (arith, few, texts_long fs, ap length is.1))

pub no_node_word : (fs : List (Bor (List ℕ))) → 5 ≤ length fs → field fs 0 ≢ codes "node" → (value : Form) → (None ≡ Some value) ↔ IsLine fs value
no_node_word fs some other = no_line fs (λ value is. other (line_parts fs value some is).node_word)

pub no_loops_word : (fs : List (Bor (List ℕ))) → 5 ≤ length fs → field fs 3 ≢ codes "loops" → (value : Form) → (None ≡ Some value) ↔ IsLine fs value
no_loops_word fs some other = no_line fs (λ value is. other (line_parts fs value some is).loops_word)

pub no_number : (fs : List (Bor (List ℕ))) → 5 ≤ length fs → ((value : ℕ) → (None ≡ Some value) ↔ IsNumber (field fs 1) value) → (value : Form) → (None ≡ Some value) ↔ IsLine fs value
no_number fs some none = no_line fs (λ value is. missing (IsNumber (field fs 1)) value.node none (line_parts fs value some is).number)

pub no_kind : (fs : List (Bor (List ℕ))) → 5 ≤ length fs → ((value : Kind) → (None ≡ Some value) ↔ (field fs 2 ≡ kind_word value)) → (value : Form) → (None ≡ Some value) ↔ IsLine fs value
no_kind fs some none = no_line fs (λ value is. missing (λ kind. field fs 2 ≡ kind_word kind) value.kind none (line_parts fs value some is).kind)

pub no_order : (fs : List (Bor (List ℕ))) → 5 ≤ length fs → ((value : List (List ℕ)) → (None ≡ Some value) ↔ AreListed 10 (field fs 4) value) → (value : Form) → (None ≡ Some value) ↔ IsLine fs value
no_order fs some none = no_line fs (λ value is. missing (AreListed 10 (field fs 4)) value.order none (line_parts fs value some is).order)

pub no_array : (fs rest : List (Bor (List ℕ))) → 5 ≤ length fs → rest ≡ drop 5 fs → ((value : Option ArrayForm) → (None ≡ Some value) ↔ IsArray rest value)
    → (value : Form) → (None ≡ Some value) ↔ IsLine fs value
no_array fs rest some behind none =
    no_line fs (λ value is. missing (IsArray rest) value.array none (subst (λ fields. IsArray fields value.array) (sym behind) (line_parts fs value some is).array))

-- the text of a form is its fields with a space between each two
behind_six : (a b c d e f g : List ℕ) → (a ++ (b ++ (c ++ (d ++ (e ++ f))))) ++ g ≡ a ++ (b ++ (c ++ (d ++ (e ++ (f ++ g)))))
behind_six a b c d e f g =
    append_assoc a (b ++ (c ++ (d ++ (e ++ f)))) g
    ∙ ap (λ t. a ++ t) (append_assoc b (c ++ (d ++ (e ++ f))) g ∙ ap (λ t. b ++ t) (append_assoc c (d ++ (e ++ f)) g
    ∙ ap (λ t. c ++ t) (append_assoc d (e ++ f) g ∙ ap (λ t. d ++ t) (append_assoc e f g))))

form_joined : (form : Form) → form_text form ≡ join_with_byte 32 (form_fields form)
unfolding loops_written
form_joined form =
    behind_six (codes "node ") (decimal form.node) (codes " ") (kind_word form.kind) (codes " loops ") (listed form.order) (array_text form.array)
    ∙ by_array form.node form.kind form.order form.array
  where
    by_array : (node : ℕ) (kind : Kind) (order : List (List ℕ)) (array : Option ArrayForm)
        → codes "node " ++ (decimal node ++ (codes " " ++ (kind_word kind ++ (codes " loops " ++ (listed order ++ array_text array)))))
        ≡ join_with_byte 32 (form_fields (record { node = node; kind = kind; order = order; array = array }))
    by_array node kind order None = refl
    by_array node kind order (Some array) = refl

kind_lacks : (kind : Kind) → lacks 32 (kind_word kind) ≡ true
kind_lacks Product = refl
kind_lacks Sum = refl
kind_lacks Add = refl
kind_lacks Sub = refl

array_apart : (array : Option ArrayForm) → IsArrayForm array → list_all (lacks 32) (array_fields array) ≡ true
array_apart None fits = refl
array_apart (Some array) fits = rw (listed_lacks array.fused fits.0.named, decimal_lacks 32 array.size (omega arith) fits.1) refl

array_few : (array : Option ArrayForm) → length (array_fields array) ≤ 4
array_few None = omega arith
array_few (Some array) = omega arith

pub form_parts : (form : Form) (line : List ℕ) → IsForm form → line ≡ form_text form → AreParts 32 9 line (form_fields form)
form_parts form line fits same = record {
  some = λ e. cc;
  few = omega (arith, array_few form.array);
  apart = rw (decimal_lacks 32 form.node (omega arith) fits.node, kind_lacks form.kind, listed_lacks form.order fits.order.named) (array_apart form.array fits.array);
  text_is = same ∙ form_joined form;
}

pub form_read : (line : List ℕ) (fields : List (Bor (List ℕ))) (answer : Option Form) → ((value : List (List ℕ)) → (Some (texts fields) ≡ Some value) ↔ AreParts 32 9 line value)
    → ((value : Form) → (answer ≡ Some value) ↔ IsLine fields value) → (value : Form) → (answer ≡ Some value) ↔ (IsForm value × (line ≡ form_text value))
form_read line fields answer split read value = (
  (λ e.
      let is = (read value).0 e in
      (is.0, ((split (texts fields)).0 refl).text_is ∙ ap (join_with_byte 32) is.1 ∙ sym (form_joined value))),
  (λ is. (read value).1 (is.0, same_Some (texts fields) (form_fields value) ((split (form_fields value)).1 (form_parts value line is.0 is.1)))),
)

pub too_many_fields : (line : List ℕ) → ((value : List (List ℕ)) → (None ≡ Some value) ↔ AreParts 32 9 line value) → (value : Form) → (None ≡ Some value) ↔ (IsForm value × (line ≡ form_text value))
too_many_fields line split value =
    ((λ e. absurd (none-some value e)), (λ is. absurd (none-some (form_fields value) ((split (form_fields value)).1 (form_parts value line is.0 is.1)))))
