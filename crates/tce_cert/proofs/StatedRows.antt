-- What the texts of classes and rows state.
use Rattle.std.proofs.Common.{◌≡◌, ℕ, zero, suc, ◌+◌, ◌<◌, ◌^◌, true, false, Bool, ◌||◌, IsTrue, List, [], ◌∷◌, ◌++◌, codes, length, map, get_or, take, Option, Some, None, refl, ap, ap₂, sym, ◌∙◌, subst, arith, inl, inr}
use Rattle.std.specs.List.{All, Contains, list_all, join_with_byte}
use Rattle.std.proofs.lemmas.Bool.{cases_Bool, and_from as both, or_from}
use Rattle.std.proofs.lemmas.List.{length-map, get_or-map, map-append, take_more, take_all}
use Rattle.std.proofs.lemmas.List.Elements.{All-append}
use Rattle.std.proofs.lemmas.Option.{none-some, same_Some}
use Rattle.tce_space.specs.IndexSet.{IsIndexSet, has, members}
use Rattle.tce_space.specs.Name.{is_name}
use Rattle.tce_space.specs.Space.{IndexSpace, IsSpace, IsDeclared}
use Rattle.tce_space.proofs.Members.{sets_are_their_members}
use Rattle.tce_fields.specs.Fields.{AreParts, lacks, listed}
use Rattle.tce_fields.specs.Names.{names_of}
use Rattle.std.specs.Borrow.{Bor}
use Rattle.std.specs.Fmt.{decimal}
use Rattle.std.specs.Str.Parse.{digits_value}
use Rattle.std.proofs.lemmas.Fmt.{decimal_is_IsNumeral_wide}
use Rattle.tce_fields.specs.Reading.{GivesExactly, texts}
use Rattle.tce_fields.proofs.Named.{no_text}
use Rattle.tce_fusion.specs.Row.{Row}
use Rattle.tce_fields.proofs.Listing.{names_lack, joined_lacks, only_none}
use Rattle.tce_fields.proofs.Splitting.{split_joined, parts_at}
use Rattle.tce_fusion.specs.StateClasses.{IsNesting, IsInhabited, in_class}
use Rattle.tce_nesting.specs.Plan.{LiesWithin}
use Rattle.tce_report.specs.NodeLine.{set_text}
use Rattle.tce_report.proofs.Reading.{names_named}
use Rattle.tce_cert.specs.Lines.{classes_text, cost_line}
use Rattle.tce_cert.specs.Forms.{StatesCost, StatesClass, AreClasses, StatesClasses, StatesRow}
use Rattle.tce_cert.proofs.Stated.{cost_once}
use Rattle.tce_cert.proofs.StatedClass.{set_declared}
use Rattle.tce_cert.proofs.Sets.{members_declared}

in_class_at : (cs : List ℕ) (k i : ℕ) → k < length cs → has (get_or cs k 0) i ≡ true → in_class cs i ≡ true
in_class_at [] k i l h = absurd (omega arith)
in_class_at (c ∷ cs) zero i l h = ap (λ b. b || in_class cs i) h
in_class_at (c ∷ cs) (suc k) i l h = ap (λ b. has c i || b) (in_class_at cs k i (omega arith) h) ∙ or_true (has c i)
  where
    or_true : (b : Bool) → (b || true) ≡ true
    or_true true = refl
    or_true false = refl

-- each class of a nesting has members, and none of those before it has them
pub record IsClassAt (before : List ℕ) (class : ℕ) : Type 0 where
  pub is_set : IsIndexSet class
  pub inhabited : IsInhabited class
  pub apart : (i : ℕ) → IsTrue (has class i) → in_class before i ≡ false

pub class_at : (cs : List ℕ) (k : ℕ) → IsNesting cs → k < length cs → IsClassAt (take k cs) (get_or cs k 0)
class_at [] k n l = absurd (omega arith)
class_at (c ∷ cs) zero n l = record { is_set = n.0; inhabited = n.1; apart = λ i h. refl }
class_at (c ∷ cs) (suc k) n l =
    let rest = class_at cs k n.3 (omega arith) in
    record {
      is_set = rest.is_set;
      inhabited = rest.inhabited;
      apart = λ i h. or_from (has c i) (in_class (take k cs) i)
          (elim (cases_Bool (has c i)) [
            | inl t ↦ absurd (let none = n.2 i t in let some = in_class_at cs k i (omega arith) h in cc)
            | inr f ↦ f
          ])
          (rest.apart i h);
    }

-- the first classes are those of the first texts, and no others have these texts
pub record AreRead (space : IndexSpace) (dims : ℕ) (parts : List (List ℕ)) (i : ℕ) (nesting : List ℕ) : Type 0 where
  pub texts_are : take i parts ≡ map (set_text space) nesting
  pub within : All (LiesWithin dims) nesting
  pub only : (value : List ℕ) → AreClasses space dims parts value → take i value ≡ nesting

many : (space : IndexSpace) (dims : ℕ) (parts : List (List ℕ)) (value : List ℕ) → AreClasses space dims parts value → length value ≡ length parts
many space dims parts value s = sym (ap length s.texts_are ∙ length-map value (set_text space))

part_stated : (space : IndexSpace) (dims : ℕ) (parts : List (List ℕ)) (value : List ℕ) (i : ℕ) → AreClasses space dims parts value → i < length parts
    → StatesClass space dims (get_or parts i []) (get_or value i 0)
part_stated space dims parts value i s l =
    let inside : i < length value = omega (arith, many space dims parts value s) in
    let at = class_at value i s.nesting inside in
    record {
      is_set = at.is_set;
      part = record { inhabited = at.inhabited; within = s.within i 0 inside };
      text_is = ap (λ ts. get_or ts i []) s.texts_are ∙ get_or-map (set_text space) value i 0 [] inside;
    }

same_class : (space : IndexSpace) (dims : ℕ) (parts : List (List ℕ)) (i class : ℕ) (value : List ℕ) → i < length parts
    → GivesExactly (Some class) (StatesClass space dims (get_or parts i [])) → AreClasses space dims parts value → get_or value i 0 ≡ class
same_class space dims parts i class value l given s =
    sym (same_Some class (get_or value i 0) ((given (get_or value i 0)).1 (part_stated space dims parts value i s l)))

pub one_read : (space : IndexSpace) (dims : ℕ) (parts : List (List ℕ)) (i class : ℕ) (nesting : List ℕ) → AreRead space dims parts i nesting → i < length parts
    → GivesExactly (Some class) (StatesClass space dims (get_or parts i [])) → AreRead space dims parts (i + 1) (nesting ++ class ∷ [])
one_read space dims parts i class nesting read l given =
    let stated = (given class).0 refl in
    record {
      texts_are =
          take_more parts i [] l
          ∙ ap₂ (λ ts t. ts ++ t ∷ []) read.texts_are stated.text_is
          ∙ sym (map-append (set_text space) nesting (class ∷ []));
      within = All-append (LiesWithin dims) nesting (class ∷ []) read.within (alone dims class stated.part.within);
      only = λ value s.
          take_more value i 0 (omega (arith, many space dims parts value s))
          ∙ ap₂ (λ cs c. cs ++ c ∷ []) (read.only value s) (same_class space dims parts i class value l given s);
    }
  where
    alone : (dims class : ℕ) → LiesWithin dims class → All (LiesWithin dims) (class ∷ [])
    alone dims class within zero d l = within
    alone dims class within (suc k) d l = absurd (omega arith)

pub all_read : (space : IndexSpace) (dims : ℕ) (parts : List (List ℕ)) (i : ℕ) (nesting : List ℕ) → AreRead space dims parts i nesting → i ≡ length parts → IsNesting nesting
    → GivesExactly (Some nesting) (AreClasses space dims parts)
all_read space dims parts i nesting read all nests v = (
  (λ e. subst (AreClasses space dims parts) (same_Some nesting v e) (record {
    nesting = nests;
    within = read.within;
    texts_are = sym (take_all i parts (omega (arith, all))) ∙ read.texts_are;
  })),
  (λ s. ap (λ cs. Some cs) (sym (read.only v s) ∙ take_all i v (omega (arith, all, many space dims parts v s)))),
)

pub reading_stops : (space : IndexSpace) (dims : ℕ) (parts : List (List ℕ)) (i : ℕ) → i < length parts
    → GivesExactly None (StatesClass space dims (get_or parts i [])) → GivesExactly None (AreClasses space dims parts)
reading_stops space dims parts i l refused v = (
  (λ e. absurd (none-some v e)),
  (λ s. absurd (none-some (get_or v i 0) ((refused (get_or v i 0)).1 (part_stated space dims parts v i s l)))),
)

pub reading_meets : (space : IndexSpace) (dims : ℕ) (parts : List (List ℕ)) (i class : ℕ) (nesting : List ℕ) → AreRead space dims parts i nesting → i < length parts
    → GivesExactly (Some class) (StatesClass space dims (get_or parts i [])) → (((j : ℕ) → IsTrue (has class j) → in_class nesting j ≡ false) → ⊥)
    → GivesExactly None (AreClasses space dims parts)
reading_meets space dims parts i class nesting read l given met v = (
  (λ e. absurd (none-some v e)),
  (λ s. absurd (met (
      subst (λ k. (j : ℕ) → IsTrue (has k j) → in_class nesting j ≡ false) (same_class space dims parts i class v l given s)
      (subst (λ cs. (j : ℕ) → IsTrue (has (get_or v i 0) j) → in_class cs j ≡ false) (read.only v s)
      (class_at v i s.nesting (omega (arith, many space dims parts v s))).apart)))),
)

no_members : (class : ℕ) → IsIndexSet class → members class ≡ [] → (i : ℕ) → has class i ≡ false
no_members class is_set none i = elim (cases_Bool (has class i)) [
  | inl t ↦ absurd (let c : Contains [] i = subst (λ xs. Contains xs i) none ((sets_are_their_members.listed class i is_set).1 t) in omega (arith, c.1))
  | inr f ↦ f
]

-- a class has names, in which no slash stands
pub class_lacks : (space : IndexSpace) (class : ℕ) → IsSpace space → IsDeclared space class → IsIndexSet class → IsInhabited class → lacks 47 (set_text space class) ≡ true
unfolding set_text
class_lacks space class is declared is_set some = by_members (members class) refl
  where
    named : list_all is_name (names_of space (members class)) ≡ true
    named = names_named space (members class) is (members_declared space class declared)

    by_members : (xs : List ℕ) → members class ≡ xs → lacks 47 (listed (names_of space (members class))) ≡ true
    by_members [] e = absurd (some (no_members class is_set e))
    by_members (x ∷ xs) e =
        ap (λ ms. lacks 47 (listed (names_of space ms))) e
        ∙ joined_lacks 47 44 (names_of space (x ∷ xs)) refl (names_lack 47 (names_of space (x ∷ xs)) refl (sym (ap (λ ms. list_all is_name (names_of space ms)) e) ∙ named))

pub classes_apart : (space : IndexSpace) (dims : ℕ) (cs : List ℕ) → IsSpace space → IsDeclared space dims → IsNesting cs → All (LiesWithin dims) cs
    → list_all (lacks 47) (map (set_text space) cs) ≡ true
classes_apart space dims [] is declared n within = refl
classes_apart space dims (c ∷ cs) is declared n within =
    both (lacks 47 (set_text space c)) (list_all (lacks 47) (map (set_text space) cs))
    (class_lacks space c is (set_declared space dims c declared (within 0 0 (omega arith))) n.0 n.1)
    (classes_apart space dims cs is declared n.3 (λ k d l. within (suc k) d (omega arith)))

-- the texts of classes are the parts of their text
pub classes_parts : (space : IndexSpace) (dims : ℕ) (text : List ℕ) (c : ℕ) (cs : List ℕ) → IsSpace space → IsDeclared space dims → StatesClasses space dims text (c ∷ cs)
    → AreParts 47 10 text (map (set_text space) (c ∷ cs))
classes_parts space dims text c cs is declared s = record {
  some = λ e. cc;
  few = omega (arith, s.few, length-map (c ∷ cs) (set_text space));
  apart = classes_apart space dims (c ∷ cs) is declared s.nesting s.within;
  text_is = s.text_is;
}

-- a text that is borrowed is the text at its place
pub moved_part : (space : IndexSpace) (dims : ℕ) (parts : List (Bor (List ℕ))) (i : ℕ) (r : Option ℕ) → i < length parts
    → GivesExactly r (StatesClass space dims (get_or parts i no_text).now) → GivesExactly r (StatesClass space dims (get_or (texts parts) i []))
moved_part space dims parts i r l given =
    subst (λ t. GivesExactly r (StatesClass space dims t)) (sym (get_or-map (λ (b : Bor (List ℕ)). b.now) parts i no_text [] l)) given

pub text_inside : (parts : List (Bor (List ℕ))) (i : ℕ) → i < length parts → i < length (texts parts)
text_inside parts i l = omega (arith, l, length-map parts (λ (b : Bor (List ℕ)). b.now))

no_names : (space : IndexSpace) (xs : List ℕ) → names_of space xs ≡ [] → xs ≡ []
no_names space [] e = refl
no_names space (x ∷ xs) e = cc

dash_alone : (space : IndexSpace) (dims c : ℕ) → IsSpace space → IsDeclared space dims → LiesWithin dims c → codes "-" ≡ set_text space c → members c ≡ []
unfolding set_text
dash_alone space dims c is declared within e =
    let named = names_named space (members c) is (members_declared space c (set_declared space dims c declared within)) in
    no_names space (members c) (only_none (names_of space (members c)) named (sym e))

pub none_stated : (space : IndexSpace) (dims : ℕ) (text : List ℕ) → IsSpace space → IsDeclared space dims → text ≡ codes "-" → GivesExactly (Some []) (StatesClasses space dims text)
none_stated space dims text is declared dash v = (
  (λ e. subst (StatesClasses space dims text) (same_Some [] v e) (record { few = omega arith; nesting = tt; within = λ k d l. absurd (omega arith); text_is = dash })),
  (λ s. by_classes v s),
)
  where
    by_classes : (v : List ℕ) → StatesClasses space dims text v → Some [] ≡ Some v
    by_classes [] s = refl
    by_classes (c ∷ cs) s =
        let are = classes_parts space dims text c cs is declared s in
        let split : parts_at 47 text ≡ map (set_text space) (c ∷ cs) = ap (parts_at 47) are.text_is ∙ split_joined 47 (map (set_text space) (c ∷ cs)) are.some are.apart in
        let first : codes "-" ≡ set_text space c = (let both = sym (ap (parts_at 47) dash) ∙ split in cc) in
        absurd (s.nesting.1 (no_members c s.nesting.0 (dash_alone space dims c is declared (s.within 0 0 (omega arith)) first)))

pub classes_unsplit : (space : IndexSpace) (dims : ℕ) (text : List ℕ) → IsSpace space → IsDeclared space dims → (text ≡ codes "-" → ⊥) → GivesExactly None (AreParts 47 10 text)
    → GivesExactly None (StatesClasses space dims text)
classes_unsplit space dims text is declared other refused v = ((λ e. absurd (none-some v e)), (λ s. absurd (by_classes v s)))
  where
    by_classes : (v : List ℕ) → StatesClasses space dims text v → ⊥
    by_classes [] s = other s.text_is
    by_classes (c ∷ cs) s = none-some (map (set_text space) (c ∷ cs)) ((refused (map (set_text space) (c ∷ cs))).1 (classes_parts space dims text c cs is declared s))

-- the classes of a text are those of its parts
pub classes_split : (space : IndexSpace) (dims : ℕ) (text : List ℕ) (parts : List (List ℕ)) (r : Option (List ℕ)) → IsSpace space → IsDeclared space dims → (text ≡ codes "-" → ⊥)
    → GivesExactly (Some parts) (AreParts 47 10 text) → GivesExactly r (AreClasses space dims parts) → GivesExactly r (StatesClasses space dims text)
classes_split space dims text parts r is declared other given classes v = (
  (λ e. to_text v ((classes v).0 e)),
  (λ s. (classes v).1 (of_text v s)),
)
  where
    are : AreParts 47 10 text parts
    are = (given parts).0 refl

    to_text : (v : List ℕ) → AreClasses space dims parts v → StatesClasses space dims text v
    to_text [] s = absurd (are.some s.texts_are)
    to_text (c ∷ cs) s = record {
      few = omega (arith, are.few, many space dims parts (c ∷ cs) s);
      nesting = s.nesting;
      within = s.within;
      text_is = are.text_is ∙ ap (join_with_byte 47) s.texts_are;
    }

    of_text : (v : List ℕ) → StatesClasses space dims text v → AreClasses space dims parts v
    of_text [] s = absurd (other s.text_is)
    of_text (c ∷ cs) s = record {
      nesting = s.nesting;
      within = s.within;
      texts_are = same_Some parts (map (set_text space) (c ∷ cs)) ((given (map (set_text space) (c ∷ cs))).1 (classes_parts space dims text c cs is declared s));
    }

-- different numbers have different texts
pub decimal_once : (a b : ℕ) → a < 2 ^ 96 → b < 2 ^ 96 → decimal a ≡ decimal b → a ≡ b
decimal_once a b small_a small_b e =
    sym (decimal_is_IsNumeral_wide a (omega (arith, small_a))).1 ∙ ap (digits_value 10) e ∙ (decimal_is_IsNumeral_wide b (omega (arith, small_b))).1

cost_stated : (space : IndexSpace) (dims : ℕ) (line : List ℕ) (row : Row) → StatesRow space dims line row → StatesCost line row.cost (classes_text space row.classes)
cost_stated space dims line row s = record { limit = s.fits.cost; text_is = s.text_is }

classes_stated : (space : IndexSpace) (dims : ℕ) (line text : List ℕ) (cost : ℕ) (row : Row) → StatesCost line cost text → StatesRow space dims line row → StatesClasses space dims text row.classes
classes_stated space dims line text cost row stated s = record {
  few = s.few;
  nesting = s.nesting;
  within = s.fits.classes;
  text_is = (cost_once line cost row.cost text (classes_text space row.classes) stated (cost_stated space dims line row s)).1;
}

pub row_refused : (space : IndexSpace) (dims : ℕ) (line text : List ℕ) (cost : ℕ) → StatesCost line cost text → GivesExactly None (StatesClasses space dims text) → GivesExactly None (StatesRow space dims line)
row_refused space dims line text cost stated refused v = (
  (λ e. absurd (none-some v e)),
  (λ s. absurd (none-some v.classes ((refused v.classes).1 (classes_stated space dims line text cost v stated s)))),
)

pub row_given : (space : IndexSpace) (dims : ℕ) (line text : List ℕ) (row : Row) → StatesCost line row.cost text → GivesExactly (Some row.classes) (StatesClasses space dims text)
    → GivesExactly (Some row) (StatesRow space dims line)
row_given space dims line text row stated given v = (
  (λ e. subst (StatesRow space dims line) (same_Some row v e) (let s = (given row.classes).0 refl in record {
    fits = record { classes = s.within; cost = stated.limit };
    few = s.few;
    nesting = s.nesting;
    text_is = stated.text_is ∙ ap (cost_line row.cost) s.text_is;
  })),
  (λ s. ap (λ r. Some r) (same_row row v
      (same_Some row.classes v.classes ((given v.classes).1 (classes_stated space dims line text row.cost v stated s)))
      (decimal_once row.cost v.cost stated.limit s.fits.cost (cost_once line row.cost v.cost text (classes_text space v.classes) stated (cost_stated space dims line v s)).0))),
)
  where
    same_row : (a b : Row) → a.classes ≡ b.classes → a.cost ≡ b.cost → a ≡ b
    same_row a b e f = ap₂ {A = List ℕ} {B = ℕ} (λ classes cost. record { classes = classes; cost = cost }) e f
