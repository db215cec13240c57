-- What the texts of lines state.
use Rattle.std.proofs.Common.{◌≡◌, ℕ, suc, ◌<◌, ◌^◌, ◌==◌, false, true, Bool, not, IsTrue, inl, inr, List, [], ◌∷◌, ◌++◌, codes, zero, Option, Some, None, length, refl, ap, ap₂, sym, ◌∙◌, subst, arith}
use Rattle.std.specs.Prelude.{◌↔◌}
use Rattle.std.specs.Fmt.{decimal}
use Rattle.std.specs.Str.Parse.{AllDigits}
use Rattle.std.specs.Int.{IsInRange}
use Rattle.std.proofs.lemmas.Bool.Decides.{nat_tests}
use Rattle.std.proofs.lemmas.Fmt.{decimal_is_IsNumeral_wide}
use Rattle.std.proofs.lemmas.Str.Parse.{digit_from_value}
use Rattle.std.proofs.lemmas.Bool.{eqb-true, eq-eqb}
use Rattle.std.proofs.lemmas.List.{get_or-map, length-map}
use Rattle.std.proofs.lemmas.List.Elements.{All-map}
use Rattle.std.specs.Prelude.{is_some}
use Rattle.std.proofs.lemmas.Option.{none-some, same_Some}
use Rattle.std.specs.Borrow.{Bor}
use Rattle.std.specs.List.{All}
use Rattle.tce_fields.specs.Fields.{IsNumber, AreParts, AreListed}
use Rattle.tce_fields.specs.Reading.{GivesExactly, texts}
use Rattle.tce_cert.specs.Cut.{Lacks, IsCut}
use Rattle.tce_cert.specs.Forms.{StatesMemory, StatesTable, StatesNumbers, StatesCost, BeginsWithCost, IsClassText, IsClassesText, HasRowForm}
use Rattle.tce_cert.proofs.Cuts.{cut_once, lacks_middle}

pub memory_stated : (line number : List ℕ) → line ≡ codes "memory " ++ number → (value : ℕ) → IsNumber number value ↔ StatesMemory line value
memory_stated line number is value = (
  (λ n. record { limit = n.limit; text_is = is ∙ ap (λ t. codes "memory " ++ t) n.text_is }),
  (λ s. record { limit = s.limit; text_is = let e = sym is ∙ s.text_is in cc }),
)

pub table_stated : (line numbers : List ℕ) → line ≡ codes "table " ++ numbers → (v rows : ℕ) → StatesNumbers numbers v rows ↔ StatesTable line v rows
table_stated line numbers is v rows = (
  (λ n. record { node_limit = n.first_limit; rows_limit = n.second_limit; text_is = is ∙ ap (λ t. codes "table " ++ t) n.text_is }),
  (λ s. record { first_limit = s.node_limit; second_limit = s.rows_limit; text_is = let e = sym is ∙ s.text_is in cc }),
)

digits_lack : (c : ℕ) (ds : List ℕ) → c < 48 → AllDigits 10 ds → Lacks c ds
digits_lack c [] small all k d l = absurd (omega arith)
digits_lack c (b ∷ ds) small all zero d l =
    let here : IsInRange 48 57 b = digit_from_value b all.0 in
    let other : b ≡ c → ⊥ = λ e. omega arith in
    grind (arith, nat_tests)
digits_lack c (b ∷ ds) small all (suc k) d l = digits_lack c ds small all.1 k d (omega arith)

-- a number has digits alone
pub decimal_lacks : (c n : ℕ) → c < 48 → n < 2 ^ 96 → Lacks c (decimal n)
decimal_lacks c n small limit = digits_lack c (decimal n) small (decimal_is_IsNumeral_wide n (omega (arith, limit))).0.1

none_given : {A : Type 0} {P : A → Type 0} → ((v : A) → P v → ⊥) → GivesExactly None P
none_given refused v = ((λ e. absurd (none-some v e)), (λ p. absurd (refused v p)))

abbrev pub StatesPair : List ℕ → ℕ × ℕ → Type 0
StatesPair text pair = StatesNumbers text pair.0 pair.1

pub numbers_without : (text : List ℕ) → Lacks 32 text → GivesExactly None (StatesPair text)
numbers_without text lacking =
    none_given (λ p s. lacks_middle 32 (decimal p.0) (decimal p.1) (subst (Lacks 32) s.text_is lacking))

-- the texts of two numbers are what stands on both sides of the blank
sides : (text first second : List ℕ) (a b : ℕ) → IsCut 32 text first second → StatesNumbers text a b → (first ≡ decimal a) × (second ≡ decimal b)
sides text first second a b cut s =
    cut_once 32 first second (decimal a) (decimal b) cut.first (decimal_lacks 32 a (omega arith) s.first_limit) (sym cut.text_is ∙ s.text_is)

pub numbers_first : (text first second : List ℕ) → IsCut 32 text first second → GivesExactly None (IsNumber first) → GivesExactly None (StatesPair text)
numbers_first text first second cut refused =
    none_given (λ p s. none-some p.0 ((refused p.0).1 (record { limit = s.first_limit; text_is = (sides text first second p.0 p.1 cut s).0 })))

pub numbers_second : (text first second : List ℕ) → IsCut 32 text first second → GivesExactly None (IsNumber second) → GivesExactly None (StatesPair text)
numbers_second text first second cut refused =
    none_given (λ p s. none-some p.1 ((refused p.1).1 (record { limit = s.second_limit; text_is = (sides text first second p.0 p.1 cut s).1 })))

pub numbers_both : (text first second : List ℕ) (a b : ℕ) → IsCut 32 text first second → GivesExactly (Some a) (IsNumber first) → GivesExactly (Some b) (IsNumber second)
    → GivesExactly (Some (a, b)) (StatesPair text)
numbers_both text first second a b cut is_a is_b p = (
  (λ e. let n = (is_a a).0 refl in let m = (is_b b).0 refl in
      subst (StatesPair text) (same_Some (a, b) p e)
      (record { first_limit = n.limit; second_limit = m.limit; text_is = cut.text_is ∙ ap₂ (λ x y. x ++ (32 ∷ y)) n.text_is m.text_is })),
  (λ s. ap₂ (λ x y. Some (x, y))
      (same_Some a p.0 ((is_a p.0).1 (record { limit = s.first_limit; text_is = (sides text first second p.0 p.1 cut s).0 })))
      (same_Some b p.1 ((is_b p.1).1 (record { limit = s.second_limit; text_is = (sides text first second p.0 p.1 cut s).1 })))),
)

pub costs_without : (text : List ℕ) → Lacks 32 text → (cost : ℕ) (classes : List ℕ) → BeginsWithCost text cost classes → ⊥
costs_without text lacking cost classes s = lacks_middle 32 (decimal cost) classes (subst (Lacks 32) s.text_is lacking)

cost_sides : (text first second : List ℕ) (cost : ℕ) (classes : List ℕ) → IsCut 32 text first second → BeginsWithCost text cost classes → (first ≡ decimal cost) × (second ≡ classes)
cost_sides text first second cost classes cut s =
    cut_once 32 first second (decimal cost) classes cut.first (decimal_lacks 32 cost (omega arith) s.limit) (sym cut.text_is ∙ s.text_is)

pub costs_refused : (text first second : List ℕ) → IsCut 32 text first second → GivesExactly None (IsNumber first) → (cost : ℕ) (classes : List ℕ) → BeginsWithCost text cost classes → ⊥
costs_refused text first second cut refused cost classes s =
    none-some cost ((refused cost).1 (record { limit = s.limit; text_is = (cost_sides text first second cost classes cut s).0 }))

pub costs_given : (text first second : List ℕ) (cost : ℕ) → IsCut 32 text first second → GivesExactly (Some cost) (IsNumber first) → BeginsWithCost text cost second
costs_given text first second cost cut is_cost =
    let n = (is_cost cost).0 refl in
    record { limit = n.limit; text_is = cut.text_is ∙ ap (λ t. t ++ 32 ∷ second) n.text_is }

-- a line of a row states one cost, and classes written in one way
pub cost_once : (line : List ℕ) (a b : ℕ) (x y : List ℕ) → StatesCost line a x → StatesCost line b y → (decimal a ≡ decimal b) × (x ≡ y)
cost_once line a b x y s r =
    let is : codes "row " ++ (decimal a ++ 32 ∷ x) ≡ codes "row " ++ (decimal b ++ 32 ∷ y) = sym s.text_is ∙ r.text_is in
    cut_once 32 (decimal a) x (decimal b) y (decimal_lacks 32 a (omega arith) s.limit) (decimal_lacks 32 b (omega arith) r.limit) (cc)

pub row_form_told : (line : List ℕ) (cost : ℕ) (classes : List ℕ) (b : Bool) → StatesCost line cost classes → IsTrue b ↔ IsClassesText classes → IsTrue b ↔ HasRowForm line
row_form_told line cost classes b s told = (
  (λ t. (cost, (classes, s, told.0 t))),
  (λ h. told.1 (subst IsClassesText (cost_once line h.0 cost h.1.0 classes h.1.1 s).1 h.1.2)),
)

empty_told : (found : List (Bor (List ℕ))) (b : Bool) → b ≡ (length found == 0) → IsTrue b ↔ (found ≡ [])
empty_told [] b is = ((λ t. refl), (λ e. is ∙ eq-eqb 0 0 refl))
empty_told (x ∷ xs) b is = (
  (λ t. let none = eqb-true (length (x ∷ xs)) 0 (sym is ∙ t) in absurd (omega (arith, none))),
  (λ e. cc),
)

pub class_told : (text : List ℕ) (found : List (Bor (List ℕ))) (b : Bool) → GivesExactly (Some (texts found)) (AreListed 24 text) → b ≡ (length found == 0) → IsTrue (not b) ↔ IsClassText text
class_told text found b given is = by_test b (empty_told found b is)
  where
    no_texts : (xs : List (Bor (List ℕ))) → texts xs ≡ [] → xs ≡ []
    no_texts [] e = refl
    no_texts (x ∷ xs) e = cc

    by_test : (b : Bool) → IsTrue b ↔ (found ≡ []) → IsTrue (not b) ↔ IsClassText text
    by_test true none = (
      (λ t. absurd (let e : false ≡ true = t in cc)),
      (λ h. absurd (h.some (sym (same_Some (texts found) h.names ((given h.names).1 h.listed)) ∙ ap texts (none.0 refl)))),
    )
    by_test false none = (
      (λ t. record { names = texts found; listed = (given (texts found)).0 refl; some = λ e. let f : false ≡ true = none.1 (no_texts found e) in cc }),
      (λ h. refl),
    )

all_texts : (P : List ℕ → Type 0) (found : List (Bor (List ℕ))) → All (λ (part : Bor (List ℕ)). P part.now) found ↔ All P (texts found)
all_texts P found = (
  (λ all. All-map P (λ (part : Bor (List ℕ)). part.now) found all),
  (λ all k d l.
      subst P (get_or-map (λ (part : Bor (List ℕ)). part.now) found k d d.now l)
      (all k d.now (omega (arith, length-map found (λ (part : Bor (List ℕ)). part.now), l)))),
)

pub some_told : {A : Type 0} {P : A → Type 0} (r : Option A) (b : Bool) → b ≡ is_some r → GivesExactly r P → IsTrue b ↔ ((x : A) × P x)
some_told None b is given = ((λ t. cc), (λ h. absurd (none-some h.0 ((given h.0).1 h.1))))
some_told (Some x) b is given = ((λ t. (x, (given x).0 refl)), (λ h. is))

pub classes_told : (text : List ℕ) (found slice : List (Bor (List ℕ))) (b : Bool) → (text ≡ codes "-" → ⊥) → GivesExactly (Some (texts found)) (AreParts 47 10 text) → slice ≡ found
    → IsTrue b ↔ All (λ (part : Bor (List ℕ)). IsClassText part.now) slice → IsTrue b ↔ IsClassesText text
classes_told text found slice b other given is told = (
  (λ t. inr (texts found, (given (texts found)).0 refl, (all_texts IsClassText found).0 (subst (All (λ (part : Bor (List ℕ)). IsClassText part.now)) is (told.0 t)))),
  (λ h. elim h as (λ _. IsTrue b) [
    | inl none ↦ absurd (other none)
    | inr some ↦ told.1 (subst (All (λ (part : Bor (List ℕ)). IsClassText part.now)) (sym is)
        ((all_texts IsClassText found).1 (subst (All IsClassText) (sym (same_Some (texts found) some.0 ((given some.0).1 some.1))) some.2)))
  ]),
)
