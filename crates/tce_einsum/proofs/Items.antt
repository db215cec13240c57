-- The texts of items.
use Rattle.std.proofs.Common.{◌≡◌, ◌≢◌, ℕ, ◌<◌, ◌^◌, List, [], ◌∷◌, ◌++◌, length, take, get_or, zero, suc, ◌+◌, Option, Some, None, refl, sym, ap, subst, ◌∙◌, arith}
use Rattle.std.specs.Prelude.{MatchOption}
use Rattle.std.specs.Fmt.{decimal}
use Rattle.std.specs.Borrow.{Bor}
use Rattle.tce_fields.specs.Reading.{texts}
use Rattle.std.proofs.lemmas.Fmt.{decimal_injective}
use Rattle.std.proofs.lemmas.List.{map-append}
use Rattle.std.proofs.lemmas.Option.{none-some, same_Some}
use Rattle.tce_fields.proofs.Decimals.{decimal_lacks}
use Rattle.tce_einsum.specs.Path as path
use Rattle.tce_einsum.specs.Path.{item_text, Fits, left_by, AreItems, one, two}
use Rattle.tce_einsum.specs.Code.{item, items}
use Rattle.tce_einsum.specs.Reading.{cut}
use Rattle.tce_einsum.specs.declared.path.Item.{Item}
use Rattle.tce_einsum.proofs.Cuts.{cut_lacking, cut_front, Joins, cut_joins}

-- one position twice is no item
pub two_same : (count p q : ℕ) (first second : List ℕ) → count < 2 ^ 64 → p < count → q < count → first ≡ decimal p → second ≡ decimal q → p ≡ q
    → (i j : ℕ) → first ≡ decimal i → second ≡ decimal j → Fits count (two i j) → ⊥
two_same count p q first second small p_in q_in p_is q_is same i j i_is j_is fits =
    let left : i ≡ p = decimal_injective i p (omega (arith, fits.0)) (omega arith) (sym i_is ∙ p_is) in
    let right : j ≡ q = decimal_injective j q (omega (arith, fits.1)) (omega arith) (sym j_is ∙ q_is) in
    fits.2 (left ∙ same ∙ sym right)

cut_one : (p : ℕ) → p < 2 ^ 64 → cut 44 (item_text (one p)) ≡ None
cut_one p small = cut_lacking 44 (decimal p) (decimal_lacks 44 p (omega arith) (omega arith))

cut_two : (p q : ℕ) → p < 2 ^ 64 → cut 44 (item_text (two p q)) ≡ Some (decimal p, decimal q)
cut_two p q small = cut_front 44 (decimal p) (decimal q) (decimal_lacks 44 p (omega arith) (omega arith))

-- no item is read
abbrev pub NoItem : ℕ → List ℕ → Type 0
NoItem count text = (i : path.Item) → text ≡ item_text i → Fits count i → ⊥

-- two positions are read from the halves
abbrev pub IsTwo : ℕ → List ℕ → List ℕ → Item → Type 0
IsTwo count first second i =
    (p : ℕ) × (q : ℕ) × (item i ≡ two p q) × (first ≡ decimal p) × (second ≡ decimal q) × Fits count (two p q)

pub read_halves : (count : ℕ) (text first second : List ℕ) (r : Option Item) → count < 2 ^ 64 → Some (first, second) ≡ cut 44 text
    → MatchOption r ((p q : ℕ) → first ≡ decimal p → second ≡ decimal q → Fits count (two p q) → ⊥) (IsTwo count first second)
    → MatchOption r (NoItem count text) (λ i. (text ≡ item_text (item i)) × Fits count (item i))
read_halves count text first second None small halves none =
    λ i is fits. by_item i is fits
  where
    by_item : (i : path.Item) → text ≡ item_text i → Fits count i → ⊥
    by_item (one p) is fits = none-some (first, second) (sym (halves ∙ ap (cut 44) is ∙ cut_one p (omega arith)))
    by_item (two p q) is fits =
        let same = same_Some (first, second) (decimal p, decimal q) (halves ∙ ap (cut 44) is ∙ cut_two p q (omega (arith, fits.0))) in
        none p q (ap (λ (h : List ℕ × List ℕ). h.0) same) (ap (λ (h : List ℕ × List ℕ). h.1) same) fits
read_halves count text first second (Some i) small halves some =
    let whole : text ≡ first ++ 44 ∷ second = subst (Joins 44 text) (sym halves) (cut_joins 44 text) in
    (whole ∙ (λ k. some.3 k ++ 44 ∷ some.4 k) ∙ ap item_text (sym some.2), subst (Fits count) (sym some.2) some.5)

pub no_halves : (count : ℕ) (text : List ℕ) → count < 2 ^ 64 → None ≡ cut 44 text → ((p : ℕ) → text ≡ decimal p → p < count → ⊥) → NoItem count text
no_halves count text small cut_is none (one p) is fits = none p is fits
no_halves count text small cut_is none (two p q) is fits =
    none-some (decimal p, decimal q) (cut_is ∙ ap (cut 44) is ∙ cut_two p q (omega (arith, fits.0)))

-- one item more
pub items_more : (n : ℕ) (texts : List (List ℕ)) (is : List path.Item) (m : ℕ) (text : List ℕ) (i : path.Item)
    → AreItems n texts is m → text ≡ item_text i → Fits m i → AreItems n (texts ++ text ∷ []) (is ++ i ∷ []) (left_by m i)
items_more n [] [] m text i are is fits = (is, subst (λ k. Fits k i) (sym are) fits, ap (λ k. left_by k i) are)
items_more n [] (j ∷ js) m text i are is fits = absurd are
items_more n (t ∷ ts) [] m text i are is fits = absurd are
items_more n (t ∷ ts) (j ∷ js) m text i are is fits = (are.0, are.1, items_more (left_by n j) ts js m text i are.2 is fits)

-- the texts up to one more place
texts_more : (texts : List (List ℕ)) (k : ℕ) → k < length texts → take (k + 1) texts ≡ take k texts ++ get_or texts k [] ∷ []
texts_more [] k inside = absurd (omega arith)
texts_more (t ∷ ts) zero inside = refl
texts_more (t ∷ ts) (suc k) inside =
    let one : suc (k + 1) ≡ suc k + 1 = omega arith in
    ap (λ n. take n (t ∷ ts)) (sym one) ∙ ap (λ (rest : List (List ℕ)). t ∷ rest) (texts_more ts k (omega arith))

texts_at : (parts : List (Bor (List ℕ))) (k : ℕ) (d : Bor (List ℕ)) → get_or (texts parts) k d.now ≡ (get_or parts k d).now
texts_at [] k d = refl
texts_at (t ∷ ts) zero d = refl
texts_at (t ∷ ts) (suc k) d = texts_at ts k d

pub text_of_part : (parts : List (Bor (List ℕ))) (k : ℕ) (d : Bor (List ℕ)) (text : List ℕ) → d.now ≡ [] → (get_or parts k d).now ≡ text → get_or (texts parts) k [] ≡ text
text_of_part parts k d text empty is = ap (get_or (texts parts) k) (sym empty) ∙ texts_at parts k d ∙ is

pub next_items : (n k : ℕ) (texts : List (List ℕ)) (found now : List Item) (read : Item) (m left : ℕ) → k < length texts
    → AreItems n (take k texts) (items found) m → get_or texts k [] ≡ item_text (item read) → Fits m (item read) → now ≡ found ++ read ∷ [] → left ≡ left_by m (item read)
    → AreItems n (take (k + 1) texts) (items now) left
next_items n k texts found now read m left inside are is fits pushed left_is =
    subst (λ (ts : List (List ℕ)). AreItems n ts (items now) left) (sym (texts_more texts k inside))
    (subst (λ (is : List path.Item). AreItems n (take k texts ++ get_or texts k [] ∷ []) is left) (sym (ap items pushed ∙ map-append item found (read ∷ [])))
    (subst (λ x. AreItems n (take k texts ++ get_or texts k [] ∷ []) (items found ++ item read ∷ []) x) (sym left_is)
    (items_more n (take k texts) (items found) m (get_or texts k []) (item read) are is fits)))

pub too_many_left : (n k whole : ℕ) (texts : List (List ℕ)) (found : List Item) (m : ℕ) → k ≡ whole → length texts ≡ whole → AreItems n (take k texts) (items found) m → m ≢ 1
    → path.IsBadItem n texts whole
too_many_left n k whole texts found m end len are many = record {
  before = items found;
  left = m;
  are = subst (λ j. AreItems n (take j texts) (items found) m) end are;
  inside = omega arith;
  within = λ less i is fits. omega (arith, less);
  behind = λ e. many;
}

pub wrong_item : (n k : ℕ) (texts : List (List ℕ)) (found : List Item) (m : ℕ) (text : List ℕ) → k < length texts → AreItems n (take k texts) (items found) m → get_or texts k [] ≡ text
    → ((i : path.Item) → text ≡ item_text i → Fits m i → ⊥) → path.IsBadItem n texts k
wrong_item n k texts found m text less are is none = record {
  before = items found;
  left = m;
  are = are;
  inside = omega (arith, less);
  within = λ _ i i_is fits. none i (sym is ∙ i_is) fits;
  behind = λ e. absurd (omega (arith, less, e));
}
