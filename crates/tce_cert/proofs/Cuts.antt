-- Texts are cut in one way.
use Rattle.std.proofs.Common.{◌≡◌, ℕ, suc, ◌+◌, ◌<◌, ◌==◌, false, true, List, [], ◌∷◌, ◌++◌, length, get_or, take, drop, drop-cons, add-one, Some, None, refl, ap, ap₂, sym, ◌∙◌, arith, Bool}
use Rattle.std.specs.List.{position, position_or_len}
use Rattle.std.proofs.lemmas.Bool.{eqb-true, eq-eqb, ltb-false}
use Rattle.std.proofs.lemmas.List.{take-append-drop, get_or-take, get_or_default, length-take}
use Rattle.std.proofs.lemmas.List.Sums.{fails_before_first}
use Rattle.std.proofs.lemmas.List.Quantifiers.{position-Some}
use Rattle.std.specs.Prelude.{nat_lt}
use Rattle.std.proofs.lemmas.Option.{none-some}
use Rattle.tce_cert.specs.Cut.{Lacks, IsCut}

shorter : (i k : ℕ) (text : List ℕ) → k < length (take i text) → k < i
shorter i k text l = omega (arith, length-take i text)

pub all_lacking : (c : ℕ) (text : List ℕ) → position (λ b. b == c) text ≡ None → Lacks c text
all_lacking c text none k d l = by_place (nat_lt n (length text)) refl
  where
    n : ℕ
    n = position_or_len (λ b. b == c) text

    by_place : (e : Bool) → nat_lt n (length text) ≡ e → (get_or text k d == c) ≡ false
    by_place true e = absurd (none-some n (sym (rw e at none)))
    by_place false e = fails_before_first (λ b. b == c) text k d (omega (arith, ltb-false n (length text) e, l))

pub cut_made : (c : ℕ) (text : List ℕ) (i : ℕ) → position (λ b. b == c) text ≡ Some i → IsCut c text (take i text) (drop (i + 1) text)
cut_made c text i is =
    let found = position-Some (λ b. b == c) text i 0 is in
    let inside : i < length text = found.0 in
    record {
      text_is =
          sym (take-append-drop i text)
          ∙ ap (λ t. take i text ++ t) (drop-cons text i 0 inside ∙ ap₂ (λ b t. b ∷ t) (eqb-true (get_or text i 0) c found.1) (ap (λ k. drop k text) (sym (add-one i))));
      first = λ k d l. ap (λ b. b == c) (get_or-take i text k d (shorter i k text l)) ∙ ap (λ b. b == c) (get_or_default text k d 0 (omega (arith, shorter i k text l))) ∙ found.2 k (shorter i k text l);
    }

-- a separator that stands in a text is not lacking
pub lacks_middle : (c : ℕ) (a b : List ℕ) → Lacks c (a ++ c ∷ b) → ⊥
lacks_middle c [] b lacking = let here = lacking 0 0 (omega arith) in let there = eq-eqb c c refl in cc
lacks_middle c (h ∷ a) b lacking = lacks_middle c a b (λ k d l. lacking (suc k) d (omega arith))

heads_differ : (c h : ℕ) (a : List ℕ) → Lacks c (h ∷ a) → h ≡ c → ⊥
heads_differ c h a lacking is = let here = lacking 0 0 (omega arith) in let there = eq-eqb h c is in cc

-- a text without the separator in front is cut there
pub cut_once : (c : ℕ) (a b x y : List ℕ) → Lacks c a → Lacks c x → a ++ c ∷ b ≡ x ++ c ∷ y → (a ≡ x) × (b ≡ y)
cut_once c [] b [] y front other is = (refl, (cc))
cut_once c [] b (h ∷ x) y front other is = absurd (heads_differ c h x other (cc))
cut_once c (h ∷ a) b [] y front other is = absurd (heads_differ c h a front (cc))
cut_once c (h ∷ a) b (k ∷ x) y front other is =
    let tails : a ++ c ∷ b ≡ x ++ c ∷ y = cc in
    let heads : h ≡ k = cc in
    let rest = cut_once c a b x y (λ i d l. front (suc i) d (omega arith)) (λ i d l. other (suc i) d (omega arith)) tails in
    (ap₂ (λ e t. e ∷ t) heads rest.0, rest.1)
