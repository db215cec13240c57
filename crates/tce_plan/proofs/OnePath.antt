-- A text of labels has one reading and one bad label at most, and so has a path.
use Rattle.std.proofs.Common.{◌≡◌, refl, sym, ap, subst, ◌∙◌, inl, inr, ℕ, zero, suc, ◌+◌, ◌<◌, ◌≤◌, ◌^◌, true, false, IsTrue, List, [], ◌∷◌, ◌++◌, length, take, get_or, map, Some, None, arith, length-append}
use Rattle.std.specs.Fmt.{decimal}
use Rattle.std.specs.List.{join_with_byte}
use Rattle.std.proofs.lemmas.Bool.{cases_order}
use Rattle.std.proofs.lemmas.Option.{none-some, same_Some}
use Rattle.std.proofs.Math.Seq.{take-length}
use Rattle.std.proofs.lemmas.Fmt.{decimal_injective}
use Rattle.tce_command.specs.Command.{IsHeld}
use Rattle.tce_einsum.specs.Text.{Einsum, IsText, size_text}
use Rattle.tce_einsum.specs.Sizes.{IsBadSize, AreSized, is_missized}
use Rattle.tce_einsum.specs.Path.{Item, one, two, item_text, Fits, left_by, AreItems, IsBadItem}
use Rattle.tce_einsum.specs.Reading.{cut}
use Rattle.tce_einsum.proofs.Cuts.{cut_lacking, cut_front}
use Rattle.tce_fields.proofs.Decimals.{decimal_lacks}

-- A text that is held has fewer operands than 2^64.

joined_long : (os : List (List ℕ)) → length os ≤ length (join_with_byte 44 os) + 1
joined_long [] = omega arith
joined_long (o ∷ []) = omega arith
joined_long (o ∷ p ∷ os) = omega (arith, joined_long (p ∷ os), length-append o (44 ∷ join_with_byte 44 (p ∷ os)))

pub few_operands : (text : List ℕ) (e : Einsum) → IsHeld text → IsText text e → length e.operands < 2 ^ 64
few_operands text e held is =
    let behind : List ℕ = 45 ∷ 62 ∷ (e.output ++ 64 ∷ join_with_byte 44 (map size_text e.sizes)) in
    let whole : length text ≡ length (join_with_byte 44 e.operands) + length behind = ap length is.text_is ∙ length-append (join_with_byte 44 e.operands) behind in
    omega (arith, held, whole, joined_long e.operands)

-- Labels.

not_sized : (e : Einsum) (label : ℕ) → is_missized e label ≡ false → IsTrue (is_missized e label) → ⊥
not_sized e label none is = let e : false ≡ true = sym none ∙ is in absurd (cc)

pub sized_or_bad : (e : Einsum) (label : ℕ) → AreSized e → IsBadSize e label → ⊥
sized_or_bad e label sized bad = not_sized e label (sized label bad.letter) bad.missized

pub one_label : (e : Einsum) (a b : ℕ) → IsBadSize e a → IsBadSize e b → a ≡ b
one_label e a b p q =
    elim (cases_order a b) [
      | inl same ↦ same
      | inr (inl less) ↦ absurd (not_sized e a (q.least a p.letter less) p.missized)
      | inr (inr more) ↦ absurd (not_sized e b (p.least b q.letter more) q.missized)
    ]

-- Items.

cut_one : (p : ℕ) → p < 2 ^ 64 → cut 44 (decimal p) ≡ None
cut_one p small = cut_lacking 44 (decimal p) (decimal_lacks 44 p (omega arith) (omega arith))

cut_two : (p q : ℕ) → p < 2 ^ 64 → cut 44 (decimal p ++ 44 ∷ decimal q) ≡ Some (decimal p, decimal q)
cut_two p q small = cut_front 44 (decimal p) (decimal q) (decimal_lacks 44 p (omega arith) (omega arith))

one_item : (n : ℕ) (i j : Item) → n < 2 ^ 64 → Fits n i → Fits n j → item_text i ≡ item_text j → i ≡ j
one_item n (one p) (one q) small fits other e =
    let first : p < n = fits in
    let second : q < n = other in
    ap one (decimal_injective p q (omega arith) (omega arith) e)
one_item n (one p) (two q r) small fits other e =
    let inside : p < n = fits in
    absurd (none-some (decimal q, decimal r) (sym (cut_one p (omega arith)) ∙ ap (cut 44) e ∙ cut_two q r (omega (arith, other.0))))
one_item n (two p q) (one r) small fits other e =
    let inside : r < n = other in
    absurd (none-some (decimal p, decimal q) (sym (cut_one r (omega arith)) ∙ ap (cut 44) (sym e) ∙ cut_two p q (omega (arith, fits.0))))
one_item n (two p q) (two r s) small fits other e =
    let halves : (decimal p, decimal q) ≡ (decimal r, decimal s) =
    same_Some (decimal p, decimal q) (decimal r, decimal s) (sym (cut_two p q (omega (arith, fits.0))) ∙ ap (cut 44) e ∙ cut_two r s (omega (arith, other.0))) in
    let first : p ≡ r = decimal_injective p r (omega (arith, fits.0)) (omega (arith, other.0)) (ap (λ (h : List ℕ × List ℕ). h.0) halves) in
    let second : q ≡ s = decimal_injective q s (omega (arith, fits.1)) (omega (arith, other.1)) (ap (λ (h : List ℕ × List ℕ). h.1) halves) in
    (λ k. two (first k) (second k))

left_small : (n : ℕ) (i : Item) → n < 2 ^ 64 → left_by n i < 2 ^ 64
left_small n (one p) small = small
left_small n (two p q) small = omega (arith, small)

-- what was read of texts
pub record AreSame (is js : List Item) (l m : ℕ) : Type 0 where
  pub items : is ≡ js
  pub left : l ≡ m

pub same_items : (n : ℕ) (texts : List (List ℕ)) (is js : List Item) (l m : ℕ) → n < 2 ^ 64 → AreItems n texts is l → AreItems n texts js m → AreSame is js l m
same_items n [] [] [] l m small a b = record { items = refl; left = sym a ∙ b }
same_items n [] [] (j ∷ js) l m small a b = absurd b
same_items n [] (i ∷ is) js l m small a b = absurd a
same_items n (t ∷ ts) [] js l m small a b = absurd a
same_items n (t ∷ ts) (i ∷ is) [] l m small a b = absurd b
same_items n (t ∷ ts) (i ∷ is) (j ∷ js) l m small a b =
    let e : i ≡ j = one_item n i j small a.1 b.1 (sym a.0 ∙ b.0) in
    let rest = same_items (left_by n i) ts is js l m (left_small n i small) a.2 (subst (λ k. AreItems (left_by n k) ts js m) (sym e) b.2) in
    record { items = (λ k. e k ∷ rest.items k); left = rest.left }

-- behind the items in front of a place stands one more where more are read
next_item : (n : ℕ) (texts : List (List ℕ)) (k j : ℕ) (is js : List Item) (l m : ℕ) → n < 2 ^ 64 → AreItems n (take k texts) is l → AreItems n (take j texts) js m → k < j → j ≤ length texts
    → (i : Item) × (get_or texts k [] ≡ item_text i) × Fits l i
next_item n [] k j is js l m small a b less inside = absurd (omega (arith, less, inside))
next_item n (t ∷ ts) k zero is js l m small a b less inside = absurd (omega (arith, less))
next_item n (t ∷ ts) zero (suc j) [] [] l m small a b less inside = absurd b
next_item n (t ∷ ts) zero (suc j) [] (i ∷ js) l m small a b less inside = (i, b.0, subst (λ x. Fits x i) a b.1)
next_item n (t ∷ ts) zero (suc j) (i ∷ is) js l m small a b less inside = absurd a
next_item n (t ∷ ts) (suc k) (suc j) [] js l m small a b less inside = absurd a
next_item n (t ∷ ts) (suc k) (suc j) (i ∷ is) [] l m small a b less inside = absurd b
next_item n (t ∷ ts) (suc k) (suc j) (i ∷ is) (h ∷ js) l m small a b less inside =
    let e : i ≡ h = one_item n i h small a.1 b.1 (sym a.0 ∙ b.0) in
    next_item (left_by n i) ts k j is js l m (left_small n i small) a.2 (subst (λ x. AreItems (left_by n x) (take j ts) js m) (sym e) b.2) (omega (arith, less)) (omega (arith, inside))

not_behind : (n : ℕ) (texts : List (List ℕ)) (k j : ℕ) (js : List Item) (m : ℕ) → n < 2 ^ 64 → IsBadItem n texts k → AreItems n (take j texts) js m → k < j → j ≤ length texts → ⊥
not_behind n texts k j js m small bad are less inside =
    let more = next_item n texts k j bad.before js bad.left m small bad.are are less inside in
    bad.within (omega (arith, less, inside)) more.0 more.1 more.2

pub one_bad_item : (n : ℕ) (texts : List (List ℕ)) (k j : ℕ) → n < 2 ^ 64 → IsBadItem n texts k → IsBadItem n texts j → k ≡ j
one_bad_item n texts k j small p q =
    elim (cases_order k j) [
      | inl same ↦ same
      | inr (inl less) ↦ absurd (not_behind n texts k j q.before q.left small p q.are less q.inside)
      | inr (inr more) ↦ absurd (not_behind n texts j k p.before p.left small q p.are more p.inside)
    ]

pub bad_or_read : (n : ℕ) (texts : List (List ℕ)) (k : ℕ) (is : List Item) → n < 2 ^ 64 → IsBadItem n texts k → AreItems n texts is 1 → ⊥
bad_or_read n texts k is small bad are =
    elim (cases_order k (length texts)) [
      | inl end ↦ bad.behind end (same_items n (take k texts) bad.before is bad.left 1 small bad.are (subst (λ ts. AreItems n ts is 1) (sym (ap (λ j. take j texts) end ∙ take-length texts)) are)).left
      | inr (inl less) ↦ not_behind n texts k (length texts) is 1 small bad (subst (λ ts. AreItems n ts is 1) (sym (take-length texts)) are) less (omega arith)
      | inr (inr more) ↦ omega (arith, more, bad.inside)
    ]
