-- Members of sets of labels.
use Rattle.std.proofs.Common.{◌≡◌, ℕ, cond, append-nil, ◌/◌, ◌+◌, ◌*◌, ◌%◌, ◌^◌, ◌<◌, ◌==◌, ◌&&◌, ◌||◌, ◌↔◌, Bool, true, false, eqb, eqb-true, [], ◌∷◌, ◌++◌, filter, bit_and, bit_or, w32, refl, sym, ap, subst, ◌∙◌, lt_of_le_of_lt, inl, inr}
use Rattle.std.specs.List.{range_with_len}
use Rattle.std.proofs.lemmas.Bool.{and_parts, cases_Bool, cases_eq, eq-eqb, ne_eqb, or_right}
use Rattle.std.proofs.lemmas.List.Elements.{filter-append}
use Rattle.std.proofs.lemmas.Nat.{and_le_l}
use Rattle.std.proofs.lemmas.Nat.Bits.{bit_at-lt, bit_at_set_same, bit_at_set_other, same_from_bits_below}
use Rattle.tce_space.specs.IndexSet.{has, IsWithin}
use Rattle.tce_space.proofs.IndexSetLaws.{has-and, same_bit}
use Rattle.tce_space.proofs.Ranges.{range_next}

pub has_with : (a k i : ℕ) → k < 32 → has (bit_or a (1 * 2 ^ k % 2 ^ 32)) i ≡ (has a i || k == i)
unfolding has
has_with a k i inside =
    elim (cases_eq i k) [
      | inl at_k ↦
          ap (λ j. eqb j 1) (subst (λ j. bit_at_k j ≡ 1) (sym at_k) (bit_at_set_same w32 a k inside)) ∙ sym (or_right (has a i) (k == i) (eq-eqb k i (sym at_k)))
      | inr apart ↦
          ap (λ j. eqb j 1) (bit_at_set_other w32 a k inside i apart) ∙ sym (or_false (has a i) (k == i) (ne_eqb k i (λ e. apart (sym e))))
    ]
  where
    bit_at_k : ℕ → ℕ
    bit_at_k j = bit_or a (1 * 2 ^ k % 2 ^ 32) / 2 ^ j % 2

    or_false : (x y : Bool) → y ≡ false → (x || y) ≡ x
    or_false true y e = refl
    or_false false y e = e

-- the test that a program makes
pub same_meet-is : (a b : ℕ) → a < 2 ^ 32 → (eqb (bit_and a b) a ≡ true) ↔ IsWithin a b
unfolding has
same_meet-is a b p = (
  (λ e i h. (and_parts (has a i) (has b i) (sym (has-and a b i) ∙ ap (λ s. has s i) (eqb-true _ _ e) ∙ h)).1),
  (λ f. eq-eqb _ _ (same_from_bits_below 32 (bit_and a b) a (lt_of_le_of_lt (and_le_l a b) p) p
      (λ i l. same_bit _ _ (bit_at-lt (bit_and a b) i) (bit_at-lt a i) (has-and a b i ∙ kept i (f i))))),
)
  where
    kept : (i : ℕ) → (has a i ≡ true → has b i ≡ true) → (has a i && has b i) ≡ has a i
    kept i g = elim (cases_Bool (has a i)) [
      | inl t ↦ rw (t, g t) refl
      | inr e ↦ rw e refl
    ]

pub member_more : (a n : ℕ) → has a n ≡ true → filter (has a) (range_with_len 0 (n + 1)) ≡ filter (has a) (range_with_len 0 n) ++ n ∷ []
member_more a n here =
    ap (filter (has a)) (range_next n) ∙ filter-append (has a) (range_with_len 0 n) (n ∷ [])
    ∙ ap (λ (b : Bool). filter (has a) (range_with_len 0 n) ++ cond b (n ∷ []) []) here

pub member_none : (a n : ℕ) → has a n ≡ false → filter (has a) (range_with_len 0 (n + 1)) ≡ filter (has a) (range_with_len 0 n)
member_none a n lacks =
    ap (filter (has a)) (range_next n) ∙ filter-append (has a) (range_with_len 0 n) (n ∷ [])
    ∙ ap (λ (b : Bool). filter (has a) (range_with_len 0 n) ++ cond b (n ∷ []) []) lacks ∙ append-nil (filter (has a) (range_with_len 0 n))
