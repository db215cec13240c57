use Rattle.std.proofs.Common.{◌≡◌, ◌⊎◌, ℕ, zero, suc, ◌<◌, ◌≤◌, true, false, List, [], ◌∷◌, length, get_or, slice_get, Some, None, inl, inr, refl, sym, subst, arith}
use Rattle.tce_space.specs.Tiling.{tile_words}
use Rattle.tce_array.specs.declared.form.Form.TheVariants.{One}
use Rattle.tce_cache.specs.declared.array.ArrayRef.{ArrayRef}
use Rattle.tce_cache.specs.Cache.{AreArrays}
use Rattle.tests_files.proofs.cache.trial.are_arrays.Goals as goal

three : (xs : List ArrayRef) (a b c : ArrayRef) → 3 ≤ length xs → length xs < 4 → a ≡ get_or xs 0 a → b ≡ get_or xs 1 b → c ≡ get_or xs 2 c → xs ≡ a ∷ b ∷ c ∷ []
three [] a b c low high p q r = absurd (omega arith)
three (x ∷ []) a b c low high p q r = absurd (omega arith)
three (x ∷ y ∷ []) a b c low high p q r = absurd (omega arith)
three (x ∷ y ∷ z ∷ []) a b c low high p q r = cc
three (x ∷ y ∷ z ∷ w ∷ ws) a b c low high p q r = absurd (omega arith)

-- which of three an element is
which : (a b c : ArrayRef) (i : ℕ) (x : ArrayRef) → slice_get (a ∷ b ∷ c ∷ []) i ≡ Some x → ((i ≡ 0) × (x ≡ a)) ⊎ (((i ≡ 1) × (x ≡ b)) ⊎ ((i ≡ 2) × (x ≡ c)))
which a b c zero x e = inl (refl, (cc))
which a b c (suc zero) x e = inr (inl (refl, (cc)))
which a b c (suc (suc zero)) x e = inr (inr (refl, (cc)))
which a b c (suc (suc (suc i))) x e = cc

each : (P : ArrayRef → Type 0) (a b c : ArrayRef) → P a → P b → P c → (i : ℕ) (x : ArrayRef) → slice_get (a ∷ b ∷ c ∷ []) i ≡ Some x → P x
each P a b c p q r i x e = elim (which a b c i x e) [ inl w ↦ subst P (sym w.1) p | inr v ↦ elim v [ inl w ↦ subst P (sym w.1) q | inr w ↦ subst P (sym w.1) r ] ]

different : (a b c : ArrayRef) → (a.file.bytes ≡ b.file.bytes → ⊥) → (a.file.bytes ≡ c.file.bytes → ⊥) → (b.file.bytes ≡ c.file.bytes → ⊥)
    → (i j : ℕ) (x y : ArrayRef) → slice_get (a ∷ b ∷ c ∷ []) i ≡ Some x → slice_get (a ∷ b ∷ c ∷ []) j ≡ Some y → x.file.bytes ≡ y.file.bytes → i ≡ j
different a b c ab ac bc i j x y e f same =
    elim (which a b c i x e) [
      | inl p ↦ elim (which a b c j y f) [ inl q ↦ cc | inr v ↦ elim v [ inl q ↦ absurd (ab (cc)) | inr q ↦ absurd (ac (cc)) ] ]
      | inr u ↦ elim u [
        | inl p ↦ elim (which a b c j y f) [ inl q ↦ absurd (ab (cc)) | inr v ↦ elim v [ inl q ↦ cc | inr q ↦ absurd (bc (cc)) ] ]
        | inr p ↦ elim (which a b c j y f) [ inl q ↦ absurd (ac (cc)) | inr v ↦ elim v [ inl q ↦ absurd (bc (cc)) | inr q ↦ cc ] ]
      ]
    ]

-- of three only the last may be written
last : (a b c : ArrayRef) → a.writable ≡ false → b.writable ≡ false → (i : ℕ) (x : ArrayRef) → slice_get (a ∷ b ∷ c ∷ []) i ≡ Some x → x.writable ≡ true → (i ≡ 2) × (x ≡ c)
last a b c p q i x e w = elim (which a b c i x e) [ inl u ↦ cc | inr v ↦ elim v [ inl u ↦ cc | inr u ↦ u ] ]

pub are : (a b c : ArrayRef) (n : ℕ) → (a.file.bytes ≡ b.file.bytes → ⊥) → (a.file.bytes ≡ c.file.bytes → ⊥) → (b.file.bytes ≡ c.file.bytes → ⊥)
    → tile_words a.shape ≤ n → tile_words b.shape ≤ n → tile_words c.shape ≤ n → a.writable ≡ false → b.writable ≡ false → c.form ≡ One → AreArrays (a ∷ b ∷ c ∷ []) n
are a b c n ab ac bc fa fb fc wa wb one = record {
  few = omega arith;
  different = different a b c ab ac bc;
  fit = each (λ x. tile_words x.shape ≤ n) a b c fa fb fc;
  writable = λ i j x y e f v w. let p = last a b c wa wb i x e v in let q = last a b c wa wb j y f w in cc;
  form = λ i x e w. let p = last a b c wa wb i x e w in cc;
}

pub returns-in-One : goal.returns-in-One
returns-in-One c h =
    let a = c.a-item.result in
    let b = c.b-item.result in
    let d = c.c-item.result in
    let list : c.args.arrays.now ≡ a ∷ b ∷ d ∷ [] = three c.args.arrays.now a b d c.in-len3.len_at_least c.in-len3.len_below c.a-item.is c.b-item.is c.c-item.is in
    subst (λ xs. AreArrays xs c.args.frame_words) (sym list)
    (are a b d c.args.frame_words (c.if-not-are_apart.ensures refl) (c.if-not-are_apart-2.ensures refl) (c.if-not-are_apart-3.ensures refl)
    (c.if-not-fits.ensures refl) (c.if-not-fits-2.ensures refl) (c.if-not-fits-3.ensures refl) c.if-a.false c.if-b.false c.in-One.is)
