-- A file has one right answer.
use Rattle.std.proofs.Common.{◌≡◌, ◌≢◌, ◌∙◌, ℕ, ◌<◌, List, take, slice_index, Option, Some, None, Result, Ok, Err, refl, sym, ap, inl, inr, arith}
use Rattle.std.proofs.lemmas.Bool.{cases_lt}
use Rattle.std.proofs.lemmas.List.{get_or-take}
use Rattle.tce_space.specs.Tiling.{Tiling}
use Rattle.tce_array.specs.declared.form.Form.{Form}
use Rattle.tce_array.specs.declared.fault.ArrayFault.{ArrayFault}
use Rattle.tce_array.specs.declared.fault.ArrayFault.TheVariants.{NoFile, BadLength, BadHeader, Disk}
use Rattle.tce_array.specs.Faults.{DifferFirst, IsAnswer, IsOnlyAnswer}

-- the first place at which two lists differ is one
pub first_alone : (xs ys : List ℕ) (p q : ℕ) → DifferFirst xs ys p → DifferFirst xs ys q → p ≡ q
first_alone xs ys p q h k =
    elim (cases_lt p q) [
      | inl below ↦ absurd (h.differ (before p q below k.same))
      | inr above ↦ elim (cases_lt q p) [
        | inl below ↦ absurd (k.differ (before q p below h.same))
        | inr same ↦ omega arith
      ]
    ]
  where
    before : (i n : ℕ) → i < n → take n xs ≡ take n ys → slice_index xs i ≡ slice_index ys i
    before i n l e = sym (get_or-take n xs i 0 l) ∙ ap (λ l. slice_index l i) e ∙ get_or-take n ys i 0 l

-- lists that differ are not the same
pub not_same : (xs ys : List ℕ) (p : ℕ) → DifferFirst xs ys p → xs ≡ ys → ⊥
not_same xs ys p h e = h.differ (ap (λ l. slice_index l p) e)

pub agree : (s : Tiling) (found : Option (List ℕ)) (x y : Result Form ArrayFault) → IsAnswer s found x → IsAnswer s found y → x ≢ Err Disk → y ≢ Err Disk → x ≡ y
agree s found x (Err Disk) h k n m = absurd (m refl)
agree s found (Err Disk) y h k n m = absurd (n refl)
agree s None (Ok f) y h k n m = absurd h
agree s None x (Ok g) h k n m = absurd k
agree s None (Err (BadLength a)) y h k n m = absurd h
agree s None x (Err (BadLength b)) h k n m = absurd k
agree s None (Err (BadHeader p)) y h k n m = absurd h
agree s None x (Err (BadHeader q)) h k n m = absurd k
agree s None (Err NoFile) (Err NoFile) h k n m = refl
agree s (Some bytes) (Err NoFile) y h k n m = cc
agree s (Some bytes) x (Err NoFile) h k n m = cc
agree s (Some bytes) (Ok f) (Ok g) h k n m = ap Ok (sym h.0 ∙ k.0)
agree s (Some bytes) (Ok f) (Err (BadLength b)) h k n m = absurd (k.1 (sym k.0 ∙ h.1.whole))
agree s (Some bytes) (Ok f) (Err (BadHeader q)) h k n m = absurd (not_same _ _ q k.1 h.1.begins)
agree s (Some bytes) (Err (BadLength a)) (Ok g) h k n m = absurd (h.1 (sym h.0 ∙ k.1.whole))
agree s (Some bytes) (Err (BadLength a)) (Err (BadLength b)) h k n m = ap (λ i. Err (BadLength i)) (sym h.0 ∙ k.0)
agree s (Some bytes) (Err (BadLength a)) (Err (BadHeader q)) h k n m = absurd (h.1 (sym h.0 ∙ k.0))
agree s (Some bytes) (Err (BadHeader p)) (Ok g) h k n m = absurd (not_same _ _ p h.1 k.1.begins)
agree s (Some bytes) (Err (BadHeader p)) (Err (BadLength b)) h k n m = absurd (k.1 (sym k.0 ∙ h.0))
agree s (Some bytes) (Err (BadHeader p)) (Err (BadHeader q)) h k n m = ap (λ i. Err (BadHeader i)) (first_alone _ _ p q h.1 k.1)

-- so no other answer is right
pub only_answer : (s : Tiling) (found : Option (List ℕ)) (result : Result Form ArrayFault) → result ≢ Err Disk → IsAnswer s found result → IsOnlyAnswer s found result
only_answer s found result n h answer k m = inl (agree s found result answer h k n m)
