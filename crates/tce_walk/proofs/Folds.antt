-- Folds over states and over words.
use Rattle.std.proofs.Common.{◌≡◌, ℕ, suc, ◌<◌, ◌^◌, Some, List, [], ◌∷◌, map, refl, sym, ap, ◌∙◌}
use Rattle.std.specs.List.{fold}
use Rattle.std.specs.Prelude.{slice_get}
use Rattle.tce_base.specs.Word.{wrapping_add, wrapping_sum}
use Rattle.tce_base.proofs.Words.{plus_assoc, plus-zero, plus-lt}
use Rattle.tce_block.proofs.Words.{total, total-cons, total-nil}
use Rattle.tce_code.specs.Execution.{State}

-- two steps that do the same wherever a fact holds that the second keeps
pub fold-same : {X W : Type 0} (P : W → Type 0) (f g : W → X → W) → ((w : W) (x : X) → P w → f w x ≡ g w x) → ((w : W) (x : X) → P w → P (g w x))
    → (w : W) (xs : List X) → P w → fold f w xs ≡ fold g w xs
fold-same P f g same keeps w [] h = refl
fold-same P f g same keeps w (x ∷ xs) h = ap (λ v. fold f v xs) (same w x h) ∙ fold-same P f g same keeps (g w x) xs (keeps w x h)

-- a step that changes each place by itself
pub fold-at : {X : Type 0} (step : State → X → State) (turn : ℕ → X → ℕ) (u : ℕ) (p : List ℕ) → ((state : State) (x : X) → step state x u p ≡ turn (state u p) x)
    → (state : State) (xs : List X) → fold step state xs u p ≡ fold turn (state u p) xs
fold-at step turn u p same state [] = refl
fold-at step turn u p same state (x ∷ xs) = fold-at step turn u p same (step state x) xs ∙ ap (λ w. fold turn w xs) (same state x)

pub fold-idle : {X W : Type 0} (step : W → X → W) (w : W) (xs : List X) → ((k : ℕ) (x : X) → slice_get xs k ≡ Some x → step w x ≡ w) → fold step w xs ≡ w
fold-idle step w [] h = refl
fold-idle step w (x ∷ xs) h = ap (λ v. fold step v xs) (h 0 x refl) ∙ fold-idle step w xs (λ k y e. h (suc k) y e)

pub fold-plus : {X : Type 0} (g : X → ℕ) (w : ℕ) (xs : List X) → ((x : X) → g x < 2 ^ 64) → w < 2 ^ 64
    → fold (λ v x. wrapping_add v (g x)) w xs ≡ wrapping_add w (wrapping_sum (map g xs))
unfolding total
fold-plus g w [] low h = sym (ap (wrapping_add w) (total-nil g) ∙ plus-zero w h)
fold-plus g w (x ∷ xs) low h =
    fold-plus g (wrapping_add w (g x)) xs low (plus-lt w (g x))
    ∙ plus_assoc w (g x) (total g xs)
    ∙ ap (wrapping_add w) (sym (total-cons g x xs (low x)))
