-- The sums that loops leave.
use Rattle.std.proofs.Common.{◌≡◌, ◌∙◌, refl, sym, ap, ℕ, zero, suc, ◌+◌, ◌<◌, ◌^◌, eqb, if◌then◌else◌, List, [], ◌∷◌, map, length, slice_index, inl, inr, zero-add}
use Rattle.std.specs.List.{flat_map, range_with_len, fold}
use Rattle.std.proofs.lemmas.Bool.{cases_Bool}
use Rattle.std.proofs.lemmas.List.Sums.{fold-append}
use Rattle.tce_base.specs.Word.{wrapping_add}
use Rattle.tce_base.proofs.Words.{plus_assoc, plus-zero, plus-lt}
use Rattle.tce_space.specs.Box.{places, IsInside}
use Rattle.tce_tree.specs.Value.{Assignment, with_number, sum_below, sum_over}
use Rattle.tce_block.specs.Results.{assigned, AreAssigned}
use Rattle.tce_block.specs.Turns.{IsMade}
use Rattle.tce_block.proofs.Folds.{each_inside, flat_more, fold_same, fold_under}

-- the turns of one loop, where each number's turns add one sum
numbers_add : (step : ℕ → List ℕ → ℕ) (ns : List ℕ) (s : ℕ → ℕ) (n w : ℕ) → w < 2 ^ 64
    → ((x v : ℕ) → v < 2 ^ 64 → fold (λ u xs. step u (x ∷ xs)) v (places ns) ≡ wrapping_add v (s x))
    → fold step w (flat_map (λ x. map (λ xs. x ∷ xs) (places ns)) (range_with_len 0 n)) ≡ wrapping_add w (sum_below n s)
numbers_add step ns s zero w low each = sym (plus-zero w low)
numbers_add step ns s (suc n) w low each =
    let turns = λ (x : ℕ). map (λ xs. x ∷ xs) (places ns) in
    ap (fold step w) (flat_more turns 0 n)
    ∙ fold-append step w (flat_map turns (range_with_len 0 n)) (turns (0 + n))
    ∙ ap (λ v. fold step v (turns (0 + n))) (numbers_add step ns s n w low each)
    ∙ fold_under step (0 + n) (wrapping_add w (sum_below n s)) (places ns)
    ∙ each (0 + n) (wrapping_add w (sum_below n s)) (plus-lt w (sum_below n s))
    ∙ plus_assoc w (sum_below n s) (s (0 + n))
    ∙ ap (λ x. wrapping_add w (wrapping_add (sum_below n s) (s x))) (zero-add n)

turns_add : (extent : ℕ → ℕ) (indexes : List ℕ) (at f : Assignment → ℕ) (a : Assignment) (k w : ℕ) → w < 2 ^ 64
    → fold (λ v xs. if eqb (at (assigned a indexes xs)) k then wrapping_add v (f (assigned a indexes xs)) else v) w (places (map extent indexes))
    ≡ wrapping_add w (sum_over extent indexes (λ b. if eqb (at b) k then f b else 0) a)
turns_add extent [] at f a k w low =
    elim (cases_Bool (eqb (at a) k)) [
      | inl here ↦ rw here refl
      | inr other ↦ rw other (sym (plus-zero w low))
    ]
turns_add extent (i ∷ rest) at f a k w low =
    numbers_add (λ v xs. if eqb (at (assigned a (i ∷ rest) xs)) k then wrapping_add v (f (assigned a (i ∷ rest) xs)) else v) (map extent rest)
    (λ x. sum_over extent rest (λ b. if eqb (at b) k then f b else 0) (with_number a i x)) (extent i) w low
    (λ x v short. turns_add extent rest at f (with_number a i x) k v short)

pub growths_add_up : (extent : ℕ → ℕ) (indexes : List ℕ) (at f : Assignment → ℕ) (a : Assignment) (place word : List ℕ → ℕ) (old new : List ℕ) (k : ℕ)
    → IsMade (λ w xs. wrapping_add w (word xs)) place (places (map extent indexes)) old new → AreAssigned extent indexes a place word at f
    → k < length old → slice_index old k < 2 ^ 64
    → slice_index new k ≡ wrapping_add (slice_index old k) (sum_over extent indexes (λ b. if eqb (at b) k then f b else 0) a)
growths_add_up extent indexes at f a place word old new k made are lt low =
    made.made k lt
    ∙ fold_same (IsInside (map extent indexes)) (λ w xs. if eqb (place xs) k then wrapping_add w (word xs) else w)
    (λ w xs. if eqb (at (assigned a indexes xs)) k then wrapping_add w (f (assigned a indexes xs)) else w)
    (slice_index old k) (places (map extent indexes)) (each_inside (map extent indexes))
    (λ w xs inside. ap (λ j. if eqb j k then wrapping_add w (word xs) else w) (are xs inside).0
    ∙ ap (λ v. if eqb (at (assigned a indexes xs)) k then wrapping_add w v else w) (are xs inside).1)
    ∙ turns_add extent indexes at f a k (slice_index old k) low
