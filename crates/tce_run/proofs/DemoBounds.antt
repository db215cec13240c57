-- Bounds of volumes, sums and products over the extents of a demonstration.
use Rattle.std.proofs.Common.{ℕ, zero, suc, ◌+◌, ◌*◌, ◌≤◌, List, [], ◌∷◌, fold, arith, mul-le-mul}
use Rattle.std.specs.List.{sum_by}
use Rattle.tce_space.specs.IndexSet.{members, volume}
use Rattle.tce_space.specs.Space.{range_at, index_at, extent_at, volume_of}
use Rattle.tce_run.specs.DemoSpecification.{demo_space}

fold_le : (f g : ℕ → ℕ) → ((i : ℕ) → f i ≤ g i) → (xs : List ℕ) (a b : ℕ) → a ≤ b → fold (λ product i. product * f i) a xs ≤ fold (λ product i. product * g i) b xs
fold_le f g le [] a b h = h
fold_le f g le (x ∷ xs) a b h = fold_le f g le xs (a * f x) (b * g x) (mul-le-mul h (le x))

-- smaller extents have a smaller volume
pub volume_le : (f g : ℕ → ℕ) → ((i : ℕ) → f i ≤ g i) → (set : ℕ) → volume f set ≤ volume g set
unfolding volume
volume_le f g le set = fold_le f g le (members set) 1 1 (omega arith)

add_le : (a b c d : ℕ) → a ≤ b → c ≤ d → a + c ≤ b + d
add_le a b c d h k = omega arith

added_le : (f g : ℕ → ℕ) → ((i : ℕ) → f i ≤ g i) → (xs : List ℕ) (a b : ℕ) → a ≤ b → fold (λ total i. total + f i) a xs ≤ fold (λ total i. total + g i) b xs
added_le f g le [] a b h = h
added_le f g le (x ∷ xs) a b h = added_le f g le xs (a + f x) (b + g x) (add_le a b (f x) (g x) h (le x))

pub sum_le : (f g : ℕ → ℕ) → ((i : ℕ) → f i ≤ g i) → (xs : List ℕ) → sum_by f xs ≤ sum_by g xs
sum_le f g le xs = added_le f g le xs 0 0 (omega arith)

range_le : (v o : ℕ) → v ≤ 32 → o ≤ 32 → (r : ℕ) → (range_at (demo_space v o) r).extent ≤ 32
range_le v o hv ho zero = hv
range_le v o hv ho (suc zero) = ho
range_le v o hv ho (suc (suc r)) = omega arith

-- no extent is above 32
pub demo_volume_le : (v o : ℕ) → v ≤ 32 → o ≤ 32 → (set : ℕ) → volume_of (demo_space v o) set ≤ volume (λ _. 32) set
demo_volume_le v o hv ho set = volume_le (extent_at (demo_space v o)) (λ _. 32) (λ i. range_le v o hv ho (index_at (demo_space v o) i).of_range) set
