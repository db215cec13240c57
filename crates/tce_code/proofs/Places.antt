-- When two assignments give one place.
use Rattle.std.proofs.Common.{◌≡◌, ℕ, ◌<◌, true, false, filter, arith}
use Rattle.std.specs.List.{range_with_len}
use Rattle.std.specs.Prelude.{bytes_eq}
use Rattle.std.proofs.lemmas.Bool.{false_from_ne_true}
use Rattle.std.proofs.lemmas.Slice.Eq.{bytes_eq-Decides}
use Rattle.tce_space.specs.IndexSet.{has, members}
use Rattle.tce_tree.specs.Value.{Assignment}
use Rattle.tce_code.specs.Execution.{coordinates}
use Rattle.tce_tree.proofs.Lists.{among-filter, filter-among, among-range}
use Rattle.tce_tree.proofs.Values.{map-same}
use Rattle.tce_tree.proofs.Assignments.{same_at}

pub coordinates-same : (set : ℕ) (a b : Assignment) → ((i : ℕ) → has set i ≡ true → a i ≡ b i) → bytes_eq (coordinates set a) (coordinates set b) ≡ true
unfolding members
coordinates-same set a b h =
    (bytes_eq-Decides (coordinates set a) (coordinates set b)).1
    (map-same (filter (has set) (range_with_len 0 24)) a b (λ i m. h i (among-filter (has set) (range_with_len 0 24) i m).0))

pub coordinates-other : (set : ℕ) (a b : Assignment) (i : ℕ) → has set i ≡ true → i < 24 → (a i ≡ b i → ⊥)
    → bytes_eq (coordinates set a) (coordinates set b) ≡ false
unfolding members
coordinates-other set a b i h l ne =
    false_from_ne_true (bytes_eq (coordinates set a) (coordinates set b)) (λ e.
    ne (same_at (filter (has set) (range_with_len 0 24)) a b i ((bytes_eq-Decides (coordinates set a) (coordinates set b)).0 e)
    (filter-among (has set) (range_with_len 0 24) i h (among-range 0 24 i (omega arith) (omega arith)))))
