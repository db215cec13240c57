-- The tree of a demonstration has no fault.
use Rattle.std.proofs.Common.{◌≡◌, ℕ, ◌^◌, ◌≤◌, false, nat_lt, [], ◌∷◌, Option, None, refl, arith}
use Rattle.std.specs.Option.{option_or}
use Rattle.tce_space.specs.IndexSet.{has, with_index, union, minus, members, count, volume}
use Rattle.tce_space.specs.Space.{IndexSpace, volume_of}
use Rattle.tce_tree.specs.ContractionTree.{multiply, leaf, binary, dims, loops}
use Rattle.tce_tree.specs.Faults.{Fault, loops_fault, sum_fault, nodes_fault, fault_of}
use Rattle.tce_tree.specs.Measure.{IsMeasured}
use Rattle.tce_tree.proofs.FaultLaws.{is_measured}
use Rattle.tce_spec.proofs.Meanings.{not_above}
use Rattle.tce_run.specs.DemoSpecification.{IsExtent, demo_space, first_sum, second_sum, demo_tree}
use Rattle.tce_run.proofs.DemoBounds.{demo_volume_le}

-- few loops with few iterations have no fault
loops_fine : (space : IndexSpace) (v set : ℕ) → nat_lt 10 (count set) ≡ false → volume_of space set ≤ 2 ^ 90 → loops_fault space v set ≡ None
unfolding loops_fault
loops_fine space v set few small = rw few (rw (not_above (2 ^ 90) (volume_of space set) small))

-- none of three has a fault
three_fine : (a b c : Option Fault) → a ≡ None → b ≡ None → c ≡ None → option_or a (option_or b c) ≡ None
three_fine a b c p q r = rw p (rw q r)

-- the loops of the three products are few, and so are their iterations
few_first : nat_lt 10 (count (loops first_sum)) ≡ false
unfolding count members has with_index union minus
few_first = refl

few_second : nat_lt 10 (count (loops second_sum)) ≡ false
unfolding count members has with_index union minus
few_second = refl

few_third : nat_lt 10 (count (loops demo_tree)) ≡ false
unfolding count members has with_index union minus
few_third = refl

volume_first : volume (λ _. 32) (loops first_sum) ≡ 1073741824
unfolding volume members has with_index union minus
volume_first = refl

volume_second : volume (λ _. 32) (loops second_sum) ≡ 1073741824
unfolding volume members has with_index union minus
volume_second = refl

volume_third : volume (λ _. 32) (loops demo_tree) ≡ 1073741824
unfolding volume members has with_index union minus
volume_third = refl

sums_first : (space : IndexSpace) → sum_fault space (4 ∷ 9 ∷ []) (dims (binary multiply (leaf 1 (1 ∷ 4 ∷ 5 ∷ 9 ∷ [])) (leaf 3 (2 ∷ 3 ∷ 4 ∷ 9 ∷ [])))) ≡ None
unfolding sum_fault has with_index union minus
sums_first space = refl

sums_second : (space : IndexSpace) → sum_fault space (3 ∷ 5 ∷ []) (dims (binary multiply first_sum (leaf 2 (3 ∷ 5 ∷ 7 ∷ 8 ∷ [])))) ≡ None
unfolding sum_fault has with_index union minus
sums_second space = refl

sums_third : (space : IndexSpace) → sum_fault space (2 ∷ 8 ∷ []) (dims (binary multiply second_sum (leaf 0 (0 ∷ 2 ∷ 6 ∷ 8 ∷ [])))) ≡ None
unfolding sum_fault has with_index union minus
sums_third space = refl

-- the loops of the products have at most 32 ^ 6 iterations
within : (v o set : ℕ) → IsExtent v → IsExtent o → volume (λ _. 32) set ≡ 1073741824 → volume_of (demo_space v o) set ≤ 2 ^ 90
within v o set hv ho e = omega (arith, e, demo_volume_le v o hv.1 ho.1 set)

-- no node has a fault
pub nodes_faultless : (v o : ℕ) → IsExtent v → IsExtent o → nodes_fault (demo_space v o) 0 demo_tree ≡ None
nodes_faultless v o hv ho =
    let one = λ (n : ℕ). loops_fine (demo_space v o) n (loops first_sum) few_first (within v o (loops first_sum) hv ho volume_first) in
    let two = λ (n : ℕ). loops_fine (demo_space v o) n (loops second_sum) few_second (within v o (loops second_sum) hv ho volume_second) in
    let three = λ (n : ℕ). loops_fine (demo_space v o) n (loops demo_tree) few_third (within v o (loops demo_tree) hv ho volume_third) in
    three_fine _ _ _
    (three_fine _ _ _
    (three_fine _ _ _
    (three_fine _ _ _
    (three_fine _ _ _
    (three_fine _ _ _ refl refl (one 0))
    (sums_first (demo_space v o)) (one 1))
    refl (two 2))
    (sums_second (demo_space v o)) (two 3))
    refl (three 4))
    (sums_third (demo_space v o)) (three 5)

pub faultless : (v o : ℕ) → IsExtent v → IsExtent o → fault_of (demo_space v o) demo_tree ≡ None
unfolding fault_of
faultless v o hv ho = nodes_faultless v o hv ho

pub measured : (v o : ℕ) → IsExtent v → IsExtent o → IsMeasured (demo_space v o) demo_tree
measured v o hv ho = is_measured (demo_space v o) demo_tree refl (nodes_faultless v o hv ho)
