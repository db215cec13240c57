-- A demonstration can be afforded.
use Rattle.std.proofs.Common.{◌≡◌, ℕ, zero, suc, ◌*◌, ◌/◌, ◌^◌, ◌<◌, ◌≤◌, min, max, List, [], ◌∷◌, fold, replicate, refl, sym, subst, arith, mul-le-mul_left}
use Rattle.std.specs.List.{sum_by, range_with_len}
use Rattle.tce_space.specs.IndexSet.{has, with_index, union, minus, members, volume}
use Rattle.tce_space.specs.Tiling.{tile_words}
use Rattle.tce_tree.specs.ContractionTree.{node, node_dims, operations}
use Rattle.tce_tree.specs.Fusion.{kept_dims}
use Rattle.tce_tree.specs.Memory.{size_at, size_before, memory}
use Rattle.tce_fusion.proofs.Unfused.{zeros_fit}
use Rattle.tce_search.proofs.LastLimit.{zeros_legal}
use Rattle.tce_spec.specs.Specification.{Specification, IsSpecification}
use Rattle.tce_spec.specs.Operands.{operands, shape_of, largest_tile}
use Rattle.tce_job.specs.Takings.{tile_count, tile_take}
use Rattle.tce_job.proofs.Tiles.{largest_some}
use Rattle.tce_job.specs.Refusals.{IsLeastMemory, IsAffordable}
use Rattle.tce_run.specs.DemoSpecification.{IsExtent, IsDemo, demo_space, demo_tree, demo_specification}
use Rattle.tce_run.proofs.DemoBounds.{sum_le, demo_volume_le}
use Rattle.tce_run.proofs.DemoDeclared.{tile_le}
use Rattle.tce_run.proofs.DemoSpecified.{rules}
use Rattle.tce_run.specs.DemoDone.{demo_budget}

largest_le : (f : ℕ → ℕ) (m : ℕ) → ((t : ℕ) → f t ≤ m) → (ts : List ℕ) (a : ℕ) → a ≤ m → fold (λ largest t. max largest (f t)) a ts ≤ m
largest_le f m le [] a h = h
largest_le f m le (t ∷ ts) a h = largest_le f m le ts (max a (f t)) (omega (arith, le t))

tiles_small : (v o t : ℕ) → tile_words (shape_of (demo_specification v o) t) ≤ 256
tiles_small v o zero = tile_le v o 0 0 1 1 (omega arith) (omega arith) (omega arith) (omega arith)
tiles_small v o (suc zero) = tile_le v o 0 0 0 1 (omega arith) (omega arith) (omega arith) (omega arith)
tiles_small v o (suc (suc zero)) = tile_le v o 0 0 1 1 (omega arith) (omega arith) (omega arith) (omega arith)
tiles_small v o (suc (suc (suc zero))) = tile_le v o 0 0 0 1 (omega arith) (omega arith) (omega arith) (omega arith)
tiles_small v o (suc (suc (suc (suc zero)))) = tile_le v o 0 0 1 1 (omega arith) (omega arith) (omega arith) (omega arith)
tiles_small v o (suc (suc (suc (suc (suc t))))) = omega arith

largest_small : (v o : ℕ) → largest_tile (demo_specification v o) ≤ 256
largest_small v o =
    largest_le (λ t. tile_words (shape_of (demo_specification v o) t)) 256 (tiles_small v o) (operands (demo_specification v o)) (tile_words (shape_of (demo_specification v o) 4)) (tiles_small v o 4)

-- the sizes of all nodes but the root where nothing is fused and each extent is 32
abbrev largest_size : ℕ → ℕ
largest_size v = volume (λ _. 32) (kept_dims demo_tree (replicate (operations demo_tree) 0) v)

largest_memory : sum_by largest_size (range_with_len 0 5) ≡ 3223322624
unfolding volume members has kept_dims node_dims node with_index union minus
largest_memory = refl

size_le : (v o : ℕ) → v ≤ 32 → o ≤ 32 → (n : ℕ) → size_at (demo_space v o) demo_tree (replicate (operations demo_tree) 0) n ≤ largest_size n
unfolding size_at
size_le v o hv ho n = demo_volume_le v o hv ho (kept_dims demo_tree (replicate (operations demo_tree) 0) n)

memory_le : (v o : ℕ) → v ≤ 32 → o ≤ 32 → memory (demo_space v o) demo_tree (replicate (operations demo_tree) 0) ≤ sum_by largest_size (range_with_len 0 5)
unfolding memory size_before
memory_le v o hv ho = sum_le (size_at (demo_space v o) demo_tree (replicate (operations demo_tree) 0)) largest_size (size_le v o hv ho) (range_with_len 0 5)

memory_small : (v o n : ℕ) → v ≤ 32 → o ≤ 32 → IsLeastMemory (demo_specification v o) n → n ≤ 2 ^ 40
memory_small v o n hv ho least =
    let below : memory (demo_space v o) demo_tree least.fusion ≤ memory (demo_space v o) demo_tree (replicate (operations demo_tree) 0) =
    least.least.least (replicate (operations demo_tree) 0) (zeros_fit demo_tree) (zeros_legal demo_tree) in
    omega (arith, least.is, below, memory_le v o hv ho, largest_memory)

affordable_at : (v o : ℕ) → IsExtent v → IsExtent o → IsAffordable (demo_specification v o) 16384
affordable_at v o hv ho = record { enough = omega (arith, largest_small v o); small = λ n. memory_small v o n hv.1 ho.1 }

pub affordable : (s : Specification) → IsDemo s → IsAffordable s demo_budget
affordable s d = subst (λ (x : Specification). IsAffordable x 16384) (sym d.is) (affordable_at d.v d.o d.v_within d.o_within)

pub demo_rules : (s : Specification) → IsDemo s → IsSpecification s
demo_rules s d = subst IsSpecification (sym d.is) (rules d.v d.o d.v_within d.o_within)

-- the tiles are within the budget
frames_within : (words budget count : ℕ) → 0 < words → words * min (budget / words) count ≤ budget
frames_within words budget count some =
    let fewer : min (budget / words) count ≤ budget / words = omega arith in
    omega (arith, mul-le-mul_left words fewer)

pub take_within : (s : Specification) → IsDemo s → tile_take s demo_budget ≤ demo_budget
take_within s d = frames_within (largest_tile s) 16384 (max 3 (tile_count s)) (largest_some s (demo_rules s d))
