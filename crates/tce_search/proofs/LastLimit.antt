-- The fusion that fuses nothing is legal, and takes less memory than the last limit.
use Rattle.std.proofs.Common.{◌≡◌, ℕ, ◌+◌, ◌-◌, ◌*◌, ◌^◌, ◌<◌, ◌≤◌, List, replicate, ◌∙◌, subst, sym, arith, sum_by}
use Rattle.std.specs.List.{All, range_with_len}
use Rattle.std.proofs.lemmas.List.FromFn.{length-range_with_len, get_or-range_with_len}
use Rattle.std.proofs.lemmas.List.Sums.{sum_by-le}
use Rattle.tce_space.specs.Space.{IndexSpace, IsSpace}
use Rattle.tce_tree.specs.ContractionTree.{ContractionTree, left_tree, right_tree, operations}
use Rattle.tce_tree.specs.Fusion.{fused_at, kept_dims}
use Rattle.tce_tree.specs.Measure.{IsMeasured}
use Rattle.tce_tree.specs.Memory.{size_at, size_before, memory}
use Rattle.tce_fusion.specs.Scope.{IsLegal}
use Rattle.tce_fusion.proofs.SizeLaws.{kept_small}
use Rattle.tce_fusion.specs.State.{first_right}
use Rattle.tce_fusion.proofs.LegalStates.{legal_from_states}
use Rattle.tce_fusion.proofs.Unfused.{joined_unfused, state_unfused, zeros_fuse_nothing, zeros_fit}
use Rattle.tce_search.specs.LeastPlan.{IsBelowFusions}

pub zeros_legal : (tree : ContractionTree) → IsLegal tree (replicate (operations tree) 0)
zeros_legal tree =
    let unfused = zeros_fuse_nothing (operations tree) in
    legal_from_states tree (replicate (operations tree) 0) (zeros_fit tree) (record {
      left = state_unfused (replicate (operations tree) 0) unfused (left_tree tree) 0;
      right = state_unfused (replicate (operations tree) 0) unfused (right_tree tree) (first_right 0 tree);
      root = joined_unfused (replicate (operations tree) 0) unfused tree 0;
    })

size_small : (space : IndexSpace) (tree : ContractionTree) (fusion : List ℕ) (v : ℕ) → IsSpace space → IsMeasured space tree → v < operations tree → size_at space tree fusion v ≤ 2 ^ 90
unfolding size_at kept_dims
size_small space tree fusion v is_space measured inside = kept_small space tree v (fused_at fusion v) is_space measured inside

sizes_small : (space : IndexSpace) (tree : ContractionTree) (fusion : List ℕ) → IsSpace space → IsMeasured space tree
    → All (λ (v : ℕ). size_at space tree fusion v ≤ 2 ^ 90) (range_with_len 0 (operations tree - 1))
sizes_small space tree fusion is_space measured k d low =
    let few : k < operations tree - 1 = subst (λ n. k < n) (length-range_with_len 0 (operations tree - 1)) low in
    let number : 0 + k ≡ k = omega arith in
    subst (λ v. size_at space tree fusion v ≤ 2 ^ 90) (sym (get_or-range_with_len 0 (operations tree - 1) k d few ∙ number))
    (size_small space tree fusion k is_space measured (omega (arith, few)))

memory_small : (space : IndexSpace) (tree : ContractionTree) (fusion : List ℕ) → IsSpace space → IsMeasured space tree → memory space tree fusion ≤ (operations tree - 1) * 2 ^ 90
unfolding memory size_before
memory_small space tree fusion is_space measured =
    subst (λ n. sum_by (size_at space tree fusion) (range_with_len 0 (operations tree - 1)) ≤ n * 2 ^ 90) (length-range_with_len 0 (operations tree - 1))
    (sum_by-le (size_at space tree fusion) (2 ^ 90) (range_with_len 0 (operations tree - 1)) (sizes_small space tree fusion is_space measured))

-- so no limit from there on is below all fusions
pub last_limit : (space : IndexSpace) (tree : ContractionTree) (limit : ℕ) → IsSpace space → IsMeasured space tree → operations tree ≤ 32 → 2 ^ 95 ≤ limit → IsBelowFusions space tree limit → ⊥
last_limit space tree limit is_space measured few high below =
    let memory_high = below (replicate (operations tree) 0) (zeros_fit tree) (zeros_legal tree) in
    let memory_low = memory_small space tree (replicate (operations tree) 0) is_space measured in
    omega (arith, memory_high, memory_low, few, high)
