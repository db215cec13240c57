-- Worked slots.
use Rattle.std.specs.Prelude.{◌≡◌, ℕ, List, [], ◌∷◌, map, codes}
use Rattle.std.specs.List.{range_with_len}
use Rattle.tce_space.specs.IndexSet.{set_of}
use Rattle.tce_space.specs.Space.{IndexSpace}
use Rattle.tce_tree.specs.ContractionTree.{ContractionTree}
use Rattle.tce_tree.specs.Examples.{two_sums, three_sums}
use Rattle.tce_tree.specs.Fusion.{kept_dims}
use Rattle.tce_tree.specs.Memory.{size_before}
use Rattle.tce_layout.specs.Layout.{step_of}

-- i of extent 5, j of extent 7, k and l of extent 2
abbrev pub short_space : IndexSpace
short_space = record {
  ranges = (record { name = codes "I"; extent = 5; edge = 1 }) ∷ (record { name = codes "J"; extent = 7; edge = 1 }) ∷ (record { name = codes "K"; extent = 2; edge = 1 }) ∷ [];
  indexes = (record { name = codes "i"; of_range = 0 }) ∷ (record { name = codes "j"; of_range = 1 })
      ∷ (record { name = codes "k"; of_range = 2 }) ∷ (record { name = codes "l"; of_range = 2 }) ∷ [];
}

-- a to f of extent 3, i to l of extent 2
abbrev pub long_space : IndexSpace
long_space = record {
  ranges = (record { name = codes "V"; extent = 3; edge = 1 }) ∷ (record { name = codes "O"; extent = 2; edge = 1 }) ∷ [];
  indexes = map (λ (e : ℕ × ℕ). record { name = e.0 ∷ []; of_range = e.1 })
      ((97, 0) ∷ (98, 0) ∷ (99, 0) ∷ (100, 0) ∷ (101, 0) ∷ (102, 0) ∷ (105, 1) ∷ (106, 1) ∷ (107, 1) ∷ (108, 1) ∷ []);
}

-- the offsets of the nodes and the end of the last slot
abbrev pub offsets : IndexSpace → ContractionTree → List (List ℕ) → ℕ → List ℕ
offsets space tree fused nodes = map (size_before space tree (map set_of fused)) (range_with_len 0 nodes)

-- the steps of the first indexes at a node
abbrev pub steps : IndexSpace → ContractionTree → List (List ℕ) → ℕ → ℕ → List ℕ
steps space tree fused v indexes = map (step_of space (kept_dims tree (map set_of fused) v)) (range_with_len 0 indexes)

abbrev pub long_fused : List (List ℕ)
long_fused = (1 ∷ 2 ∷ 3 ∷ 4 ∷ 5 ∷ 9 ∷ []) ∷ (1 ∷ 2 ∷ 3 ∷ 5 ∷ []) ∷ (1 ∷ 2 ∷ 3 ∷ 5 ∷ 7 ∷ 8 ∷ []) ∷ (1 ∷ 2 ∷ []) ∷ (0 ∷ 1 ∷ 2 ∷ 6 ∷ 7 ∷ 8 ∷ []) ∷ [] ∷ []

pub record WorkedSlots : Type 0 where
  pub fused_sum : offsets short_space two_sums ([] ∷ (1 ∷ []) ∷ [] ∷ []) 3 ≡ 0 ∷ 5 ∷ 6 ∷ []
  pub unfused_sums : offsets short_space two_sums ([] ∷ [] ∷ [] ∷ []) 3 ≡ 0 ∷ 5 ∷ 12 ∷ []
  pub sum_steps : steps short_space two_sums ([] ∷ (1 ∷ []) ∷ [] ∷ []) 0 4 ≡ 1 ∷ 0 ∷ 0 ∷ 0 ∷ []
  pub fused_steps : steps short_space two_sums ([] ∷ (1 ∷ []) ∷ [] ∷ []) 1 4 ≡ 0 ∷ 0 ∷ 0 ∷ 0 ∷ []
  pub long_offsets : offsets long_space three_sums long_fused 6 ≡ 0 ∷ 1 ∷ 2 ∷ 3 ∷ 7 ∷ 8 ∷ []
  pub long_steps : steps long_space three_sums long_fused 3 10 ≡ 0 ∷ 0 ∷ 0 ∷ 0 ∷ 0 ∷ 0 ∷ 0 ∷ 2 ∷ 1 ∷ 0 ∷ []
  pub whole_steps : steps long_space three_sums ([] ∷ [] ∷ [] ∷ [] ∷ [] ∷ [] ∷ []) 0 10 ≡ 0 ∷ 162 ∷ 54 ∷ 18 ∷ 6 ∷ 2 ∷ 0 ∷ 0 ∷ 0 ∷ 1 ∷ []
