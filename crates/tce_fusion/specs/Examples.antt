-- Worked fusions, with what the definitions give for them.
use Rattle.std.specs.Prelude.{◌≡◌, ℕ, List, [], ◌∷◌, map, filter, codes}
use Rattle.std.specs.List.{range_with_len}
use Rattle.tce_space.specs.IndexSet.{set_of, empty}
use Rattle.tce_space.specs.Space.{IndexSpace, Range, Index}
use Rattle.tce_tree.specs.Examples.{two_sums, three_sums}
use Rattle.tce_fusion.specs.Scope.{scope, scope_size}
use Rattle.tce_tree.specs.Memory.{memory}

abbrev pub range_of : List ℕ → ℕ → Range
range_of name extent = record { name = name; extent = extent; edge = 1 }

-- the indexes of one range, by their letters
abbrev pub indexes_of : List ℕ → ℕ → List Index
indexes_of letters number = map (λ letter. record { name = letter ∷ []; of_range = number }) letters

-- i of extent 5, j of extent 7, k and l of extent 2
abbrev pub short_space : IndexSpace
short_space = record {
  ranges = range_of (codes "I") 5 ∷ range_of (codes "J") 7 ∷ range_of (codes "K") 2 ∷ [];
  indexes = record { name = codes "i"; of_range = 0 } ∷ record { name = codes "j"; of_range = 1 } ∷ indexes_of (codes "kl") 2;
}

-- a to f of extent 3000, i to l of extent 100
abbrev pub long_space : IndexSpace
long_space = record {
  ranges = range_of (codes "V") 3000 ∷ range_of (codes "O") 100 ∷ [];
  indexes =
      record { name = codes "a"; of_range = 0 } ∷ record { name = codes "b"; of_range = 0 } ∷ record { name = codes "c"; of_range = 0 }
      ∷ record { name = codes "d"; of_range = 0 } ∷ record { name = codes "e"; of_range = 0 } ∷ record { name = codes "f"; of_range = 0 }
      ∷ indexes_of (codes "ijkl") 1;
}

-- b, c, d, e, f, l; b, c, d, f; b, c, d, f, j, k; b, c; a, b, c, i, j, k; none
abbrev pub least_fusion : List ℕ
least_fusion =
    set_of (1 ∷ 2 ∷ 3 ∷ 4 ∷ 5 ∷ 9 ∷ []) ∷ set_of (1 ∷ 2 ∷ 3 ∷ 5 ∷ []) ∷ set_of (1 ∷ 2 ∷ 3 ∷ 5 ∷ 7 ∷ 8 ∷ [])
    ∷ set_of (1 ∷ 2 ∷ []) ∷ set_of (0 ∷ 1 ∷ 2 ∷ 6 ∷ 7 ∷ 8 ∷ []) ∷ empty ∷ []

-- the sizes of the scopes of some indexes at a node
abbrev pub sizes_at : ℕ → List ℕ → List ℕ
sizes_at v indexes = map (λ i. scope_size three_sums least_fusion i v) indexes

pub record WorkedFusions : Type 0 where
  pub both : memory short_space two_sums (set_of (0 ∷ []) ∷ set_of (1 ∷ []) ∷ empty ∷ []) ≡ 2
  pub second : memory short_space two_sums (empty ∷ set_of (1 ∷ []) ∷ empty ∷ []) ≡ 6
  pub first : memory short_space two_sums (set_of (0 ∷ []) ∷ empty ∷ empty ∷ []) ≡ 8
  -- with both fused the scopes of i and j at the root overlap, and neither contains the other
  pub crossing : map (λ i. filter (scope two_sums (set_of (0 ∷ []) ∷ set_of (1 ∷ []) ∷ empty ∷ []) i 2) (range_with_len 0 3)) (0 ∷ 1 ∷ []) ≡ (0 ∷ 2 ∷ []) ∷ (1 ∷ 2 ∷ []) ∷ []
  pub long : memory long_space three_sums least_fusion ≡ 10004
  pub sizes_first : sizes_at 0 (1 ∷ 2 ∷ 3 ∷ 5 ∷ 4 ∷ 9 ∷ []) ≡ 6 ∷ 6 ∷ 4 ∷ 4 ∷ 2 ∷ 2 ∷ []
  pub sizes_third : sizes_at 2 (1 ∷ 2 ∷ 3 ∷ 5 ∷ 7 ∷ 8 ∷ []) ≡ 6 ∷ 6 ∷ 4 ∷ 4 ∷ 2 ∷ 2 ∷ []
  pub sizes_last : sizes_at 5 (1 ∷ 2 ∷ 0 ∷ 6 ∷ 7 ∷ 8 ∷ []) ≡ 6 ∷ 6 ∷ 2 ∷ 2 ∷ 2 ∷ 2 ∷ []
