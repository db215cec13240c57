-- Worked pieces, with what the definitions give for them.
use Rattle.std.specs.Prelude.{◌≡◌, ℕ, true, false, [], ◌∷◌, map, ◌==◌}
use Rattle.tce_tree.specs.ContractionTree.{ContractionTree, leaf, binary, sum, multiply}
use Rattle.tce_tree.specs.Examples.{outer_product, two_sums, space_of}
use Rattle.tce_spec.specs.Pieces.{Cuts, piece}
use Rattle.tce_spec.specs.Storable.{storable}

-- `sum{i}(A[a,b,c,d,e,f,g,h] * B[i])`, over the indexes a to i
abbrev pub nine_dims : ContractionTree
nine_dims = sum (8 ∷ []) (binary multiply (leaf 0 (0 ∷ 1 ∷ 2 ∷ 3 ∷ 4 ∷ 5 ∷ 6 ∷ 7 ∷ [])) (leaf 1 (8 ∷ [])))

abbrev pub no_cut : Cuts
no_cut v = false

abbrev pub every_cut : Cuts
every_cut v = true

-- the cut of one node
abbrev pub cut_at : ℕ → Cuts
cut_at v u = u == v

pub record WorkedPieces : Type 0 where
  pub whole : piece two_sums no_cut 2 ≡ two_sums
  pub second : piece two_sums (cut_at 1) 1 ≡ sum (3 ∷ []) (leaf 1 (1 ∷ 3 ∷ []))
  pub above_second : piece two_sums (cut_at 1) 2 ≡ binary multiply (sum (2 ∷ []) (leaf 0 (0 ∷ 2 ∷ []))) (leaf 33 (1 ∷ []))
  pub above_both : piece two_sums every_cut 2 ≡ binary multiply (leaf 32 (0 ∷ [])) (leaf 33 (1 ∷ []))
  pub storable_sums : map (storable (space_of 5) two_sums) (0 ∷ 1 ∷ 2 ∷ []) ≡ true ∷ true ∷ false ∷ []
  -- the product has nine dims
  pub not_storable : map (storable (space_of 1) nine_dims) (0 ∷ 1 ∷ []) ≡ false ∷ false ∷ []
  -- the product has 2 ^ 48 elements, or more
  pub large : storable (space_of 16777216) (sum (1 ∷ []) outer_product) 0 ≡ true
  pub too_large : storable (space_of 16777217) (sum (1 ∷ []) outer_product) 0 ≡ false
