-- Bodies that pass as those of a band, and bodies that do not.
use Rattle.std.specs.Prelude.{◌≡◌, ℕ, Bool, true, false, not, List, [], ◌∷◌, map}
use Rattle.tce_space.specs.IndexSet.{set_of}
use Rattle.tce_tree.specs.ContractionTree.{ContractionTree, leaf, binary, sum, multiply}
use Rattle.tce_tree.specs.WellFormed.{among}
use Rattle.tce_code.specs.Program.{Program, stop, step, loop, clear, compute, accumulate}
use Rattle.tce_walk.specs.Bands.{Known, passes}

-- `A[i,j] * B[i,j] * C[i,j]`, and `sum{k}(A[i,k] * B[k,j]) * C[i,j]`, over the indexes i, j, k
abbrev pub chain : ContractionTree
chain = binary multiply (binary multiply (leaf 0 (0 ∷ 1 ∷ [])) (leaf 1 (0 ∷ 1 ∷ []))) (leaf 2 (0 ∷ 1 ∷ []))

abbrev pub scaled_sum : ContractionTree
scaled_sum = binary multiply (sum (2 ∷ []) (binary multiply (leaf 0 (0 ∷ 2 ∷ [])) (leaf 1 (2 ∷ 1 ∷ [])))) (leaf 2 (0 ∷ 1 ∷ []))

abbrev pub both : Program
both = step (compute multiply 0) (step (compute multiply 1) stop)

-- the product and its sum, and what comes behind them
abbrev pub summing : Program → Program
summing rest = loop 2 (step (compute multiply 0) (step (accumulate 1) stop)) rest

abbrev pub scaling : Program
scaling = step (compute multiply 2) stop

abbrev pub outside_of : List ℕ → Known
outside_of written = λ v. not (among written v)

-- whether a body passes in the loops over i and j, which writes these nodes, where node `t` carries
abbrev pub passes_in : ContractionTree → List (List ℕ) → ℕ → List ℕ → Program → Bool
passes_in tree fused t written body = passes tree (map set_of fused) (0 ∷ 1 ∷ []) t (outside_of written) (outside_of written) body

abbrev pub all_fused : List (List ℕ)
all_fused = (0 ∷ 1 ∷ 2 ∷ []) ∷ (0 ∷ 1 ∷ []) ∷ [] ∷ []

pub record WorkedBands : Type 0 where
  pub chained : passes_in chain ((0 ∷ 1 ∷ []) ∷ [] ∷ []) 1 (0 ∷ 1 ∷ []) both ≡ true
  -- the first product is read before it is set, keeps a row, or is set in places that turns share
  pub too_early : passes_in chain ((0 ∷ 1 ∷ []) ∷ [] ∷ []) 1 (0 ∷ 1 ∷ []) (step (compute multiply 1) (step (compute multiply 0) stop)) ≡ false
  pub row : passes_in chain ((0 ∷ []) ∷ [] ∷ []) 1 (0 ∷ 1 ∷ []) both ≡ false
  pub shared : passes_in chain ((0 ∷ 1 ∷ []) ∷ [] ∷ []) 0 (0 ∷ []) (step (compute multiply 0) stop) ≡ false
  -- a sum that is cleared first, and one that is not
  pub renewed : passes_in scaled_sum all_fused 2 (0 ∷ 1 ∷ 2 ∷ []) (step (clear 1) (summing scaling)) ≡ true
  pub not_renewed : passes_in scaled_sum all_fused 2 (0 ∷ 1 ∷ 2 ∷ []) (summing scaling) ≡ false
  -- a sum that carries what the turns leave, and one that is cleared meanwhile
  pub grown : passes_in scaled_sum all_fused 1 (0 ∷ 1 ∷ []) (summing stop) ≡ true
  pub cleared : passes_in scaled_sum all_fused 1 (0 ∷ 1 ∷ []) (step (clear 1) (summing stop)) ≡ false
  -- a loop of the band inside the body
  pub repeated : passes_in scaled_sum all_fused 1 (0 ∷ 1 ∷ []) (loop 1 (summing stop) stop) ≡ false
