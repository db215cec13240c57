-- The sizes of the tiles of a specification.
use Rattle.std.proofs.Common.{ℕ, zero, suc, ◌^◌, ◌<◌, ◌≤◌, List, [], ◌∷◌, max, length, get_or, arith}
use Rattle.std.specs.List.{fold}
use Rattle.tce_space.specs.Tiling.{Tiling, IsTiling, tile_words, tiles}
use Rattle.std.proofs.Math.Nat.{mul-le-mul_left}
use Rattle.tce_space.proofs.Products.{product_positive}
use Rattle.tce_spec.specs.Specification.{Specification, IsSpecification}
use Rattle.tce_spec.specs.Operands.{operands, largest_tile, shape_of}
use Rattle.tce_spec.proofs.Seen.{operand_declared}
use Rattle.tce_job.proofs.Shapes.{shapes_are_tilings}
use Rattle.tce_job.proofs.Results.{result_tiling}

-- a tile has a word
pub some_word : (s : Tiling) → IsTiling s → 0 < tile_words s
some_word s t = product_positive s.edges t.positive

-- there are no more tiles than words
pub tiles_within : (s : Tiling) → IsTiling s → tiles s ≤ 2 ^ 48
tiles_within s t =
    let one : 1 ≤ tile_words s = some_word s t in
    omega (arith, mul-le-mul_left (tiles s) one, t.room)

-- the largest is no smaller than the first
first_within : (f : ℕ → ℕ) (first : ℕ) (ts : List ℕ) → first ≤ fold (λ largest t. max largest (f t)) first ts
first_within f first [] = omega arith
first_within f first (t ∷ ts) =
    let more = first_within f (max first (f t)) ts in
    omega arith

-- and none is larger than a bound of all
pub all_within : (f : ℕ → ℕ) (first bound : ℕ) (ts : List ℕ) → first ≤ bound → ((k : ℕ) → k < length ts → f (get_or ts k 0) ≤ bound)
    → fold (λ largest t. max largest (f t)) first ts ≤ bound
all_within f first bound [] one all = one
all_within f first bound (t ∷ ts) one all =
    let here : f t ≤ bound = all 0 (omega arith) in
    all_within f (max first (f t)) bound ts (omega arith) (λ k h. all (suc k) (omega arith))

-- so each tile fits a frame of the largest
each_within : (f : ℕ → ℕ) (first : ℕ) (ts : List ℕ) (k : ℕ) → k < length ts → f (get_or ts k 0) ≤ fold (λ largest t. max largest (f t)) first ts
each_within f first [] k h = absurd (omega arith)
each_within f first (t ∷ ts) zero h =
    let more = first_within f (max first (f t)) ts in
    omega arith
each_within f first (t ∷ ts) (suc k) h = each_within f (max first (f t)) ts k (omega arith)

pub result_within : (s : Specification) → tile_words (shape_of s s.result) ≤ largest_tile s
result_within s = first_within (λ t. tile_words (shape_of s t)) (tile_words (shape_of s s.result)) (operands s)

pub operand_within : (s : Specification) (d : ℕ) → d < length (operands s) → tile_words (shape_of s (get_or (operands s) d 0)) ≤ largest_tile s
operand_within s d h = each_within (λ t. tile_words (shape_of s t)) (tile_words (shape_of s s.result)) (operands s) d h

-- the largest tile of a specification has a word, and is within the limit of tiles
pub largest_some : (s : Specification) → IsSpecification s → 0 < largest_tile s
largest_some s rules =
    let result : 0 < tile_words (shape_of s s.result) = some_word (shape_of s s.result) (result_tiling s rules) in
    let first = result_within s in
    omega arith

pub largest_limit : (s : Specification) → IsSpecification s → largest_tile s ≤ 2 ^ 20
largest_limit s rules =
    all_within (λ t. tile_words (shape_of s t)) (tile_words (shape_of s s.result)) (2 ^ 20) (operands s) (result_tiling s rules).tile_room
    (λ k h. (shapes_are_tilings s (get_or (operands s) k 0) rules.declarations (operand_declared s rules.contraction.leaves_fit k h)).tile_room)
