-- Parts of a run of two loops.
use Rattle.std.specs.Prelude.{◌≡◌, ℕ, ◌+◌, List, [], ◌∷◌, slice_index}
use Rattle.std.specs.List.{range_with_len, fold}
use Rattle.tce_base.specs.Word.{wrapping_add, wrapping_mul}
use Rattle.tce_block.specs.declared.loops.Loop.{Loop}
use Rattle.tce_block.specs.declared.loops.Rows.{Rows}
use Rattle.tce_block.specs.Turns.{grown_by_products}
use Rattle.tce_block.specs.Running.{left_place, right_place}

abbrev pub loops_of : Rows → List Loop
loops_of rows = rows.outer ∷ rows.along ∷ []

-- a loop that goes with one factor along words of the result
abbrev pub IsScaled : Loop → Type 0
IsScaled along = (along.out ≡ 1) × (along.left ≡ 0) × (along.right ≡ 1)

-- a word and the products of the operands' words in the turns of one loop
abbrev pub products_along : List ℕ → Loop → ℕ → ℕ → ℕ → ℕ
products_along words along left right word =
    fold (λ w x. grown_by_products words (left_place (along ∷ []) left) (right_place (along ∷ []) right) w (x ∷ [])) word (range_with_len 0 along.len)

-- both operands go on word by word for four turns
abbrev pub AreFourWords : Loop → Type 0
AreFourWords along = (along.len ≡ 4) × (along.left ≡ 1) × (along.right ≡ 1)

-- the product of a word of each operand
abbrev pub product_at : List ℕ → ℕ → ℕ → ℕ
product_at words left right = wrapping_mul (slice_index words left) (slice_index words right)

-- a word and the products of the four words from two places on
abbrev pub four_products : List ℕ → ℕ → ℕ → ℕ → ℕ
four_products words left right word =
    wrapping_add (wrapping_add (wrapping_add (wrapping_add word (product_at words left right)) (product_at words (left + 1) (right + 1)))
    (product_at words (left + 2) (right + 2))) (product_at words (left + 3) (right + 3))
