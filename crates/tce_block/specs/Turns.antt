-- What the turns of loops make of a block of words.
use Rattle.std.specs.Prelude.{◌≡◌, ℕ, ◌<◌, if◌then◌else◌, ◌==◌, List, length, slice_index}
use Rattle.std.specs.List.{fold}
use Rattle.tce_base.specs.Word.{wrapping_add, wrapping_sub, wrapping_mul}
use Rattle.tce_space.specs.declared.arithmetic.Arithmetic.{Arithmetic}
use Rattle.tce_space.specs.declared.arithmetic.Arithmetic.TheVariants.{Multiply, Add, Subtract}
use Rattle.tce_block.specs.declared.loops.Turn.{Turn}
use Rattle.tce_block.specs.declared.loops.Turn.TheVariants.{Grow, Compute}

-- the word at place k after the turns: each turn at that place makes it what `word` gives
abbrev pub word_after : (ℕ → List ℕ → ℕ) → (List ℕ → ℕ) → ℕ → ℕ → List (List ℕ) → ℕ
word_after word place k old turns = fold (λ w xs. if place xs == k then word w xs else w) old turns

-- each word is the one after the turns
pub record IsMade (word : ℕ → List ℕ → ℕ) (place : List ℕ → ℕ) (turns : List (List ℕ)) (old new : List ℕ) : Type 0 where
  pub same_length : length new ≡ length old
  pub made : (k : ℕ) → k < length old → slice_index new k ≡ word_after word place k (slice_index old k) turns

-- a word and the one at the operand's place
abbrev pub grown : List ℕ → (List ℕ → ℕ) → ℕ → List ℕ → ℕ
grown words operand w xs = wrapping_add w (slice_index words (operand xs))

-- a word and the product of those at the operands' places
abbrev pub grown_by_products : List ℕ → (List ℕ → ℕ) → (List ℕ → ℕ) → ℕ → List ℕ → ℕ
grown_by_products words left right w xs = wrapping_add w (wrapping_mul (slice_index words (left xs)) (slice_index words (right xs)))

abbrev pub operate : Arithmetic → ℕ → ℕ → ℕ
operate Multiply = wrapping_mul
operate Add = wrapping_add
operate Subtract = wrapping_sub

-- the operation's word from those at the operands' places
abbrev pub computed : Arithmetic → List ℕ → (List ℕ → ℕ) → (List ℕ → ℕ) → ℕ → List ℕ → ℕ
computed operation words left right w xs = operate operation (slice_index words (left xs)) (slice_index words (right xs))

-- the word that a turn makes of its word and those of the operands
abbrev pub turn_word : Turn → ℕ → ℕ → ℕ → ℕ
turn_word Grow w left right = wrapping_add w (wrapping_mul left right)
turn_word (Compute operation) w left right = operate operation left right

-- the same from those at the operands' places
abbrev pub turned : Turn → List ℕ → (List ℕ → ℕ) → (List ℕ → ℕ) → ℕ → List ℕ → ℕ
turned turn words left right w xs = turn_word turn w (slice_index words (left xs)) (slice_index words (right xs))
