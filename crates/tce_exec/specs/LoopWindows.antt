-- Windows: where the turns' words stand in a list of words, and of what they are the words.
use Rattle.std.specs.Prelude.{◌≡◌, ℕ, ◌+◌, ◌-◌, ◌<◌, ◌↔◌, List, map, length, slice_index}
use Rattle.tce_tree.specs.Value.{Assignment}
use Rattle.tce_code.specs.Execution.{Setting, State, coordinates}
use Rattle.tce_layout.specs.Places.{steps_to}
use Rattle.tce_walk.specs.TailLaws.{dims_at}
use Rattle.tce_exec.specs.Turns.{Turns, IsTurn}
use Rattle.tce_exec.specs.declared.window.Window.{Window}

-- the place of an assignment's word: each step as often as the number of its index is above that of the first turn
abbrev pub stands_at : Window → Assignment → Assignment → ℕ
stands_at w first b = w.first + steps_to w.steps (λ i. b i - first i)

-- the steps of the loops in a sequence
abbrev pub steps_along : Window → List ℕ → List ℕ
steps_along w inner = map (slice_index w.steps) inner

-- each turn's word is in the list, and is what f says
pub record ShowsWords (t : Turns) (w : Window) (words : List ℕ) (f : Assignment → ℕ) : Type 0 where
  pub within : (b : Assignment) → IsTurn t b → stands_at w t.first b < length words
  pub word : (b : Assignment) → IsTurn t b → slice_index words (stands_at w t.first b) ≡ f b

-- no word differs but at the places of the turns
abbrev pub DifferOnlyAt : Turns → Window → List ℕ → List ℕ → Type 0
DifferOnlyAt t w old new = (k : ℕ) → ((b : Assignment) → IsTurn t b → stands_at w t.first b ≡ k → ⊥) → slice_index new k ≡ slice_index old k

-- The turns' words are those of the places of node v on which they fall, in the state that a list of `count` words stands for: each
-- place has one word, and where words change at these places alone, no other place changes.
pub record ShowsNode (s : Setting) (t : Turns) (v : ℕ) (w : Window) (count : ℕ) (view : List ℕ → State) : Type 0 where
  pub within : (b : Assignment) → IsTurn t b → stands_at w t.first b < count
  pub word : (words : List ℕ) → length words ≡ count → (b : Assignment) → IsTurn t b → view words v (coordinates (dims_at s v) b) ≡ slice_index words (stands_at w t.first b)
  pub apart : (b c : Assignment) → IsTurn t b → IsTurn t c → (stands_at w t.first b ≡ stands_at w t.first c) ↔ (coordinates (dims_at s v) b ≡ coordinates (dims_at s v) c)
  pub others : (old new : List ℕ) → length old ≡ count → length new ≡ count → DifferOnlyAt t w old new
      → (u : ℕ) (p : List ℕ) → (u ≡ v → (b : Assignment) → IsTurn t b → coordinates (dims_at s v) b ≡ p → ⊥) → view new u p ≡ view old u p
