-- Tails are known by their closed forms: a state that has them, and is otherwise as before, is the one that the tail leaves.
use Rattle.std.specs.Prelude.{◌≡◌, ℕ, ◌<◌, ◌^◌, ◌⊎◌, List, bytes_eq, if◌then◌else◌}
use Rattle.std.specs.declared.option.Option.TheVariants.{Some, None}
use Rattle.tce_base.specs.Word.{wrapping_add}
use Rattle.tce_tree.specs.ContractionTree.{Arithmetic, multiply, node}
use Rattle.tce_tree.specs.Value.{Assignment, IsInExtents, sum_over}
use Rattle.tce_code.specs.Execution.{Setting, State, coordinates, exec, left_word}
use Rattle.tce_code.specs.Shape.{IsBinary, IsSum}
use Rattle.tce_walk.specs.TailLaws.{dims_at, SameBut, SameButTwo, EndsAtLast, AreLoops, computed_word}
use Rattle.tce_walk.specs.Machine.{tail_program, IsTailAt}
use Rattle.tce_walk.specs.declared.machine.Tail.{Tail}

-- the list is the place of node `v` at numbers inside their extents
abbrev pub IsPlaceAt : Setting → ℕ → List ℕ → Assignment → Type 0
IsPlaceAt s v p b = IsInExtents s.elements (dims_at s v) b × (coordinates (dims_at s v) b ≡ p)

-- the list is no such place, and its word stays
pub record StaysOutside (s : Setting) (v : ℕ) (p : List ℕ) (before after : State) : Type 0 where
  pub outside : (b : Assignment) → IsPlaceAt s v p b → ⊥
  pub same : after v p ≡ before v p

-- each place of node `v` grows by the words of the assignments that fall on it, and nothing else of it changes
abbrev pub GrowsOnlyBySum : Setting → ℕ → List ℕ → (Assignment → ℕ) → Assignment → State → State → Type 0
GrowsOnlyBySum s v order f a before after =
    (p : List ℕ)
    → (after v p ≡ wrapping_add (before v p) (sum_over s.elements.extent order (λ b. if bytes_eq p (coordinates (dims_at s v) b) then f b else 0) a))
    ⊎ StaysOutside s v p before after

-- each place of node `v` ends with the word of the last assignment that falls on it, and nothing else of it changes
abbrev pub EndsOnlyAtLast : Setting → ℕ → List ℕ → (Assignment → ℕ) → Assignment → State → State → Type 0
EndsOnlyAtLast s v order f a before after =
    (p : List ℕ) → ((b : Assignment) × IsPlaceAt s v p b × EndsAtLast s v order f a before after b) ⊎ StaysOutside s v p before after

-- the places of node `v` hold words
abbrev pub HoldsWords : ℕ → State → Type 0
HoldsWords v state = (p : List ℕ) → state v p < 2 ^ 64

-- the operation of a sum inside loops
abbrev pub SumTailsAreKnown : Type 0
SumTailsAreKnown =
    (s : Setting) (tail : Tail) (a : Assignment) (before after : State) → IsTailAt s tail a → tail.sum ≡ None → IsSum (node s.tree tail.node)
    → HoldsWords tail.node before → SameBut tail.node before after
    → GrowsOnlyBySum s tail.node tail.loops.0.items (left_word s tail.node before) a before after
    → after ≡ exec s (tail_program s.tree tail) before a

-- the operation of a node with two operands inside loops
abbrev pub SingleTailsAreKnown : Type 0
SingleTailsAreKnown =
    (s : Setting) (op : Arithmetic) (tail : Tail) (a : Assignment) (before after : State) → IsTailAt s tail a → tail.sum ≡ None → IsBinary op (node s.tree tail.node)
    → AreLoops s tail.loops.0.items → SameBut tail.node before after
    → EndsOnlyAtLast s tail.node tail.loops.0.items (computed_word s op tail.node before) a before after
    → after ≡ exec s (tail_program s.tree tail) before a

-- the operation of a product and that of its sum inside loops
abbrev pub JoinedTailsAreKnown : Type 0
JoinedTailsAreKnown =
    (s : Setting) (tail : Tail) (v : ℕ) (a : Assignment) (before after : State) → IsTailAt s tail a → tail.sum ≡ Some v
    → AreLoops s tail.loops.0.items → HoldsWords v before → SameButTwo tail.node v before after
    → GrowsOnlyBySum s v tail.loops.0.items (computed_word s multiply tail.node before) a before after
    → EndsOnlyAtLast s tail.node tail.loops.0.items (computed_word s multiply tail.node before) a before after
    → after ≡ exec s (tail_program s.tree tail) before a
