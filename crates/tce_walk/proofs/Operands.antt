-- A node's operands are not among the nodes that its tail changes, and their words are below 2 ^ 64.
use Rattle.std.proofs.Common.{◌≡◌, ℕ, ◌+◌, ◌-◌, ◌<◌, ◌≤◌, ◌^◌, false, List, refl, ap, ap₂, arith}
use Rattle.std.proofs.lemmas.Bool.{true≢false}
use mathlib.Core.Path.{fun_ext}
use Rattle.tce_base.specs.Word.{word}
use Rattle.tce_tree.proofs.Nodes.{size_bounds, node-positive}
use Rattle.tce_tree.specs.ContractionTree.{Arithmetic, ContractionTree, leaf, constant, binary, sum, is_leaf, operations, node, left_tree, right_tree}
use Rattle.tce_tree.specs.Value.{Assignment, arithmetic}
use Rattle.tce_code.specs.Execution.{Setting, State, coordinates, operand_word, left_word}
use Rattle.tce_walk.specs.TailLaws.{dims_at, computed_word}
use Rattle.tce_walk.specs.Laws.{HoldsWords}

-- the places of the nodes before node `v` stay
abbrev pub SameBefore : ℕ → State → State → Type 0
SameBefore v before after = (u : ℕ) → u < v → (p : List ℕ) → after u p ≡ before u p

operand_same : (s : Setting) (c : ContractionTree) (u v : ℕ) (before state : State) (a : Assignment) → (is_leaf c ≡ false → u < v) → SameBefore v before state
    → operand_word s c u state a ≡ operand_word s c u before a
operand_same s (leaf tensor indexes) u v before state a below same = refl
operand_same s (constant number) u v before state a below same = refl
operand_same s (binary op left right) u v before state a below same = same u (below refl) (coordinates (dims_at s u) a)
operand_same s (sum indexes operand) u v before state a below same = same u (below refl) (coordinates (dims_at s u) a)

left_below : (c : ContractionTree) (v : ℕ) → operations c ≤ v + 1 → is_leaf (left_tree c) ≡ false → v - 1 - operations (right_tree c) < v
left_below (leaf t is) v h n = absurd (true≢false n)
left_below (constant k) v h n = absurd (true≢false n)
left_below (binary op l r) v h n = omega (arith, node-positive l n)
left_below (sum is e) v h n = omega (arith, node-positive e n)

right_below : (c : ContractionTree) (v : ℕ) → operations c ≤ v + 1 → is_leaf (right_tree c) ≡ false → v - 1 < v
right_below (leaf t is) v h n = absurd (true≢false n)
right_below (constant k) v h n = absurd (true≢false n)
right_below (binary op l r) v h n = omega (arith, node-positive r n)
right_below (sum is e) v h n = absurd (true≢false n)

pub left_same : (s : Setting) (v : ℕ) (before state : State) → v < operations s.tree → SameBefore v before state → left_word s v state ≡ left_word s v before
left_same s v before state known same =
    fun_ext (λ a.
    operand_same s (left_tree (node s.tree v)) (v - 1 - operations (right_tree (node s.tree v))) v before state a
    (left_below (node s.tree v) v (size_bounds s.tree v known).1) same)

pub computed_same : (s : Setting) (op : Arithmetic) (v : ℕ) (before state : State) → v < operations s.tree → SameBefore v before state
    → computed_word s op v state ≡ computed_word s op v before
computed_same s op v before state known same =
    fun_ext (λ a.
    ap₂ (arithmetic op) (ap (λ f. f a) (left_same s v before state known same))
    (operand_same s (right_tree (node s.tree v)) (v - 1) v before state a (right_below (node s.tree v) v (size_bounds s.tree v known).1) same))

operand_low : (s : Setting) (c : ContractionTree) (u : ℕ) (state : State) (a : Assignment) → ((v : ℕ) → HoldsWords v state) → operand_word s c u state a < 2 ^ 64
unfolding word
operand_low s (leaf tensor indexes) u state a words = omega arith
operand_low s (constant number) u state a words = omega arith
operand_low s (binary op left right) u state a words = words u (coordinates (dims_at s u) a)
operand_low s (sum indexes operand) u state a words = words u (coordinates (dims_at s u) a)

pub left_low : (s : Setting) (v : ℕ) (state : State) (a : Assignment) → ((u : ℕ) → HoldsWords u state) → left_word s v state a < 2 ^ 64
left_low s v state a words = operand_low s (left_tree (node s.tree v)) (v - 1 - operations (right_tree (node s.tree v))) state a words
