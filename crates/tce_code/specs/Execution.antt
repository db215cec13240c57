-- What loop code does with the places of the nodes.
use Rattle.std.specs.Prelude.{◌≡◌, ℕ, zero, suc, ◌-◌, ◌<◌, ◌==◌, ◌&&◌, List, map, if◌then◌else◌, bytes_eq}
use Rattle.tce_base.specs.Word.{word, wrapping_add}
use Rattle.tce_space.specs.IndexSet.{members}
use Rattle.tce_tree.specs.ContractionTree.{ContractionTree, leaf, constant, binary, sum, operations, node, left_tree, right_tree}
use Rattle.tce_tree.specs.Fusion.{kept_dims}
use Rattle.tce_tree.specs.Value.{Assignment, with_number, Elements, arithmetic, value}
use Rattle.tce_code.specs.Program.{Action, clear, compute, accumulate, Program, stop, step, loop}

-- a tree with a fusion, and the elements of its tensors
pub record Setting : Type 0 where
  pub tree : ContractionTree
  pub fusion : List ℕ
  pub elements : Elements

-- a place of a node is given by its coordinates: the numbers of the node's dims that are not fused, in ascending order of the indexes
abbrev pub coordinates : ℕ → Assignment → List ℕ
coordinates set a = map a (members set)

-- the words in the places of the nodes
abbrev pub State : Type 0
State = ℕ → List ℕ → ℕ

abbrev pub with_word : State → ℕ → List ℕ → ℕ → State
with_word state v at w = λ u p. if u == v && bytes_eq p at then w else state u p

abbrev pub cleared : State → ℕ → State
cleared state v = λ u p. if u == v then 0 else state u p

-- the word of an operand, where `v` is the number of its node if it is one
abbrev pub operand_word : Setting → ContractionTree → ℕ → State → Assignment → ℕ
operand_word s (leaf tensor indexes) v state a = word (s.elements.cell tensor (map a indexes))
operand_word s (constant number) v state a = word number
operand_word s (binary op left right) v state a = state v (coordinates (kept_dims s.tree s.fusion v) a)
operand_word s (sum indexes operand) v state a = state v (coordinates (kept_dims s.tree s.fusion v) a)

-- the words of a node's left or only operand, and of its right one
abbrev pub left_word : Setting → ℕ → State → Assignment → ℕ
left_word s v state a = operand_word s (left_tree (node s.tree v)) (v - 1 - operations (right_tree (node s.tree v))) state a

abbrev pub right_word : Setting → ℕ → State → Assignment → ℕ
right_word s v state a = operand_word s (right_tree (node s.tree v)) (v - 1) state a

-- what one action does
abbrev pub apply : Setting → Action → State → Assignment → State
apply s (clear v) state a = cleared state v
apply s (compute op v) state a =
    with_word state v (coordinates (kept_dims s.tree s.fusion v) a) (arithmetic op (left_word s v state a) (right_word s v state a))
apply s (accumulate v) state a =
    with_word state v (coordinates (kept_dims s.tree s.fusion v) a) (wrapping_add (state v (coordinates (kept_dims s.tree s.fusion v) a)) (left_word s v state a))

-- one turn for each number below `n`, in turn
abbrev pub repeated : {X : Type 0} → ℕ → (ℕ → X → X) → X → X
repeated zero turn x = x
repeated (suc n) turn x = turn n (repeated n turn x)

-- the state after a program, under an assignment of the open loops
abbrev pub exec : Setting → Program → State → Assignment → State
exec s stop state a = state
exec s (step action rest) state a = exec s rest (apply s action state a) a
exec s (loop i body rest) state a =
    exec s rest (repeated (s.elements.extent i) (λ x before. exec s body before (with_number a i x)) state) a

-- the operands' words are their values
abbrev pub FindsOperands : Setting → ℕ → State → Assignment → Type 0
FindsOperands s v state a =
    (left_word s v state a ≡ value s.elements (left_tree (node s.tree v)) a)
    × (right_word s v state a ≡ value s.elements (right_tree (node s.tree v)) a)

abbrev pub ActionReadsRight : Setting → Action → State → Assignment → Type 0
ActionReadsRight s (clear v) state a = Unit {0}
ActionReadsRight s (compute op v) state a = FindsOperands s v state a
ActionReadsRight s (accumulate v) state a = FindsOperands s v state a

-- each action that is met, at each turn of each loop
abbrev pub ReadsRight : Setting → Program → State → Assignment → Type 0
ReadsRight s stop state a = Unit {0}
ReadsRight s (step action rest) state a = ActionReadsRight s action state a × ReadsRight s rest (apply s action state a) a
ReadsRight s (loop i body rest) state a =
    ((x : ℕ) → x < s.elements.extent i
    → ReadsRight s body (repeated x (λ y before. exec s body before (with_number a i y)) state) (with_number a i x))
    × ReadsRight s rest (repeated (s.elements.extent i) (λ x before. exec s body before (with_number a i x)) state) a
