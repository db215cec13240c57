-- The windows of the operations of a body, in one block of the loops round it, where `first` are the numbers of the block's first turn.
use Rattle.std.specs.Prelude.{◌≡◌, ℕ, ◌+◌, ◌*◌, ◌<◌, ◌≤◌, Bool, true, false, IsTrue, List, [], ◌∷◌, slice_index, length, Some, None}
use Rattle.tce_space.specs.Limits.{max_indexes, max_loops}
use Rattle.tce_space.specs.Space.{IndexSpace, edge_at}
use Rattle.tce_tree.specs.WellFormed.{among, is_distinct}
use Rattle.tce_exec.specs.TilesOfBlocks.{StayBetweenEdges}
use Rattle.tce_exec.specs.Turns.{Turns, IsTurn}
use Rattle.tce_exec.specs.declared.body.BodyBlock.{BodyBlock}
use Rattle.tce_base.specs.Word.{word}
use Rattle.tce_cache.specs.Cache.{State as CacheState}
use Rattle.tce_tree.specs.ContractionTree.{operations, node}
use Rattle.tce_tree.specs.FlatTree.{kind_of, left_of, right_of}
use Rattle.tce_tree.specs.Value.{Assignment, assignment}
use Rattle.tce_tree.specs.declared.node.Operand.{Operand}
use Rattle.tce_tree.specs.declared.node.Operand.TheVariants.{Leaf, Constant, Node}
use Rattle.tce_code.specs.declared.op.Op.{Op}
use Rattle.tce_layout.specs.Layout.{slot_at}
use Rattle.tce_code.specs.Execution.{Setting}
use Rattle.std.specs.List.{All}
use Rattle.tce_space.specs.Box.{product}
use Rattle.tce_exec.specs.Bodies.{node_of_op, IsBodyIn, IsOperationAt}
use Rattle.tce_exec.specs.LoopWindows.{stands_at}
use Rattle.tce_exec.specs.NodeStates.{Places}
use Rattle.tce_exec.specs.Operands.{combined}
use Rattle.tce_exec.specs.OperandWindows.{IsSlotWindow}
use Rattle.tce_exec.specs.Touches.{IsAmongLast}
use Rattle.tce_exec.specs.Windows.{IsTouchedTile}
use Rattle.tce_exec.specs.Workspace.{shape_over}
use Rattle.tce_exec.specs.declared.links.Source.{Source}
use Rattle.tce_exec.specs.declared.links.Source.TheVariants.{Number, Words}
use Rattle.tce_exec.specs.declared.links.Link.{Link}
use Rattle.tce_exec.specs.declared.window.Window.{Window}

-- the number of a constant, or the window of an operand, whose tile is among the `n` touched last
abbrev pub IsSource : ℕ → Places → CacheState → Assignment → Operand → Source → Type 0
IsSource n p c first (Leaf l) (Number k) = ⊥
IsSource n p c first (Leaf l) (Words w) = IsTouchedTile n c l.tensor (shape_over p.space l.indexes.items) l.indexes.items first false w
IsSource n p c first (Constant k) (Number m) = m ≡ word k
IsSource n p c first (Constant k) (Words w) = ⊥
IsSource n p c first (Node u) (Number k) = ⊥
IsSource n p c first (Node u) (Words w) = IsSlotWindow (slot_at p.slots u) first w

-- the window of the places of node `v`, where the result is the tensor `array`
pub record IsTarget (n : ℕ) (p : Places) (c : CacheState) (array : ℕ) (first : Assignment) (v : ℕ) (w : Window) : Type 0 where
  pub inner : v + 1 < operations p.tree → IsSlotWindow (slot_at p.slots v) first w
  pub root : v + 1 ≡ operations p.tree → IsTouchedTile n c array (shape_over p.space p.result) p.result first true w

-- what the operation of node `v` reads and where it puts its word; a sum reads its own word
pub record IsLink (n : ℕ) (p : Places) (c : CacheState) (array : ℕ) (first : Assignment) (v : ℕ) (link : Link) : Type 0 where
  pub kind_is : link.kind ≡ kind_of (node p.tree v)
  pub left_is : IsSource n p c first (left_of p.tree v) link.left
  pub right_is : (o : Operand) → right_of p.tree v ≡ Some o → IsSource n p c first o link.right
  pub own_is : right_of p.tree v ≡ None → link.right ≡ Words link.out
  pub out_is : IsTarget n p c array first v link.out

-- one for each operation
abbrev pub AreLinks : ℕ → Places → CacheState → ℕ → Assignment → List Op → List Link → Type 0
AreLinks n p c array first [] [] = Unit {0}
AreLinks n p c array first [] (l ∷ links) = ⊥
AreLinks n p c array first (op ∷ ops) [] = ⊥
AreLinks n p c array first (op ∷ ops) (l ∷ links) = IsLink n p c array first (node_of_op op) l × AreLinks n p c array first ops links

-- tiles that were touched last stay among the last ones while three more are touched, as long as there is a frame for each
abbrev pub KeepsMore : ℕ → CacheState → CacheState → Type 0
KeepsMore m old new =
    (n array tile first : ℕ) (marked : Bool) → n + m ≤ old.frames → IsAmongLast n old array tile first marked → IsAmongLast (n + m) new array tile first marked

-- ---- turns

-- `b` is a turn of some loops from these numbers on, which cross no edge
pub record IsNear (edge : ℕ → ℕ) (first b : Assignment) : Type 0 where
  pub loops : List ℕ
  pub count : ℕ → ℕ
  pub turn : IsTurn (record { order = loops; first = first; count = count }) b
  pub between : StayBetweenEdges (record { order = loops; first = first; count = count }) edge

-- the turns of the loops of a block that begin at these numbers
abbrev pub turns_in : BodyBlock → List ℕ → Turns
turns_in b first = record { order = b.loops.now; first = slice_index first; count = assignment b.loops.now b.len.now }

-- the numbers are those of a turn of the block, whose loops have these first numbers and cross no edge
pub record IsInBlock (space : IndexSpace) (b : BodyBlock) (first numbers : List ℕ) : Type 0 where
  pub distinct : IsTrue (is_distinct b.loops.now)
  pub turn : IsTurn (turns_in b first) (slice_index numbers)
  pub between : StayBetweenEdges (turns_in b first) (edge_at space)
  pub member : (d : ℕ) → d < length b.loops.now → IsTrue (among b.loops.now (slice_index b.loops.now d))
  pub from_is : (d : ℕ) → d < length b.loops.now → slice_index first (slice_index b.loops.now d) ≡ slice_index b.from.now d
  pub len_is : (d : ℕ) → d < length b.loops.now → assignment b.loops.now b.len.now (slice_index b.loops.now d) ≡ slice_index b.len.now d

-- the numbers are those of a turn of a block at which the loops from one on have their first numbers
pub record IsAtFirst (space : IndexSpace) (b : BodyBlock) (depth : ℕ) (numbers : List ℕ) : Type 0 where
  pub first : List ℕ
  pub block : IsInBlock space b first numbers
  pub at_first : (d : ℕ) → depth ≤ d → d < length b.loops.now → slice_index numbers (slice_index b.loops.now d) ≡ slice_index b.from.now d

-- a body at the first turn of a block
pub record IsBegun (s : Setting) (space : IndexSpace) (b : BodyBlock) (first : List ℕ) : Type 0 where
  pub body : IsBodyIn s space b.loops.now b.from.now b.len.now b.ops.now (slice_index first)
  pub block : IsInBlock space b first first
  pub inside : All (IsOperationAt s (slice_index first)) b.ops.now
  pub some : 0 < product b.len.now
  pub few : length b.loops.now ≤ max_loops
  pub known : All (λ i. i < max_indexes) b.loops.now

-- ---- what a link makes of words

-- the word of a source at the turn `b`
abbrev pub source_word : List ℕ → Assignment → Assignment → Source → ℕ
source_word words first b (Number k) = k
source_word words first b (Words w) = slice_index words (stands_at w first b)

abbrev pub link_word : List ℕ → Assignment → Assignment → Link → ℕ
link_word words first b l = combined l.kind (source_word words first b l.left) (source_word words first b l.right)

-- the words of a source are among so many
abbrev pub IsSourceWithin : ℕ → Assignment → Assignment → Source → Type 0
IsSourceWithin count first b (Number k) = Unit {0}
IsSourceWithin count first b (Words w) = stands_at w first b < count

-- where a link's words stand
pub record IsLinkWithin (count : ℕ) (first b : Assignment) (l : Link) : Type 0 where
  pub left : IsSourceWithin count first b l.left
  pub right : IsSourceWithin count first b l.right
  pub out : stands_at l.out first b < count

-- ---- along a row, which begins where the windows do

-- the window, the source and the link whose first words are those of the turn `b`
abbrev pub window_at : Assignment → Assignment → Window → Window
window_at first b w = record { first = stands_at w first b; steps = w.steps }

abbrev pub source_at : Assignment → Assignment → Source → Source
source_at first b (Number k) = Number k
source_at first b (Words w) = Words (window_at first b w)

abbrev pub link_at_turn : Assignment → Assignment → Link → Link
link_at_turn first b l = record { kind = l.kind; left = source_at first b l.left; right = source_at first b l.right; out = window_at first b l.out }

-- the word of a source where an index is so far from the beginning
abbrev pub word_along : List ℕ → ℕ → ℕ → Source → ℕ
word_along words index by (Number k) = k
word_along words index by (Words w) = slice_index words (w.first + by * slice_index w.steps index)

abbrev pub IsAlongWithin : ℕ → ℕ → ℕ → Source → Type 0
IsAlongWithin count index by (Number k) = Unit {0}
IsAlongWithin count index by (Words w) = w.first + by * slice_index w.steps index < count
