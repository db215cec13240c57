-- Windows of operands and of the places of nodes, where `first` are the numbers of the first turn of a block.
use Rattle.std.specs.Prelude.{◌≡◌, ℕ, ◌+◌, ◌<◌, ◌≤◌, Bool, true, false, List, map, Some, None}
use Rattle.std.specs.List.{All}
use Rattle.tce_space.specs.Limits.{max_indexes}
use Rattle.tce_space.specs.Tiling.{Tiling, IsTiling, tile_number}
use Rattle.tce_cache.specs.Cache.{State as CacheState}
use Rattle.tce_tree.specs.ContractionTree.{operations}
use Rattle.tce_tree.specs.FlatTree.{left_of, right_of}
use Rattle.tce_tree.specs.Value.{Assignment}
use Rattle.tce_tree.specs.declared.node.Operand.{Operand}
use Rattle.tce_tree.specs.declared.node.Operand.TheVariants.{Leaf, Constant, Node}
use Rattle.tce_layout.specs.Layout.{slot_at, IsLayout}
use Rattle.tce_exec.specs.OperandLaws.{HasShape}
use Rattle.tce_exec.specs.NodeStates.{Places}
use Rattle.tce_exec.specs.Slots.{IsSlotAt}
use Rattle.tce_walk.specs.declared.machine.Tail.{Tail}
use Rattle.tce_exec.specs.Sequences.{FitWindows}
use Rattle.tce_exec.specs.declared.sequence.LoopSequence.{LoopSequence}
use Rattle.tce_exec.specs.declared.window.Window.{Window}
use Rattle.tce_exec.specs.OperandWindows.{AreTileSteps, IsSlotWindow, IsTileWindow}
use Rattle.tce_exec.specs.Touches.{IsAmongLast}
use Rattle.tce_exec.specs.Workspace.{Workspace, shape_over, result_shape}
use Rattle.tce_exec.specs.Operands.{IsElementOf}
use Rattle.tce_exec.specs.declared.steps.Windows.{Windows}

-- an operand but a constant has a word at these numbers: that of an element, or of the slot of an inner node
abbrev pub HasPlace : Workspace → Operand → Assignment → Type 0
HasPlace w (Leaf l) a = IsElementOf w l a
HasPlace w (Constant number) a = ⊥
HasPlace w (Node v) a = IsSlotAt w.places.space w.places.tree w.places.fusion v a

-- the tile of an array in which the element of the first turn lies is among the `n` touched last, and the window is that of this tile
pub record IsTouchedTile (n : ℕ) (c : CacheState) (array : ℕ) (shape : Tiling) (indexes : List ℕ) (first : Assignment) (marked : Bool) (window : Window) : Type 0 where
  pub tiling : IsTiling shape
  pub known : All (λ i. i < max_indexes) indexes
  pub at : ℕ
  pub among : IsAmongLast n c array (tile_number shape (map first indexes)) at marked
  pub window_is : IsTileWindow shape indexes first at window

-- the window of an operand, whose tile is among the `n` touched last
abbrev pub IsOperandWindow : ℕ → Workspace → Operand → Assignment → Window → Type 0
IsOperandWindow n w (Leaf l) first window = IsTouchedTile n w.cache l.tensor (shape_over w.places.space l.indexes.items) l.indexes.items first false window
IsOperandWindow n w (Constant number) first window = ⊥
IsOperandWindow n w (Node v) first window = IsSlotWindow (slot_at w.places.slots v) first window

-- the window of the places of node `v`: that of its slot, or for the root that of a tile of the result, touched for writing
pub record IsPlaceWindow (n : ℕ) (w : Workspace) (v : ℕ) (first : Assignment) (window : Window) : Type 0 where
  pub inner : v + 1 < operations w.places.tree → IsSlotWindow (slot_at w.places.slots v) first window
  pub root : v + 1 ≡ operations w.places.tree → IsTouchedTile n w.cache w.tensor (result_shape w) w.places.result first true window

-- ---- the steps of windows, which are the same in all blocks of a tail

-- those of the window of a tensor's tiles
pub record AreTensorSteps (shape : Tiling) (indexes steps : List ℕ) : Type 0 where
  pub tiling : IsTiling shape
  pub steps_are : AreTileSteps shape.edges indexes steps

-- those of an operand's window
abbrev pub AreOperandSteps : Places → Operand → List ℕ → Type 0
AreOperandSteps p (Leaf l) steps = AreTensorSteps (shape_over p.space l.indexes.items) l.indexes.items steps
AreOperandSteps p (Constant number) steps = ⊥
AreOperandSteps p (Node v) steps = steps ≡ (slot_at p.slots v).steps

-- those of the window of node `v`'s places
pub record ArePlaceSteps (p : Places) (v : ℕ) (steps : List ℕ) : Type 0 where
  pub inner : v + 1 < operations p.tree → steps ≡ (slot_at p.slots v).steps
  pub root : v + 1 ≡ operations p.tree → AreTensorSteps (shape_over p.space p.result) p.result steps

-- those of a tail's windows: of a sum, of a node with two operands, and of a product with the sum that takes it
pub record AreSteps (p : Places) (tail : Tail) (windows : Windows) : Type 0 where
  pub left_are : AreOperandSteps p (left_of p.tree tail.node) windows.left.steps
  pub right_are : (o : Operand) → right_of p.tree tail.node ≡ Some o → AreOperandSteps p o windows.right.steps
  pub sum_are : right_of p.tree tail.node ≡ None → ArePlaceSteps p tail.node windows.out.steps
  pub pair_are : (o : Operand) → right_of p.tree tail.node ≡ Some o → tail.sum ≡ None → ArePlaceSteps p tail.node windows.out.steps
  pub joined_are : (o : Operand) (w : ℕ) → right_of p.tree tail.node ≡ Some o → tail.sum ≡ Some w → ArePlaceSteps p w windows.out.steps × (windows.own.steps ≡ (slot_at p.slots tail.node).steps)

-- each window has the steps that it had
pub record HaveSameSteps (old new : Windows) : Type 0 where
  pub left_same : new.left.steps ≡ old.left.steps
  pub right_same : new.right.steps ≡ old.right.steps
  pub out_same : new.out.steps ≡ old.out.steps
  pub own_same : new.own.steps ≡ old.own.steps

-- the loops that stand in a sequence are those over windows with these steps
abbrev pub FitSequence : Windows → LoopSequence → Type 0
FitSequence windows sequence = FitWindows windows.own windows.out windows.left windows.right sequence

-- an operand is a tensor with an array, or an inner node
abbrev pub HasSteps : Places → CacheState → Operand → Type 0
HasSteps p c (Leaf l) = All (λ i. i < max_indexes) l.indexes.items × HasShape c l.tensor (shape_over p.space l.indexes.items)
HasSteps p c (Constant number) = ⊥
HasSteps p c (Node v) = v + 1 < operations p.tree

-- a tail's operands and places have steps; the result is this array of the cache
pub record CanStep (p : Places) (array : ℕ) (c : CacheState) (tail : Tail) : Type 0 where
  pub laid : IsLayout p.space p.tree p.fusion p.slots
  pub known : tail.node < operations p.tree
  pub left_has : HasSteps p c (left_of p.tree tail.node)
  pub right_has : (o : Operand) → right_of p.tree tail.node ≡ Some o → HasSteps p c o
  pub sum_known : (w : ℕ) → tail.sum ≡ Some w → (w < operations p.tree) × (tail.node + 1 < operations p.tree)
  pub indexes : All (λ i. i < max_indexes) p.result
  pub stored : HasShape c array (shape_over p.space p.result)

-- the tiles that were touched last stay, one further back, as long as there is a frame for each
abbrev pub KeepsLast : CacheState → CacheState → Type 0
KeepsLast old new = (n array tile first : ℕ) (marked : Bool) → n + 1 ≤ old.frames → IsAmongLast n old array tile first marked → IsAmongLast (n + 1) new array tile first marked

-- the windows of an operand and of the places of node `v`
pub record AreSumWindows (w : Workspace) (operand : Operand) (v : ℕ) (first : Assignment) (windows : Windows) : Type 0 where
  pub left_is : IsOperandWindow 2 w operand first windows.left
  pub out_is : IsPlaceWindow 1 w v first windows.out

-- the windows of two operands and of the places of node `v`
pub record ArePairWindows (w : Workspace) (left right : Operand) (v : ℕ) (first : Assignment) (windows : Windows) : Type 0 where
  pub left_is : IsOperandWindow 3 w left first windows.left
  pub right_is : IsOperandWindow 2 w right first windows.right
  pub out_is : IsPlaceWindow 1 w v first windows.out
