-- What a run asks of what it works on.
use Rattle.std.specs.Prelude.{◌≡◌, ◌≢◌, ℕ, List}
use Rattle.std.specs.Option.{ForSome}
use Rattle.tce_space.specs.IndexSet.{has}
use Rattle.tce_space.specs.Tiling.{IsTiling}
use Rattle.tce_cache.specs.Cache.{IsCache, IsReady, IsArrayAt, IsWritable, HasRoom}
use Rattle.tce_array.specs.Files.{AreBytes}
use Rattle.tce_cache.specs.Transfer.{HasFile, contents}
use Rattle.tce_tree.specs.ContractionTree.{ContractionTree, leaf, constant, binary, sum}
use Rattle.tce_tree.specs.Fusion.{FusionFits}
use Rattle.tce_tree.specs.Measure.{IsMeasured}
use Rattle.tce_tree.specs.WellFormed.{among}
use Rattle.tce_layout.specs.Layout.{IsLayout}
use Rattle.tce_exec.specs.NodeStates.{root_dims}
use Rattle.tce_exec.specs.OperandLaws.{HasShape, StandsBefore}
use Rattle.tce_exec.specs.Workspace.{Workspace, shape_over, result_shape}

-- the tensor has an array over the ranges of these indexes, whose file has its length
pub record IsStored (w : Workspace) (tensor : ℕ) (indexes : List ℕ) : Type 0 where
  pub array : HasShape w.cache tensor (shape_over w.places.space indexes)
  pub file : ForSome w.files (λ files. IsArrayAt w.cache.arrays tensor (λ a. HasFile a files))

-- it is so, and the tensor is not that of the result
pub record IsOperand (w : Workspace) (tensor : ℕ) (indexes : List ℕ) : Type 0 where
  pub stored : IsStored w tensor indexes
  pub other : tensor ≢ w.tensor

-- each reference of a tree to a tensor is one to an operand
abbrev pub HasOperands : Workspace → ContractionTree → Type 0
HasOperands w (leaf tensor indexes) = IsOperand w tensor indexes
HasOperands w (constant number) = Unit {0}
HasOperands w (binary op left right) = HasOperands w left × HasOperands w right
HasOperands w (sum indexes operand) = HasOperands w operand

-- The fusion fits the tree, and the slots are laid out for it, before the frames, which lie among the words. The result has the root's dims as its indexes, and its
-- array may be written. All operands have their arrays. Where the disk tells, the cache is ready and the numbers in the result's file are bytes.
pub record IsPrepared (w : Workspace) : Type 0 where
  pub measured : IsMeasured w.places.space w.places.tree
  pub fits : FusionFits w.places.tree w.places.fusion
  pub laid : IsLayout w.places.space w.places.tree w.places.fusion w.places.slots
  pub root : (i : ℕ) → among w.places.result i ≡ has (root_dims w.places) i
  pub tiling : IsTiling (result_shape w)
  pub result : IsStored w w.tensor w.places.result
  pub writable : IsWritable w.cache w.tensor
  pub operands : HasOperands w w.places.tree
  pub before : StandsBefore w.places w.cache
  pub room : HasRoom w.cache w.words
  pub cache : IsCache w.cache
  pub ready : ForSome w.files (λ files. IsReady w.cache files w.words)
  pub bytes : ForSome w.files (λ files. IsArrayAt w.cache.arrays w.tensor (λ a. AreBytes (contents a files)))
