-- Why there are no cuts for a limit.
use Rattle.std.specs.Prelude.{◌≡◌, ◌⊎◌, ⊤, ℕ, ◌<◌, ◌≤◌, IsTrue, List, Result, length}
use Rattle.std.specs.declared.result.Result.TheVariants.{Ok, Err}
use Rattle.tce_space.specs.Limits.{max_tensors}
use Rattle.tce_space.specs.Space.{IndexSpace}
use Rattle.tce_tree.specs.ContractionTree.{ContractionTree, operations}
use Rattle.tce_tree.specs.Memory.{memory}
use Rattle.tce_fusion.specs.Least.{IsLeast}
use Rattle.tce_spec.specs.Pieces.{piece, is_root}
use Rattle.tce_spec.specs.Storable.{storable}
use Rattle.tce_spec.specs.Specification.{Specification}
use Rattle.tce_spill.specs.Parts.{FitsMemory}
use Rattle.tce_spill.specs.declared.fault.SpillFault.{SpillFault}
use Rattle.tce_spill.specs.declared.fault.SpillFault.TheVariants.{TooManyTensors, LimitTooSmall, BudgetTooSmall, Array, Disk, Memory}

-- what a least fusion of the tree takes
pub record HasLeastMemory (space : IndexSpace) (tree : ContractionTree) (least : ℕ) : Type 0 where
  pub fusion : List ℕ
  pub is_least : IsLeast space tree fusion
  pub memory_is : memory space tree fusion ≡ least

-- with all storable nodes cut, the piece of root `v` takes `n` elements at least, which is above the limit, and it is the first such piece
pub record IsTooLarge (space : IndexSpace) (tree : ContractionTree) (limit v n : ℕ) : Type 0 where
  pub inside : v < operations tree
  pub root : IsTrue (is_root tree (storable space tree) v)
  pub takes : HasLeastMemory space (piece tree (storable space tree) v) n
  pub above : limit < n
  pub earlier : (u : ℕ) → u < v → IsTrue (is_root tree (storable space tree) u) → FitsMemory space (piece tree (storable space tree) u) limit

-- why there are no cuts: first too many tensors, then a piece above the limit. Memory may be wanting at any place
abbrev pub IsCutFault : Specification → ℕ → SpillFault → Type 0
IsCutFault s limit TooManyTensors = max_tensors ≤ length s.declarations.tensors
IsCutFault s limit (LimitTooSmall v n) = (length s.declarations.tensors < max_tensors) × IsTooLarge s.declarations.space s.tree limit v n
IsCutFault s limit (BudgetTooSmall n) = ⊥
IsCutFault s limit (Array name fault) = ⊥
IsCutFault s limit Disk = ⊥
IsCutFault s limit Memory = ⊤

-- want of memory and failures of the disk may come anywhere
abbrev pub IsFree : SpillFault → Type 0
IsFree TooManyTensors = ⊥
IsFree (LimitTooSmall v n) = ⊥
IsFree (BudgetTooSmall n) = ⊥
IsFree (Array name fault) = ⊥
IsFree Disk = ⊤
IsFree Memory = ⊤

-- the answer is this fault, or a free one
abbrev pub IsRefusedAs : {A : Type 0} → SpillFault → Result A SpillFault → Type 0
IsRefusedAs due (Ok answer) = ⊥
IsRefusedAs due (Err fault) = (fault ≡ due) ⊎ IsFree fault
