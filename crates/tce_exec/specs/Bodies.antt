-- Bodies without loops inside, at the assignments of one block of the loops round them.
use Rattle.std.specs.Prelude.{◌≡◌, ℕ, ◌+◌, ◌*◌, ◌<◌, ◌≤◌, List, [], ◌∷◌, drop, length}
use Rattle.std.specs.List.{All, fold}
use Rattle.tce_outside.specs.Files.{Files}
use Rattle.std.specs.Prelude.{Option}
use Rattle.tce_space.specs.Box.{product}
use Rattle.tce_space.specs.Space.{IndexSpace, extent_at}
use Rattle.tce_tree.specs.Value.{Assignment}
use Rattle.tce_code.specs.Execution.{Setting, State, exec}
use Rattle.tce_code.specs.Program.{program_of}
use Rattle.tce_code.specs.declared.op.Op.{Op}
use Rattle.tce_code.specs.declared.op.Op.TheVariants.{Open, Close, Clear, Mul, Add, Sub, Acc}
use Rattle.tce_walk.specs.Bodies.{IsOperationIn}
use Rattle.tce_walk.specs.Machine.{assignment_of, operation_of_node, IsNodeAt}
use Rattle.tce_walk.specs.PartRuns.{exec_along}
use Rattle.tce_walk.specs.Positions.{plain_program}
use Rattle.tce_exec.specs.Workspace.{Workspace, setting_in}
use Rattle.tce_exec.specs.Prepared.{IsPrepared}
use Rattle.tce_exec.specs.Storages.{setting_of, work_of}
use Rattle.tce_exec.specs.declared.evaluation.Evaluation.{Evaluation}
use Rattle.tce_exec.specs.declared.storage.Storage.{Storage}
use Rattle.tce_exec.specs.declared.body.BodyBlock.{BodyBlock}

-- ---- at one assignment

-- the operation is that of a node, each of whose loops has a number inside its extent
pub record IsOperationAt (s : Setting) (a : Assignment) (op : Op) : Type 0 where
  pub node : ℕ
  pub at : IsNodeAt s node a
  pub alone : plain_program op ≡ operation_of_node s.tree node

-- the node that an operation names
abbrev pub node_of_op : Op → ℕ
node_of_op (Open i) = i
node_of_op Close = 0
node_of_op (Clear v) = v
node_of_op (Mul v) = v
node_of_op (Add v) = v
node_of_op (Sub v) = v
node_of_op (Acc v) = v

-- the state after operations, one after the other
abbrev pub after_ops : Setting → Assignment → List Op → State → State
after_ops s a ops state = fold (λ before op. exec s (plain_program op) before a) state ops

-- ---- at the assignments of loops

-- each loop has some numbers, which lie in the extent of a declared index
abbrev pub AreRanges : IndexSpace → List ℕ → List ℕ → List ℕ → Type 0
AreRanges space [] [] [] = Unit {0}
AreRanges space (i ∷ loops) (f ∷ from) (n ∷ len) = (i < length space.indexes) × (0 < n) × (f + n ≤ extent_at space i) × AreRanges space loops from len
AreRanges space loops from len = ⊥

-- operations of nodes, whose other loops have numbers inside their extents
pub record IsBodyIn (s : Setting) (space : IndexSpace) (loops from len : List ℕ) (ops : List Op) (a : Assignment) : Type 0 where
  pub ranges : AreRanges space loops from len
  pub each : All (IsOperationIn s loops a) ops

-- three touches for each operation at each assignment
abbrev pub touches_along : List ℕ → List Op → ℕ
touches_along len ops = product len * (3 * length ops)

-- ---- from one loop of a block on, where a storage stands for the workspace

abbrev pub IsBodyFrom : {D : Type 0} → (D → Option Files) → Evaluation → Storage D → BodyBlock → ℕ → List ℕ → Type 0
IsBodyFrom files e s b depth numbers =
    IsBodyIn (setting_of files e s) e.space.now (drop depth b.loops.now) (drop depth b.from.now) (drop depth b.len.now) b.ops.now (assignment_of numbers)

abbrev pub after_from : {D : Type 0} → (D → Option Files) → Evaluation → Storage D → BodyBlock → ℕ → List ℕ → State → State
after_from files e s b depth numbers state =
    exec_along (setting_of files e s) (program_of b.ops.now) (drop depth b.loops.now) (drop depth b.from.now) (drop depth b.len.now) state (assignment_of numbers)

abbrev pub touches_from : BodyBlock → ℕ → ℕ
touches_from b depth = touches_along (drop depth b.len.now) b.ops.now
