-- One block of a tail, at the numbers of the loops round it.
use Rattle.std.specs.Prelude.{ℕ, List, Option}
use Rattle.tce_space.specs.Space.{IsSpace}
use Rattle.tce_block.specs.Cuts.{part_of}
use Rattle.tce_block.specs.Parts.{Part}
use Rattle.tce_outside.specs.Files.{Files}
use Rattle.tce_tree.specs.FlatTree.{IsTree}
use Rattle.tce_tree.specs.Value.{Assignment}
use Rattle.tce_code.specs.Execution.{State, exec}
use Rattle.tce_walk.specs.Machine.{assignment_of, tail_program, IsTailAt}
use Rattle.tce_walk.specs.declared.machine.Tail.{Tail}
use Rattle.tce_walk.specs.Parts.{after_part}
use Rattle.tce_exec.specs.Turns.{turns_of}
use Rattle.tce_exec.specs.Workspace.{Workspace, setting_in}
use Rattle.tce_exec.specs.Prepared.{IsPrepared}
use Rattle.tce_exec.specs.Storages.{setting_of, work_of}
use Rattle.tce_exec.specs.declared.evaluation.Evaluation.{Evaluation}
use Rattle.tce_exec.specs.declared.storage.Storage.{Storage}
use Rattle.tce_exec.specs.Blocks.{loops_of, AreOutside, IsBlockOf}
use Rattle.tce_exec.specs.declared.turns.TailBlock.{TailBlock}

-- the numbers of the loops round the tail
abbrev pub around : TailBlock → Assignment
around b = assignment_of b.numbers.now

-- which part of the tail's loops it is
abbrev pub part_in : TailBlock → Part
part_in b = part_of b.block.now

-- the numbers of its first turn
abbrev pub first_in : TailBlock → Assignment
first_in b = (turns_of (loops_of b.tail.now) (around b) (part_in b)).first

-- what it makes of a state
abbrev pub after_block : {D : Type 0} → (D → Option Files) → Evaluation → Storage D → TailBlock → State → State
after_block files e s b = after_part (setting_of files e s) b.tail.now (around b) (part_in b)

-- what a whole tail makes of a state, at these numbers of the loops round it
abbrev pub after_tail : {D : Type 0} → (D → Option Files) → Evaluation → Storage D → Tail → List ℕ → State → State
after_tail files e s tail numbers state = exec (setting_of files e s) (tail_program e.tree.now tail) state (assignment_of numbers)

-- the tail is one at these numbers
abbrev pub IsInTail : {D : Type 0} → (D → Option Files) → Evaluation → Storage D → TailBlock → Type 0
IsInTail files e s b = IsTailAt (setting_of files e s) b.tail.now (around b)

-- the numbers of all other indexes are those of the loops round the tail
abbrev pub KeepsAround : TailBlock → Assignment → Type 0
KeepsAround b first = AreOutside (loops_of b.tail.now) (around b) first

-- a block of a tail on a workspace
pub record IsAtBlock (y : Workspace) (tail : Tail) (a : Assignment) (part : Part) : Type 0 where
  pub space : IsSpace y.places.space
  pub tree : IsTree y.places.tree
  pub prepared : IsPrepared y
  pub tail_is : IsTailAt (setting_in y) tail a
  pub block : IsBlockOf y.places.space tail part

-- the same, where a storage stands for the workspace
abbrev pub StandsAt : {D : Type 0} → (D → Option Files) → Evaluation → Storage D → TailBlock → Type 0
StandsAt files e s b = IsAtBlock (work_of files e s) b.tail.now (around b) (part_in b)
