-- A tail that is run as far as some of its blocks.
use Rattle.std.specs.Prelude.{◌≡◌, ◌*◌, List, ◌++◌, length}
use Rattle.std.specs.List.{fold}
use Rattle.tce_tree.specs.Value.{Assignment}
use Rattle.tce_block.specs.Parts.{Part}
use Rattle.tce_walk.specs.Parts.{after_part}
use Rattle.tce_code.specs.Execution.{Setting, State}
use Rattle.tce_walk.specs.declared.machine.Tail.{Tail}
use Rattle.tce_exec.specs.Workspace.{Workspace, setting_in}
use Rattle.tce_exec.specs.Steps.{IsKept, IsChanged}
use Rattle.tce_exec.specs.Blocks.{blocks_of}

-- what some parts leave, one after the other
abbrev pub after_parts : Setting → Tail → Assignment → List Part → State → State
after_parts s tail a parts state = fold (λ before part. after_part s tail a part before) state parts

-- some blocks have been run, and these are left
pub record IsAlong (before now : Workspace) (tail : Tail) (a : Assignment) (left : List Part) : Type 0 where
  pub ran : List Part
  pub all : blocks_of before.places.space tail ≡ ran ++ left
  pub kept : IsKept before now
  pub changed : IsChanged (after_parts (setting_in before) tail a ran) (3 * length ran) before now
