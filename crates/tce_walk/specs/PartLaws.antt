-- Parts of a tail's loops, one after the other, leave what the tail leaves.
use Rattle.std.specs.Prelude.{◌≡◌, ℕ, map}
use Rattle.std.specs.List.{fold}
use Rattle.tce_space.specs.Tiling.{ArePositive}
use Rattle.tce_tree.specs.Value.{Assignment}
use Rattle.tce_block.specs.Parts.{Part, blocks}
use Rattle.tce_walk.specs.Parts.{after_part}
use Rattle.tce_code.specs.Execution.{Setting, State, exec}
use Rattle.tce_walk.specs.TailLaws.{AreLoops}
use Rattle.tce_walk.specs.Laws.{HoldsWords}
use Rattle.tce_walk.specs.Machine.{tail_program, IsTailAt}
use Rattle.tce_walk.specs.declared.machine.Tail.{Tail}

-- the blocks of the loops, whatever the edges
abbrev pub PartsMakeTails : Type 0
PartsMakeTails =
    (s : Setting) (tail : Tail) (a : Assignment) (edge : ℕ → ℕ) (before : State)
    → IsTailAt s tail a → AreLoops s tail.loops.0.items → ArePositive (map edge tail.loops.0.items) → ((v : ℕ) → HoldsWords v before)
    → fold (λ state part. after_part s tail a part state) before (blocks (map s.elements.extent tail.loops.0.items) (map edge tail.loops.0.items))
    ≡ exec s (tail_program s.tree tail) before a

-- a part leaves words where there were words
abbrev pub PartsKeepWords : Type 0
PartsKeepWords =
    (s : Setting) (tail : Tail) (a : Assignment) (part : Part) (before : State)
    → ((v : ℕ) → HoldsWords v before) → (v : ℕ) → HoldsWords v (after_part s tail a part before)
