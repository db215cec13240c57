-- A body that runs at each assignment of a part of the loops round it.
use Rattle.std.specs.Prelude.{ℕ, ◌+◌, List, [], ◌∷◌}
use Rattle.tce_tree.specs.Value.{Assignment, with_number}
use Rattle.tce_block.specs.Parts.{Part}
use Rattle.tce_code.specs.Execution.{Setting, State, exec, repeated}
use Rattle.tce_code.specs.Program.{Program}

-- the loops go from their first numbers on, so many turns each, the last of them the fastest
abbrev pub exec_along : Setting → Program → List ℕ → List ℕ → List ℕ → State → Assignment → State
exec_along s body [] from len state a = exec s body state a
exec_along s body (i ∷ order) [] len state a = state
exec_along s body (i ∷ order) (f ∷ from) [] state a = state
exec_along s body (i ∷ order) (f ∷ from) (n ∷ len) state a =
    repeated n (λ x before. exec_along s body order from len before (with_number a i (f + x))) state

-- the state after the body has run at each assignment of the part, in row-major order
abbrev pub exec_part : Setting → Program → List ℕ → Part → State → Assignment → State
exec_part s body order part state a = exec_along s body order part.from part.len state a
