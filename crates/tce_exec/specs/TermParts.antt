-- What a term makes of the places of a node, in one part of the loops round it.
use Rattle.std.specs.Prelude.{ℕ, ◌==◌, ◌&&◌, if◌then◌else◌, List, ◌++◌}
use Rattle.tce_base.specs.Word.{wrapping_mul}
use Rattle.tce_tree.specs.Value.{Assignment}
use Rattle.tce_block.specs.Parts.{Part}
use Rattle.tce_code.specs.Execution.{Setting, State}
use Rattle.tce_walk.specs.Parts.{falls_on, last_on_place}

-- a part of some loops, and one of loops behind them
abbrev pub joined_part : Part → Part → Part
joined_part outer inner = record { from = outer.from ++ inner.from; len = outer.len ++ inner.len }

-- each place of node `v` on which some assignment of the part falls has what `f` makes of its word at the last of them
abbrev pub mapped_by_part : Setting → ℕ → List ℕ → (Assignment → ℕ → ℕ) → Assignment → Part → State → State
mapped_by_part s v order f a part state =
    λ u p. if u == v && falls_on s v order a part p then f (last_on_place s v order a part p) (state u p) else state u p

-- its word is multiplied by a factor
abbrev pub scaled_by_part : Setting → ℕ → List ℕ → ℕ → Assignment → Part → State → State
scaled_by_part s v order factor a part state = mapped_by_part s v order (λ b w. wrapping_mul factor w) a part state
