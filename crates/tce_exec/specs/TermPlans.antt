-- Plans of terms, and what terms make of a state.
use Rattle.std.specs.Prelude.{◌≡◌, ℕ, ◌*◌, Bool, if◌then◌else◌, List, [], ◌∷◌, ◌++◌, length, map}
use Rattle.std.specs.List.{fold}
use Rattle.tce_base.specs.Word.{wrapping_add, wrapping_mul}
use Rattle.tce_space.specs.Space.{IndexSpace, extent_at, edge_at}
use Rattle.tce_tree.specs.Value.{Assignment, sum_over}
use Rattle.tce_block.specs.Parts.{Part, blocks}
use Rattle.tce_block.specs.Sums.{part_sum}
use Rattle.tce_code.specs.Execution.{Setting, State}
use Rattle.tce_walk.specs.Touches.{block_count}
use Rattle.tce_exec.specs.NodeStates.{Places}
use Rattle.tce_exec.specs.Workspace.{Workspace, setting_in}
use Rattle.tce_exec.specs.Steps.{IsKept, IsChanged}
use Rattle.tce_exec.specs.TermParts.{mapped_by_part}
use Rattle.tce_exec.specs.TermWindows.{term_value}
use Rattle.tce_exec.specs.TermBlocks.{around, outer_part, IsTermNest}
use Rattle.tce_exec.specs.declared.term_block.TermRun.{TermRun}
use Rattle.tce_exec.specs.declared.term_plan.TermPlan.{TermPlan}

-- the blocks of a term's own loops
abbrev pub blocks_of_term : IndexSpace → TermRun → List Part
blocks_of_term space r = blocks (map (extent_at space) r.inner.now) (map (edge_at space) r.inner.now)

-- the plan of a term of which no block has run
pub record IsTermPlan (p : Places) (r : TermRun) (plan : TermPlan) : Type 0 where
  pub blocks_are : plan.blocks ≡ blocks_of_term p.space r
  pub loops_are : plan.loops.items ≡ r.order.now ++ r.inner.now
  pub nest_is : IsTermNest p r plan.loops.items plan.nest

-- ---- what a whole term makes of a state

abbrev pub touches_of_run : IndexSpace → TermRun → ℕ
touches_of_run space r = 3 * block_count space r.inner.now

abbrev pub after_term : Setting → TermRun → State → State
after_term s r state =
    mapped_by_part s r.operands.out r.order.now
    (λ b w. wrapping_mul r.factors.after (wrapping_add (wrapping_mul r.factors.before w) (sum_over s.elements.extent r.inner.now (term_value s.elements r.operands) b)))
    (around r) (outer_part r) state

-- ---- a term that is run as far as some of its blocks

-- what one block adds
abbrev pub block_value : Setting → TermRun → Part → Assignment → ℕ
block_value s r q b = part_sum r.inner.now r.inner.now (term_value s.elements r.operands) b q

abbrev pub summed : Setting → TermRun → List Part → Assignment → ℕ → ℕ
summed s r ran b w = fold (λ x q. wrapping_add x (block_value s r q b)) (wrapping_mul r.factors.before w) ran

-- the word of a place after some blocks, where others are left
abbrev pub word_along : Setting → TermRun → List Part → List Part → Assignment → ℕ → ℕ
word_along s r [] left b w = w
word_along s r (q ∷ ran) [] b w = wrapping_mul r.factors.after (summed s r (q ∷ ran) b w)
word_along s r (q ∷ ran) (p ∷ left) b w = summed s r (q ∷ ran) b w

-- by what the next block multiplies first, and by what one behind which these are left multiplies last
abbrev pub first_factor : TermRun → List Part → ℕ
first_factor r [] = r.factors.before
first_factor r (q ∷ ran) = 1

abbrev pub last_factor : TermRun → List Part → ℕ
last_factor r [] = r.factors.after
last_factor r (p ∷ left) = 1

-- the blocks that are left, where the next one is known already
abbrev pub left_blocks : Bool → Part → List Part → List Part
left_blocks more next rest = if more then next ∷ rest else []

pub record IsAlongTerm (before now : Workspace) (r : TermRun) (left : List Part) (factor : ℕ) : Type 0 where
  pub ran : List Part
  pub all : blocks_of_term before.places.space r ≡ ran ++ left
  pub factor_is : factor ≡ first_factor r ran
  pub kept : IsKept before now
  pub changed : IsChanged (mapped_by_part (setting_in before) r.operands.out r.order.now (word_along (setting_in before) r ran left) (around r) (outer_part r)) (3 * length ran) before now
