-- One block of a term's loops, in one block of the loops of its combination.
use Rattle.std.specs.Prelude.{◌≡◌, ℕ, ◌<◌, ◌≤◌, ◌⊎◌, IsTrue, false, List, ◌++◌, length, map, slice_get, Some}
use Rattle.tce_space.specs.Limits.{max_loops}
use Rattle.tce_space.specs.IndexSet.{has}
use Rattle.tce_space.specs.Space.{IndexSpace, IsSpace, extent_at, edge_at}
use Rattle.tce_tree.specs.ContractionTree.{operations}
use Rattle.tce_tree.specs.Fusion.{kept_dims}
use Rattle.tce_tree.specs.Value.{Assignment}
use Rattle.tce_tree.specs.WellFormed.{among, is_distinct}
use Rattle.tce_tree.specs.declared.node.Operand.{Operand}
use Rattle.tce_tree.specs.declared.node.Operand.TheVariants.{Leaf, Constant, Node}
use Rattle.tce_block.specs.Cuts.{part_of}
use Rattle.tce_block.specs.Parts.{Part, blocks}
use Rattle.tce_code.specs.Execution.{Setting, State}
use Rattle.tce_walk.specs.Machine.{assignment_of}
use Rattle.tce_walk.specs.Parts.{grown_by_part}
use Rattle.tce_exec.specs.NodeStates.{Places}
use Rattle.tce_exec.specs.Loops.{IsWindowWithin, AreWindowsApart, HasGrown, HasGrownByProducts}
use Rattle.tce_exec.specs.Scaling.{HasScaled}
use Rattle.tce_exec.specs.Sequences.{IsLoopSequence}
use Rattle.tce_exec.specs.TermParts.{joined_part, scaled_by_part}
use Rattle.tce_exec.specs.TermWindows.{term_value, AreTensors, AreTermSteps}
use Rattle.tce_exec.specs.declared.window.Window.{Window}
use Rattle.tce_exec.specs.declared.steps.Windows.{Windows}
use Rattle.tce_exec.specs.declared.term_block.TermRun.{TermRun}
use Rattle.tce_exec.specs.declared.term_block.TermBlock.{TermBlock}
use Rattle.tce_exec.specs.declared.term_block.TermNest.{TermNest}

-- the numbers of the loops round it
abbrev pub around : TermRun → Assignment
around r = assignment_of r.numbers.now

-- which part of the combination's loops it is, and which of these and the term's
abbrev pub outer_part : TermRun → Part
outer_part r = part_of r.block.now

abbrev pub block_part : TermBlock → Part
block_part b = part_of b.block.now

-- ---- what the words become

-- the words of the places are multiplied by a factor
pub data IsScaled (factor : ℕ) (r : TermRun) (out : Window) (old new : List ℕ) : Type 0 where
  by_one : factor ≡ 1 → new ≡ old → IsScaled factor r out old new
  by_factor : HasScaled factor r.order.now (outer_part r).len out old new → IsScaled factor r out old new

-- the words of a window are read beside those of another one
pub record IsReadBeside (count : ℕ) (b : TermBlock) (w out : Window) : Type 0 where
  pub within : IsWindowWithin count b.loops.now (block_part b).len w
  pub apart : AreWindowsApart b.loops.now (block_part b).len out w

-- the operand's words were added, or the products of both operands'
pub record IsAdded (b : TermBlock) (w : Windows) (old new : List ℕ) : Type 0 where
  pub products : IsTrue b.run.operands.pair → HasGrownByProducts b.loops.now (block_part b).len w.out w.left w.right old new
  pub words : b.run.operands.pair ≡ false → HasGrown b.loops.now (block_part b).len w.out w.left old new

abbrev pub after_term_block : Setting → TermBlock → State → State
after_term_block s b state =
    scaled_by_part s b.run.operands.out b.run.order.now b.factors.after (around b.run) (outer_part b.run)
    (grown_by_part s b.run.operands.out b.loops.now (term_value s.elements b.run.operands) (around b.run) (block_part b)
    (scaled_by_part s b.run.operands.out b.run.order.now b.factors.before (around b.run) (outer_part b.run) state))

-- ---- what is asked

-- each index of a tensor is one of these loops or has a number inside its extent
abbrev pub IsInReach : IndexSpace → List ℕ → Assignment → Operand → Type 0
IsInReach space loops a (Leaf l) = (i : ℕ) → IsTrue (among l.indexes.items i) → IsTrue (among loops i) ⊎ (a i < extent_at space i)
IsInReach space loops a (Constant number) = ⊥
IsInReach space loops a (Node u) = ⊥

-- the part is one of the blocks into which the edges cut the loops
abbrev pub IsBlockIn : IndexSpace → List ℕ → Part → Type 0
IsBlockIn space loops part = (k : ℕ) × (slice_get (blocks (map (extent_at space) loops) (map (edge_at space) loops)) k ≡ Some part)

-- A term of a node in one block of loops that are dims of the node. The term's own loops are none of these. All of them are distinct.
pub record IsTermRun (p : Places) (r : TermRun) : Type 0 where
  pub space : IsSpace p.space
  pub known : r.operands.out < operations p.tree
  pub dims : (i : ℕ) → IsTrue (among r.order.now i) → IsTrue (has (kept_dims p.tree p.fusion r.operands.out) i)
  pub apart : (i : ℕ) → IsTrue (among r.inner.now i) → has (kept_dims p.tree p.fusion r.operands.out) i ≡ false
  pub inside : (i : ℕ) → IsTrue (has (kept_dims p.tree p.fusion r.operands.out) i) → IsTrue (among r.order.now i) ⊎ (around r i < extent_at p.space i)
  pub distinct : IsTrue (is_distinct (r.order.now ++ r.inner.now))
  pub few : length (r.order.now ++ r.inner.now) ≤ max_loops
  pub declared : (i : ℕ) → IsTrue (among (r.order.now ++ r.inner.now) i) → i < length p.space.indexes
  pub block : IsBlockIn p.space r.order.now (outer_part r)
  pub tensors : AreTensors p r.operands
  pub left_in : IsInReach p.space (r.order.now ++ r.inner.now) (around r) r.operands.left.now
  pub right_in : IsInReach p.space (r.order.now ++ r.inner.now) (around r) r.operands.right.now

pub record IsTermBlock (p : Places) (b : TermBlock) : Type 0 where
  pub run : IsTermRun p b.run
  pub loops_are : b.loops.now ≡ b.run.order.now ++ b.run.inner.now
  pub part : Part
  pub part_is : IsBlockIn p.space b.run.inner.now part
  pub block_is : block_part b ≡ joined_part (outer_part b.run) part

pub record IsTermNest (p : Places) (r : TermRun) (loops : List ℕ) (nest : TermNest) : Type 0 where
  pub sequence_is : IsLoopSequence loops nest.sequence
  pub places_is : IsLoopSequence r.order.now nest.places
  pub steps_are : AreTermSteps p r.operands nest.windows
