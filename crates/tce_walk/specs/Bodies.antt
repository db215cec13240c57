-- Bodies without loops, and what a machine is asked at one block of the loops round them.
use Rattle.std.specs.Prelude.{◌≡◌, ℕ, ◌*◌, ◌<◌, ◌≤◌, ◌⊎◌, IsTrue, Option, List, length, map, slice_get, All}
use Rattle.std.specs.Option.{option_map}
use Rattle.std.specs.declared.option.Option.TheVariants.{Some}
use Rattle.tce_space.specs.Box.{product}
use Rattle.tce_space.specs.IndexSet.{has}
use Rattle.tce_space.specs.Limits.{max_loops, max_volume}
use Rattle.tce_space.specs.Space.{IndexSpace, extent_at, edge_at}
use Rattle.tce_tree.specs.ContractionTree.{operations, node_loops}
use Rattle.tce_tree.specs.Value.{Assignment}
use Rattle.tce_tree.specs.WellFormed.{among, is_distinct}
use Rattle.tce_block.specs.Parts.{Part, blocks}
use Rattle.tce_code.specs.Execution.{Setting, State}
use Rattle.tce_code.specs.Program.{program_of}
use Rattle.tce_code.specs.declared.op.Op.{Op}
use Rattle.tce_walk.specs.Machine.{operation_of_node}
use Rattle.tce_walk.specs.PartRuns.{exec_part}
use Rattle.tce_walk.specs.Positions.{plain_program}

-- the operation of a node, each of whose loops is one of these or has a number inside its extent
pub record IsOperationIn (s : Setting) (loops : List ℕ) (a : Assignment) (op : Op) : Type 0 where
  pub node : ℕ
  pub known : node < operations s.tree
  pub alone : plain_program op ≡ operation_of_node s.tree node
  pub inside : (i : ℕ) → IsTrue (has (node_loops s.tree node) i) → IsTrue (among loops i) ⊎ (a i < s.elements.extent i)

-- Declared loops, each once, of at most 2 ^ 90 iterations together, round operations of nodes; and one of the blocks into which the edges cut them.
pub record IsBodyAt (space : IndexSpace) (s : Setting) (loops : List ℕ) (ops : List Op) (part : Part) (a : Assignment) : Type 0 where
  pub few : length loops ≤ max_loops
  pub distinct : IsTrue (is_distinct loops)
  pub declared : (i : ℕ) → IsTrue (among loops i) → i < length space.indexes
  pub limit : product (map (extent_at space) loops) ≤ max_volume
  pub each : All (IsOperationIn s loops a) ops
  pub number : ℕ
  pub block : slice_get (blocks (map (extent_at space) loops) (map (edge_at space) loops)) number ≡ Some part

-- three touches for each operation at each assignment of the block
abbrev pub touches_of_body : List Op → Part → ℕ
touches_of_body ops part = product part.len * (3 * length ops)

-- the state after the body has run at each assignment of the part, where a state is told
abbrev pub after_body : Setting → List ℕ → List Op → Part → Assignment → Option State → Option State
after_body s loops ops part a state = option_map (λ before. exec_part s (program_of ops) loops part before a) state
