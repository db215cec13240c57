-- Bands whose node gets its values block by block, before the body runs once.
use Rattle.std.specs.Prelude.{◌≡◌, ℕ, ◌+◌, ◌-◌, ◌*◌, ◌≤◌, IsTrue, Option, List, map}
use Rattle.std.specs.List.{list_all, fold}
use Rattle.std.specs.Option.{option_map}
use Rattle.tce_space.specs.IndexSet.{has}
use Rattle.tce_space.specs.Space.{IndexSpace, extent_at, edge_at}
use Rattle.tce_space.specs.Tiling.{ArePositive}
use Rattle.tce_tree.specs.ContractionTree.{node}
use Rattle.tce_tree.specs.Value.{Assignment, value}
use Rattle.tce_tree.specs.WellFormed.{among}
use Rattle.tce_block.specs.Parts.{Part, blocks}
use Rattle.tce_code.specs.Execution.{Setting, State, exec}
use Rattle.tce_code.specs.Program.{Program}
use Rattle.tce_walk.specs.Bands.{Known, HaveTurns, IsBand}
use Rattle.tce_walk.specs.FoundTerms.{SetsAlone}
use Rattle.tce_walk.specs.PartRuns.{exec_part}
use Rattle.tce_walk.specs.Parts.{set_by_part}
use Rattle.tce_walk.specs.TailLaws.{dims_at, AreLoops}
use Rattle.tce_walk.specs.Tails.{loops_round}
use Rattle.tce_walk.specs.Terms.{touches_of_terms}
use Rattle.tce_walk.specs.Touches.{block_count}
use Rattle.tce_walk.specs.declared.terms.Term.{Term}

-- the last numbers of the loops
abbrev pub last_part : (ℕ → ℕ) → List ℕ → Part
last_part extent order = record { from = map (λ i. extent i - 1) order; len = map (λ i. 1) order }

-- A band whose body sets the places of its node to words that the loops' numbers decide: the places get them block by block, whatever the
-- edges, and then the body runs once, at the last numbers.
abbrev pub ValuesMakeBands : Type 0
ValuesMakeBands =
    (s : Setting) (order : List ℕ) (t : ℕ) (outside : Known) (body : Program) (f : Assignment → ℕ) (a : Assignment) (edge : ℕ → ℕ) (before : State)
    → AreLoops s order → ArePositive (map edge order) → HaveTurns s body → IsBand s.tree s.fusion order t outside body
    → IsTrue (list_all (has (dims_at s t)) order) → ((i : ℕ) → IsTrue (has (dims_at s t) i) → IsTrue (among order i)) → SetsAlone s t f body
    → exec_part s body order (last_part s.elements.extent order)
    (fold (λ state part. set_by_part s t order f a part state) before (blocks (map s.elements.extent order) (map edge order))) a
    ≡ exec s (loops_round order body) before a

-- a node's places in all blocks, where a state is told
abbrev pub after_blocks : IndexSpace → Setting → ℕ → List ℕ → Assignment → Option State → Option State
after_blocks space s t order a state =
    option_map (λ before. fold (λ inside part. set_by_part s t order (value s.elements (node s.tree t)) a part inside) before
    (blocks (map (extent_at space) order) (map (edge_at space) order))) state

-- a run of a node's terms at all blocks
pub record IsTermsRun (space : IndexSpace) (s : Setting) (t : ℕ) (order : List ℕ) (terms : List Term) (a : Assignment) (before now : Option State) (m n : ℕ) : Type 0 where
  pub state : now ≡ after_blocks space s t order a before
  pub touches : n ≤ m + block_count space order * touches_of_terms space terms
