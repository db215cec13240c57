-- The cuts for a limit of memory.
use Rattle.std.specs.Prelude.{◌≡◌, ℕ, ◌<◌, false, nat_lt, if◌then◌else◌, IsTrue}
use Rattle.tce_space.specs.Space.{IndexSpace}
use Rattle.tce_tree.specs.ContractionTree.{ContractionTree, operations}
use Rattle.tce_spec.specs.Pieces.{Cuts, except, piece, is_root, IsRootOver}
use Rattle.tce_spec.specs.Storable.{storable}
use Rattle.tce_spill.specs.Parts.{FitsMemory}

-- only storable nodes are cut
abbrev pub AreStorable : IndexSpace → ContractionTree → Cuts → Type 0
AreStorable space tree cut = (v : ℕ) → v < operations tree → IsTrue (cut v) → IsTrue (storable space tree v)

-- each piece has a fusion within the limit
abbrev pub MeetLimit : IndexSpace → ContractionTree → Cuts → ℕ → Type 0
MeetLimit space tree cut limit = (r : ℕ) → r < operations tree → IsTrue (is_root tree cut r) → FitsMemory space (piece tree cut r) limit

-- the piece that joins both sides of node `v` has a fusion within the limit
abbrev pub JoinMeetsLimit : IndexSpace → ContractionTree → Cuts → ℕ → ℕ → Type 0
JoinMeetsLimit space tree cut v limit = (r : ℕ) → IsRootOver tree (except cut v) v r → FitsMemory space (piece tree (except cut v) r) limit

-- the cuts when it is the turn of node `v`: what was kept of the nodes before it, and all storable nodes from it on
abbrev pub in_turn : IndexSpace → ContractionTree → Cuts → ℕ → Cuts
in_turn space tree kept v u = if nat_lt u v then kept u else storable space tree u

-- At first all storable nodes are cut. Then, in order, the cut of a node is taken back exactly where the piece that joins both sides has a fusion within the limit.
pub record AreCutsFor (space : IndexSpace) (tree : ContractionTree) (limit : ℕ) (kept : Cuts) : Type 0 where
  pub only_storable : AreStorable space tree kept
  pub stays : (v : ℕ) → v < operations tree → IsTrue (kept v) → JoinMeetsLimit space tree (in_turn space tree kept v) v limit → ⊥
  pub taken_back : (v : ℕ) → v < operations tree → IsTrue (storable space tree v) → kept v ≡ false → JoinMeetsLimit space tree (in_turn space tree kept v) v limit
