-- The cuts in turn, while they are taken back one after the other.
use Rattle.std.specs.Prelude.{◌≡◌, ℕ, ◌<◌, ◌≤◌, false, IsTrue}
use Rattle.tce_space.specs.Space.{IndexSpace}
use Rattle.tce_tree.specs.ContractionTree.{ContractionTree}
use Rattle.tce_spec.specs.Pieces.{Cuts, piece, is_root}
use Rattle.tce_spec.specs.Storable.{storable}
use Rattle.tce_spill.specs.Parts.{FitsMemory}
use Rattle.tce_spill.specs.CutsFor.{MeetLimit, JoinMeetsLimit, in_turn}

-- the storable nodes are cut, and no others
abbrev pub AllAreCut : IndexSpace → ContractionTree → Cuts → Type 0
AllAreCut space tree cut = (v : ℕ) → cut v ≡ storable space tree v

-- the pieces of the roots before `n` have fusions within the limit
abbrev pub FitBefore : IndexSpace → ContractionTree → Cuts → ℕ → ℕ → Type 0
FitBefore space tree cut limit n = (r : ℕ) → r < n → IsTrue (is_root tree cut r) → FitsMemory space (piece tree cut r) limit

-- before node `n` it is decided which cuts stay; from it on all storable nodes are cut; and each piece is within the limit
pub record AreDecided (space : IndexSpace) (tree : ContractionTree) (limit : ℕ) (cut : Cuts) (n : ℕ) : Type 0 where
  pub rest : (u : ℕ) → n ≤ u → cut u ≡ storable space tree u
  pub only_storable : (u : ℕ) → IsTrue (cut u) → IsTrue (storable space tree u)
  pub stays : (v : ℕ) → v < n → IsTrue (cut v) → JoinMeetsLimit space tree (in_turn space tree cut v) v limit → ⊥
  pub taken_back : (v : ℕ) → v < n → IsTrue (storable space tree v) → cut v ≡ false → JoinMeetsLimit space tree (in_turn space tree cut v) v limit
  pub meet : MeetLimit space tree cut limit
