-- Laws of cuts and of the memory of their pieces.
use Rattle.std.specs.Prelude.{◌≡◌, ◌↔◌, ℕ, ◌<◌, IsTrue, List}
use Rattle.tce_space.specs.Space.{IndexSpace}
use Rattle.tce_tree.specs.ContractionTree.{ContractionTree, operations}
use Rattle.tce_tree.specs.Fusion.{FusionFits}
use Rattle.tce_tree.specs.Memory.{memory}
use Rattle.tce_fusion.specs.Scope.{IsLegal}
use Rattle.tce_spec.specs.Pieces.{Cuts, piece, IsRootOver}
use Rattle.tce_spec.specs.PieceSpecification.{renumbered}
use Rattle.tce_spill.specs.Parts.{IsPart, FitsMemory}
use Rattle.tce_spill.specs.CutsFor.{AreStorable, MeetLimit, JoinMeetsLimit, AreCutsFor}

-- a part takes no more memory than the whole
abbrev pub PartsTakeNoMore : Type 0
PartsTakeNoMore =
    (space : IndexSpace) (part tree : ContractionTree) (limit : ℕ) → 0 < operations part → IsPart part tree → FitsMemory space tree limit → FitsMemory space part limit

-- the cuts of the one set are all among those of the other
abbrev pub AreAmong : ContractionTree → Cuts → Cuts → Type 0
AreAmong tree fewer more = (v : ℕ) → v < operations tree → IsTrue (fewer v) → IsTrue (more v)

-- where more nodes are cut, the piece of a node takes no more memory
abbrev pub MoreCutsTakeNoMore : Type 0
MoreCutsTakeNoMore =
    (space : IndexSpace) (tree : ContractionTree) (fewer more : Cuts) (v r q limit : ℕ) → AreAmong tree fewer more → IsRootOver tree fewer v r → IsRootOver tree more v q
    → FitsMemory space (piece tree fewer r) limit → FitsMemory space (piece tree more q) limit

-- a tree has at most one set of cuts for a limit
abbrev pub CutsAreOne : Type 0
CutsAreOne =
    (space : IndexSpace) (tree : ContractionTree) (limit : ℕ) (kept other : Cuts) → AreCutsFor space tree limit kept → AreCutsFor space tree limit other
    → (v : ℕ) → v < operations tree → kept v ≡ other v

-- where any storable cuts meet a limit, the cuts for that limit meet it
abbrev pub CutsMeetLimits : Type 0
CutsMeetLimits =
    (space : IndexSpace) (tree : ContractionTree) (kept other : Cuts) (limit : ℕ) → AreCutsFor space tree limit kept
    → AreStorable space tree other → MeetLimit space tree other limit → MeetLimit space tree kept limit

-- of the cuts for a limit none alone can be taken back
abbrev pub NoCutIsIdle : Type 0
NoCutIsIdle =
    (space : IndexSpace) (tree : ContractionTree) (kept : Cuts) (limit v : ℕ) → AreCutsFor space tree limit kept → v < operations tree → IsTrue (kept v)
    → JoinMeetsLimit space tree kept v limit → ⊥

-- two trees have the same fusions, which are legal for both or neither, and take the same memory
pub record HaveSameFusions (space : IndexSpace) (a b : ContractionTree) : Type 0 where
  pub fits : (fusion : List ℕ) → FusionFits a fusion ↔ FusionFits b fusion
  pub legal : (fusion : List ℕ) → IsLegal a fusion ↔ IsLegal b fusion
  pub memory_is : (fusion : List ℕ) → memory space a fusion ≡ memory space b fusion

-- other numbers for the tensors of a tree change none of its fusions
abbrev pub RenumberedIsAlike : Type 0
RenumberedIsAlike = (space : IndexSpace) (tree : ContractionTree) (number : ℕ → ℕ) → HaveSameFusions space (renumbered number tree) tree
