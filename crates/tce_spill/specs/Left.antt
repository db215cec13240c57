-- What is left where the pieces are not run to the end.
use Rattle.std.specs.Prelude.{◌≡◌, ◌⊎◌, ℕ, ◌+◌, ◌<◌, ◌≤◌, IsTrue, List, Option}
use Rattle.std.specs.Option.{ForSome, option_map}
use Rattle.tce_outside.specs.Files.{Files, others}
use Rattle.tce_tree.specs.ContractionTree.{operations}
use Rattle.tce_spec.specs.Pieces.{Cuts, is_root}
use Rattle.tce_spec.specs.Specification.{Specification}
use Rattle.tce_spec.specs.PieceSpecification.{piece_of}
use Rattle.tce_job.specs.TensorFiles.{file_of}
use Rattle.tce_job.specs.Laws.{LeavesNoHalfResult}
use Rattle.tce_job.specs.Several.{files_after, OnlyResultsDiffer, HasTakenEach}
use Rattle.tce_spill.specs.declared.fault.SpillFault.{SpillFault}
use Rattle.tce_spill.specs.declared.fault.SpillFault.TheVariants.{Array, Disk, Memory}
use Rattle.tce_spill.specs.PieceRuns.{pieces_below, pieces_of}
use Rattle.tce_spill.specs.Values.{IsSpilled}
use Rattle.tce_spill.specs.Reports.{IsReported}
use Rattle.tce_spill.specs.RunRefusals.{AreCut, WithCuts}

-- the files that the pieces of the first nodes leave
abbrev pub files_at : Option Files → Specification → Cuts → ℕ → Option Files
files_at before s cut n = option_map (files_after (pieces_below s cut n)) before

-- The pieces of the cuts for a limit were run in turn: over the files that the ones in front left, each put its array there, so that the result is that of the whole, and each cut node has the array of its values. The room gave for each, and the text has the line of each.
pub record HasSpilled (before after : Option Files) (taken taken_after : List (ℕ × ℕ)) (s : Specification) (budget limit : ℕ) (text : List ℕ) : Type 0 where
  pub cut : Cuts
  pub are_cut : AreCut s limit cut
  pub files : after ≡ files_at before s cut (operations s.tree)
  pub values : ForSome before (λ start. ForSome after (λ now. IsSpilled start now s cut))
  pub reported : IsReported s cut budget limit taken taken_after text

-- The disk failed at the piece of node `v`: the pieces in front of it are complete, in the place of its result is no half of one, and all else is as it was.
pub record HasFailedAt (before after : Option Files) (s : Specification) (cut : Cuts) (v : ℕ) : Type 0 where
  pub inside : v < operations s.tree
  pub root : IsTrue (is_root s.tree cut v)
  pub others : others (file_of (piece_of s cut v) (piece_of s cut v).result) after ≡ others (file_of (piece_of s cut v) (piece_of s cut v).result) (files_at before s cut v)
  pub no_half : LeavesNoHalfResult (piece_of s cut v) (files_at before s cut v) after

-- memory was wanting between two pieces: those of the first nodes are complete, and all else is as it was
pub record HasEndedAt (before after : Option Files) (s : Specification) (cut : Cuts) (n : ℕ) : Type 0 where
  pub inside : n ≤ operations s.tree
  pub files : after ≡ files_at before s cut n

-- the room gave for the pieces of the nodes in front of one, or for that of this one too
abbrev pub HasTakenTo : List (ℕ × ℕ) → List (ℕ × ℕ) → Specification → Cuts → ℕ → ℕ → Type 0
HasTakenTo taken taken_after s cut budget n =
    HasTakenEach (pieces_below s cut n) budget taken taken_after ⊎ ((n < operations s.tree) × HasTakenEach (pieces_below s cut (n + 1)) budget taken taken_after)

-- what is left with these cuts: after a failure or want of memory files and takings of the first pieces; where an array is refused no file changed, and nothing was taken but where the disk tells no files
abbrev pub IsLeftBy : Option Files → Option Files → List (ℕ × ℕ) → List (ℕ × ℕ) → Specification → Cuts → ℕ → SpillFault → Type 0
IsLeftBy before after taken taken_after s cut budget Disk = (v : ℕ) × HasFailedAt before after s cut v × HasTakenTo taken taken_after s cut budget v
IsLeftBy before after taken taken_after s cut budget Memory = (n : ℕ) × HasEndedAt before after s cut n × HasTakenTo taken taken_after s cut budget n
IsLeftBy before after taken taken_after s cut budget (Array name fault) = (v : ℕ) × (v ≤ operations s.tree) × (after ≡ before) × ForSome before (λ _. taken_after ≡ taken) × HasTakenTo taken taken_after s cut budget v
IsLeftBy before after taken taken_after s cut budget fault = (after ≡ before) × (taken_after ≡ taken)

-- all is as it was, or some pieces were run
abbrev pub IsLeft : Option Files → Option Files → List (ℕ × ℕ) → List (ℕ × ℕ) → Specification → ℕ → ℕ → SpillFault → Type 0
IsLeft before after taken taken_after s budget limit fault = ((after ≡ before) × (taken_after ≡ taken)) ⊎ WithCuts s limit (λ cut. IsLeftBy before after taken taken_after s cut budget fault)

-- no file differs but those of the pieces
abbrev pub OnlyPiecesDiffer : Option Files → Option Files → Specification → ℕ → Type 0
OnlyPiecesDiffer before after s limit = (after ≡ before) ⊎ WithCuts s limit (λ cut. OnlyResultsDiffer (pieces_of s cut) before after)

-- what pieces leave in all outcomes: those of the first nodes are complete, that many of them; no other file differs, or that of the array of the next node alone; and the room gave for those that are complete, or for that of the next node too
pub record HaveRunTo (before after : Option Files) (taken taken_after : List (ℕ × ℕ)) (s : Specification) (cut : Cuts) (budget : ℕ) : Type 0 where
  pub end : ℕ
  pub files_are : HasEndedAt before after s cut end ⊎ HasFailedAt before after s cut end
  pub takings : HasTakenTo taken taken_after s cut budget end
