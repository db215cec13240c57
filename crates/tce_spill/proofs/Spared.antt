-- What is left of files and room where not all pieces are run.
use Rattle.std.proofs.Common.{◌≡◌, inr, ℕ, List, Option, subst}
use Rattle.tce_outside.specs.Files.{Files}
use Rattle.tce_spec.specs.Pieces.{Cuts}
use Rattle.tce_spec.specs.Specification.{Specification}
use Rattle.tce_spill.specs.declared.fault.SpillFault.{SpillFault}
use Rattle.tce_spill.specs.RunRefusals.{AreCut}
use Rattle.tce_spill.specs.Left.{IsLeft, IsLeftBy}

pub late_left : (before middle after : Option Files) (taken taken_after : List (ℕ × ℕ)) (s : Specification) (cut : Cuts) (budget limit : ℕ) (f : SpillFault) → AreCut s limit cut → middle ≡ before
    → IsLeftBy middle after taken taken_after s cut budget f → IsLeft before after taken taken_after s budget limit f
late_left before middle after taken taken_after s cut budget limit f are same left =
    inr (record { cut = cut; are_cut = are; here = subst (λ (told : Option Files). IsLeftBy told after taken taken_after s cut budget f) same left })
