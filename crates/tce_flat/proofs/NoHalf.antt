-- What is left of the files that the commands make.
use Rattle.std.proofs.Common.{◌≡◌, List, ℕ, Option, inr, subst}
use Rattle.std.specs.Option.{ForSome}
use Rattle.tce_outside.specs.Files.{Files}
use Rattle.tce_space.specs.Tiling.{Tiling}
use Rattle.tce_flat.specs.Tensors.{HasTensor}
use Rattle.tce_flat.specs.NoHalf.{LeavesFor}

-- behind the search for the tensor, which changes nothing
pub left_for : (left : Tiling → Option Files → Option Files → Type 0) (spec tensor : List ℕ) (shape : Tiling) (before middle after : Option Files) → middle ≡ before
    → ForSome before (λ files. HasTensor files spec tensor shape) → left shape middle after → LeavesFor left spec tensor before after
left_for left spec tensor shape before middle after same found h = inr (shape, found, subst (λ o. left shape o after) same h)
