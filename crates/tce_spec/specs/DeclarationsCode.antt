-- What the kept entries of `Declarations` stand for.
use Rattle.std.specs.Prelude.{◌≡◌, List, map}
use Rattle.std.specs.List.{All}
use Rattle.arrayvec.specs.ArrayString.{ArrayString}
use Rattle.tce_space.specs.Space.{IndexSpace, tiling_of}
use Rattle.tce_spec.specs.Declarations as model
use Rattle.tce_spec.specs.Declarations.{IsDeclarations}
use Rattle.tce_spec.specs.declared.declarations.Tensor.{Tensor}

abbrev pub tensor_of : ArrayString × Tensor → model.Tensor
tensor_of e = record { name = e.0.bytes; ranges = e.1.ranges.items }

-- a tensor, as it is kept under its name
abbrev pub entry_of : Tensor → ArrayString × Tensor
entry_of t = (t.name, t)

abbrev pub declarations_of : IndexSpace → List (ArrayString × Tensor) → model.Declarations
declarations_of space tensors = record { space = space; tensors = map tensor_of tensors }

-- a tensor has the name under which it is kept, and the shape of its ranges
pub record IsEntry (space : IndexSpace) (e : ArrayString × Tensor) : Type 0 where
  pub named : e.1.name.bytes ≡ e.0.bytes
  pub shaped : e.1.shape ≡ tiling_of space e.1.ranges.items

pub record AreKept (space : IndexSpace) (tensors : List (ArrayString × Tensor)) : Type 0 where
  pub rules : IsDeclarations (declarations_of space tensors)
  pub entries : All (IsEntry space) tensors
