-- The tensors that a command names, and their files.
use Rattle.std.specs.Prelude.{◌≡◌, ℕ, List, ◌++◌, None, Some, codes}
use Rattle.tce_outside.specs.Files.{Files}
use Rattle.tce_space.specs.Tiling.{Tiling}
use Rattle.tce_spec.specs.Declarations.{tensor_number}
use Rattle.tce_spec.specs.Specification.{Specification}
use Rattle.tce_spec.specs.Operands.{shape_of}
use Rattle.tce_command.specs.Source.{HasSpecification}

-- a tensor of this name is declared in the specification, and this is its shape
pub record DeclaresTensor (s : Specification) (tensor : List ℕ) (shape : Tiling) : Type 0 where
  pub number : ℕ
  pub named : tensor_number s.declarations.tensors tensor ≡ Some number
  pub same : shape ≡ shape_of s number

-- a tensor of this name is declared in the file, and this is its shape
pub record HasTensor (files : Files) (spec tensor : List ℕ) (shape : Tiling) : Type 0 where
  pub specification : Specification
  pub number : ℕ
  pub specified : HasSpecification files spec specification
  pub named : tensor_number specification.declarations.tensors tensor ≡ Some number
  pub same : shape ≡ shape_of specification number

-- no tensor of this name is declared in the file
pub record LacksTensor (files : Files) (spec tensor : List ℕ) : Type 0 where
  pub specification : Specification
  pub specified : HasSpecification files spec specification
  pub unnamed : tensor_number specification.declarations.tensors tensor ≡ None

-- the name of a tensor's array file, and of the one that a conversion writes
abbrev pub array_file : List ℕ → List ℕ
array_file tensor = tensor ++ codes ".tca"

abbrev pub converted_file : List ℕ → List ℕ
converted_file tensor = tensor ++ codes ".v2.tca"

-- the name of the file in which a tensor is stored once for each pair
abbrev pub sym_file : List ℕ → List ℕ
sym_file tensor = tensor ++ codes ".sym"
