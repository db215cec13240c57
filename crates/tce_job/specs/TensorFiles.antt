-- The files of the tensors of a specification, and their elements.
use Rattle.std.specs.Prelude.{ℕ, List, [], ◌++◌, unwrap_or, codes}
use Rattle.tce_outside.specs.Files.{Files, file}
use Rattle.tce_space.specs.Space.{extent_at}
use Rattle.tce_array.specs.Forms.{form_of, cell}
use Rattle.tce_tree.specs.Value.{Elements}
use Rattle.tce_spec.specs.Declarations.{tensor_at}
use Rattle.tce_spec.specs.Specification.{Specification}
use Rattle.tce_spec.specs.Operands.{shape_of}

-- the name of a tensor, and of its file
abbrev pub name_of : Specification → ℕ → List ℕ
name_of s t = (tensor_at s.declarations t).name

abbrev pub file_of : Specification → ℕ → List ℕ
file_of s t = name_of s t ++ codes ".tca"

-- the bytes of a tensor's file; none where it is not there
abbrev pub bytes_in : Files → Specification → ℕ → List ℕ
bytes_in files s t = unwrap_or (file files (file_of s t)) []

-- the elements of each tensor, from the bytes of its file
abbrev pub elements : Specification → (ℕ → List ℕ) → Elements
elements s bytes = record { extent = extent_at s.declarations.space; cell = λ t coords. cell (form_of (bytes t)) (shape_of s t) (bytes t) coords }
