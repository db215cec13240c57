-- The file of a result, by the formula of its specification.
use Rattle.std.specs.Prelude.{ℕ, List}
use Rattle.tce_outside.specs.Files.{Files, with_file}
use Rattle.tce_array.specs.Forms.{array_bytes}
use Rattle.tce_tree.specs.Value.{value, assignment}
use Rattle.tce_spec.specs.Specification.{Specification}
use Rattle.tce_spec.specs.Operands.{shape_of}
use Rattle.tce_job.specs.TensorFiles.{file_of, bytes_in, elements}

-- an element of the result: the value of the tree where each of the result's indexes has its coordinate
abbrev pub result_element : Specification → (ℕ → List ℕ) → List ℕ → ℕ
result_element s bytes coords = value (elements s bytes) s.tree (assignment s.indexes coords)

-- the file of the result, from the bytes of the tensors' files
abbrev pub result_from : Specification → (ℕ → List ℕ) → List ℕ
result_from s bytes = array_bytes (shape_of s s.result) (result_element s bytes)

-- the file of the result, from the files of a disk
abbrev pub result_bytes : Specification → Files → List ℕ
result_bytes s files = result_from s (bytes_in files s)

-- the files with the result
abbrev pub with_result : Specification → Files → Files
with_result s files = with_file files (file_of s s.result) (result_bytes s files)
