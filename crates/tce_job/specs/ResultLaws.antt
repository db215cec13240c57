-- What holds of the files of all specifications.
use Rattle.std.specs.Prelude.{◌≡◌, ℕ, ◌<◌, List, length}
use Rattle.tce_outside.specs.Files.{Files, with_file}
use Rattle.tce_space.specs.Box.{IsInside}
use Rattle.tce_space.specs.Tiling.{IsTiling, padded_words}
use Rattle.tce_array.specs.declared.form.Form.TheVariants.{One}
use Rattle.tce_array.specs.Forms.{IsForm, cell, word_at}
use Rattle.tce_array.specs.Files.{AreBytes, IsPadding}
use Rattle.tce_spec.specs.Declarations.{IsDeclarations}
use Rattle.tce_spec.specs.Specification.{Specification, IsSpecification}
use Rattle.tce_spec.specs.Operands.{shape_of}
use Rattle.tce_job.specs.TensorFiles.{file_of}
use Rattle.tce_job.specs.ResultBytes.{result_element, result_from, result_bytes}

abbrev pub IsTensorOf : Specification → ℕ → Type 0
IsTensorOf s t = t < length s.declarations.tensors

-- the shape of each declared tensor keeps the limits of shapes, and different tensors have different files
pub record TensorsHaveFiles : Type 0 where
  pub shapes : (s : Specification) (t : ℕ) → IsDeclarations s.declarations → IsTensorOf s t → IsTiling (shape_of s t)
  pub different : (s : Specification) (t u : ℕ) → IsDeclarations s.declarations → IsTensorOf s t → IsTensorOf s u → file_of s t ≡ file_of s u → t ≡ u

-- a result's file is an array of its shape, with the values of the tree as its elements
pub record HoldsValues (s : Specification) (bytes : ℕ → List ℕ) (file : List ℕ) : Type 0 where
  pub array : IsForm One (shape_of s s.result) file
  pub values : (coords : List ℕ) → IsInside (shape_of s s.result).extents coords → cell One (shape_of s s.result) file coords ≡ result_element s bytes coords

-- and it is padded with zeros
abbrev pub IsPadded : Specification → List ℕ → Type 0
IsPadded s file = (k : ℕ) → k < padded_words (shape_of s s.result) → IsPadding (shape_of s s.result) k → word_at One (shape_of s s.result) file k ≡ 0

-- The file of a result is told by this. It does not depend on what the result's file held before.
pub record ResultsAreTold : Type 0 where
  pub holds : (s : Specification) (bytes : ℕ → List ℕ) → IsSpecification s → HoldsValues s bytes (result_from s bytes)
  pub padded : (s : Specification) (bytes : ℕ → List ℕ) → IsSpecification s → IsPadded s (result_from s bytes)
  pub told : (s : Specification) (bytes : ℕ → List ℕ) (file : List ℕ) → IsSpecification s → HoldsValues s bytes file → IsPadded s file → AreBytes file → file ≡ result_from s bytes
  pub before : (s : Specification) (files : Files) (old : List ℕ) → IsSpecification s → result_bytes s (with_file files (file_of s s.result) old) ≡ result_bytes s files
