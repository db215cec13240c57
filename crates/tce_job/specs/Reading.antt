-- The files of the operands' arrays, and what a cache reads of them.
use Rattle.std.specs.Prelude.{◌≡◌, ℕ, IsTrue, List, Some, slice_get}
use Rattle.std.specs.Option.{IsSomeAnd}
use Rattle.tce_outside.specs.Files.{Files, file, with_file}
use Rattle.tce_space.specs.Tiling.{tile_number, place_in_tile}
use Rattle.tce_array.specs.declared.form.Form.{Form}
use Rattle.tce_array.specs.Forms.{form_of, IsForm}
use Rattle.tce_cache.specs.declared.array.ArrayRef.{ArrayRef}
use Rattle.tce_cache.specs.Cache.{State, stored}
use Rattle.tce_spec.specs.Contraction.{has_tensor}
use Rattle.tce_spec.specs.Specification.{Specification, IsSpecification}
use Rattle.tce_spec.specs.Operands.{shape_of}
use Rattle.tce_job.specs.TensorFiles.{file_of, bytes_in, elements}
use Rattle.tce_job.specs.Opened.{operand_count, AreOpened}
use Rattle.tce_job.specs.Arrays.{AreArraysOf}

-- the file of each operand's array is there, in the form and of the shape that the array says
abbrev pub HoldOperands : Files → Specification → List ArrayRef → Type 0
HoldOperands files s arrays =
    (t : ℕ) (a : ArrayRef) → IsTrue (has_tensor t s.tree) → slice_get arrays t ≡ Some a
    → IsSomeAnd (file files a.file.bytes) (λ bytes. (form_of bytes ≡ a.form) × IsForm a.form a.shape bytes)

-- Operands that were opened have their files, also once the result's file was made, and what a cache finds stored of them are their elements.
pub record OpenedArraysAreRead : Type 0 where
  pub hold : (files : Files) (s : Specification) (forms : List Form) (arrays : List ArrayRef) → AreArraysOf s forms arrays → AreOpened files s forms (operand_count s) → HoldOperands files s arrays
  pub made : (files : Files) (s : Specification) (forms : List Form) (arrays : List ArrayRef) (result : List ℕ) → IsSpecification s → AreArraysOf s forms arrays → HoldOperands files s arrays
      → HoldOperands (with_file files (file_of s s.result) result) s arrays
  pub read : (files : Files) (s : Specification) (forms : List Form) (c : State) (t : ℕ) (a : ArrayRef) (coords : List ℕ) → AreArraysOf s forms c.arrays → HoldOperands files s c.arrays
      → IsTrue (has_tensor t s.tree) → slice_get c.arrays t ≡ Some a
      → stored c files t (tile_number (shape_of s t) coords) (place_in_tile (shape_of s t) coords) ≡ (elements s (bytes_in files s)).cell t coords
