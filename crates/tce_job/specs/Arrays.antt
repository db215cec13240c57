-- The arrays of a specification, by the numbers of their tensors.
use Rattle.std.specs.Prelude.{◌≡◌, ◌≢◌, ℕ, ◌≤◌, true, false, List, length, slice_get, IsTrue, Some}
use Rattle.tce_space.specs.Tiling.{tile_words, Tiling}
use Rattle.tce_array.specs.declared.form.Form.{Form}
use Rattle.tce_array.specs.declared.form.Form.TheVariants.{One}
use Rattle.tce_cache.specs.declared.array.ArrayRef.{ArrayRef}
use Rattle.tce_cache.specs.Cache.{AreArrays}
use Rattle.tce_spec.specs.Contraction.{has_tensor}
use Rattle.tce_spec.specs.Specification.{Specification}
use Rattle.tce_spec.specs.Operands.{largest_tile, shape_of}
use Rattle.tce_job.specs.TensorFiles.{file_of}
use Rattle.tce_job.specs.Opened.{form_at}

-- the array of a tensor: its own file, and, where its tiles are no larger than those of the operands and the result, its own shape; only the result may be written
pub record IsArrayOf (s : Specification) (forms : List Form) (t : ℕ) (a : ArrayRef) : Type 0 where
  pub file : a.file.bytes ≡ file_of s t
  pub shape : tile_words (shape_of s t) ≤ largest_tile s → a.shape ≡ shape_of s t
  pub fits : tile_words a.shape ≤ largest_tile s
  pub result : t ≡ s.result → (a.writable ≡ true) × (a.form ≡ One)
  pub other : t ≢ s.result → (a.writable ≡ false) × (a.form ≡ form_at forms t)

-- an operand has its own shape, the form of its file, and is not written
pub record IsOperandArray (s : Specification) (forms : List Form) (t : ℕ) (a : ArrayRef) : Type 0 where
  pub file : a.file.bytes ≡ file_of s t
  pub shape : a.shape ≡ shape_of s t
  pub form : a.form ≡ form_at forms t
  pub writable : a.writable ≡ false

-- the result has its own shape, the first form, and may be written
pub record IsResultArray (s : Specification) (a : ArrayRef) : Type 0 where
  pub file : a.file.bytes ≡ file_of s s.result
  pub shape : a.shape ≡ shape_of s s.result
  pub form : a.form ≡ One
  pub writable : a.writable ≡ true

-- an array for each declared tensor, and those of the tree's tensors and of the result are theirs; all of them fit frames of the largest tile
pub record AreArraysOf (s : Specification) (forms : List Form) (arrays : List ArrayRef) : Type 0 where
  pub each : length arrays ≡ length s.declarations.tensors
  pub operands : (t : ℕ) (a : ArrayRef) → IsTrue (has_tensor t s.tree) → slice_get arrays t ≡ Some a → IsOperandArray s forms t a
  pub result : (a : ArrayRef) → slice_get arrays s.result ≡ Some a → IsResultArray s a
  pub files : (t : ℕ) (a : ArrayRef) → slice_get arrays t ≡ Some a → a.file.bytes ≡ file_of s t
  pub only : (t : ℕ) (a : ArrayRef) → slice_get arrays t ≡ Some a → a.writable ≡ true → t ≡ s.result
  pub fit : AreArrays arrays (largest_tile s)

-- a shape is the tensor's own where its tiles are no larger than those that a run moves
abbrev pub HasOwnShape : Specification → ℕ → Tiling → Type 0
HasOwnShape s t shape = tile_words (shape_of s t) ≤ largest_tile s → shape ≡ shape_of s t
