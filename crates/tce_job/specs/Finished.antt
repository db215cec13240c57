-- When a result is finished, in the frames of a cache and then in its file.
use Rattle.std.specs.Prelude.{◌≡◌, ℕ, ◌+◌, ◌*◌, ◌<◌, List, length, Some, slice_get}
use Rattle.std.specs.Option.{IsSomeAnd, option_map}
use Rattle.tce_outside.specs.Files.{Files, file}
use Rattle.tce_space.specs.Box.{IsInside}
use Rattle.tce_space.specs.Tiling.{tile_words, tiles, tile_number, place_in_tile}
use Rattle.tce_array.specs.declared.form.Form.TheVariants.{One}
use Rattle.tce_array.specs.Forms.{form_len}
use Rattle.tce_array.specs.Files.{AreBytes, IsPadding}
use Rattle.tce_cache.specs.declared.array.ArrayRef.{ArrayRef}
use Rattle.tce_cache.specs.Cache.{State, current_word}
use Rattle.tce_cache.specs.Touch.{front, AreWritten}
use Rattle.tce_spec.specs.Specification.{Specification}
use Rattle.tce_spec.specs.Operands.{shape_of}
use Rattle.tce_job.specs.TensorFiles.{file_of}
use Rattle.tce_job.specs.ResultBytes.{result_element}
use Rattle.tce_job.specs.Arrays.{IsResultArray}

-- the current words of the result: its elements are the values of the tree, by the bytes of the tensors' files, and its padding is 0
pub record IsFinished (s : Specification) (bytes : ℕ → List ℕ) (c : State) (files : Files) (words : List ℕ) : Type 0 where
  pub values : (coords : List ℕ) → IsInside (shape_of s s.result).extents coords
      → current_word c files words s.result (tile_number (shape_of s s.result) coords) (place_in_tile (shape_of s s.result) coords) ≡ result_element s bytes coords
  pub padding : (tile k : ℕ) → tile < tiles (shape_of s s.result) → k < tile_words (shape_of s s.result) → IsPadding (shape_of s s.result) (tile_words (shape_of s s.result) * tile + k)
      → current_word c files words s.result tile k ≡ 0

-- a finished result was written to its file, which kept its length, that of an array
pub record IsFlushed (s : Specification) (bytes : ℕ → List ℕ) (c : State) (before after : Files) (words : List ℕ) : Type 0 where
  pub array : ArrayRef
  pub numbered : slice_get c.arrays s.result ≡ Some array
  pub is_result : IsResultArray s array
  pub finished : IsFinished s bytes c before words
  pub written : AreWritten c (Some before) (Some after) words
  pub kept : option_map (front array) (file after array.file.bytes) ≡ option_map (front array) (file before array.file.bytes)
  pub was_whole : IsSomeAnd (file before (file_of s s.result)) (λ found. length found ≡ form_len One (shape_of s s.result))
  pub are_bytes : IsSomeAnd (file after (file_of s s.result)) AreBytes
