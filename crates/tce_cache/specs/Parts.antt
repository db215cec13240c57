-- What holds of the parts of a cache.
use Rattle.std.specs.Prelude.{◌≡◌, ◌≤◌, ℕ, List, length}
use Rattle.tce_cache.specs.Table.{Holding}
use Rattle.tce_cache.specs.declared.array.ArrayRef.{ArrayRef}
use Rattle.tce_cache.specs.Cache.{IsCache}

-- the table is for these arrays, what the parts say is a cache, and a word fits into the buffer
pub record IsWhole (arrays : List ArrayRef) (at frame_words : ℕ) (table : Holding) (touches : ℕ) (buffer : List ℕ) : Type 0 where
  pub table_arrays : table.arrays ≡ length arrays
  pub cache : IsCache (record { arrays = arrays; at = at; frames = table.frames; frame_words = frame_words; held = table.held; touches = touches })
  pub buffer_len : 8 ≤ length buffer
