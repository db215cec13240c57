-- Words that are read from bytes.
use Rattle.std.specs.Prelude.{◌≡◌, ℕ, ◌+◌, ◌*◌, ◌/◌, ◌<◌, ◌≤◌, List, length, slice_index, slice_range, drop}
use Rattle.std.specs.List.{flat_map}
use Rattle.tce_base.specs.Word.{word_bytes, word_of_bytes, widened}

-- for each whole piece of `width` bytes the word that `value` reads at its front, one after the other from `from` on; all other words stay
pub record IsLoaded (value : List ℕ → ℕ) (width from : ℕ) (bytes old new : List ℕ) : Type 0 where
  pub same_length : length new ≡ length old
  pub loaded : (k : ℕ) → k < length bytes / width → slice_index new (from + k) ≡ value (drop (width * k) bytes)
  pub before : (k : ℕ) → k < from → slice_index new k ≡ slice_index old k
  pub behind : (k : ℕ) → from + length bytes / width ≤ k → slice_index new k ≡ slice_index old k

-- the signed number at the front of the bytes
abbrev pub narrow_of : List ℕ → ℕ
narrow_of piece = widened (word_of_bytes 4 piece)

-- n words are those that `value` reads at the front of the pieces
abbrev pub AreWordsFrom : (List ℕ → ℕ) → ℕ → List ℕ → ℕ → List ℕ → Type 0
AreWordsFrom value width bytes n words = (k : ℕ) → k < n → slice_index words k ≡ value (drop (width * k) bytes)

-- the bytes of the n words from `from` on
abbrev pub bytes_of : List ℕ → ℕ → ℕ → List ℕ
bytes_of words from n = flat_map (word_bytes 8) (slice_range words from (from + n))
