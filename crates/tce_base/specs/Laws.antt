-- Laws of words and their bytes.
use Rattle.std.specs.Prelude.{◌≡◌, ℕ, ◌^◌, ◌<◌, ◌≤◌, List, ◌++◌, take, length, slice_index}
use Rattle.tce_base.specs.Word.{word_bytes, word_of_bytes}

-- eight bytes are the bytes of their word
abbrev pub EightBytesAreAWord : Type 0
EightBytesAreAWord =
    (bytes : List ℕ) → 8 ≤ length bytes → ((i : ℕ) → slice_index bytes i < 256) → word_bytes 8 (word_of_bytes 8 bytes) ≡ take 8 bytes

-- the bytes of a word spell it, whatever follows them
abbrev pub BytesKeepWords : Type 0
BytesKeepWords = (w : ℕ) (rest : List ℕ) → w < 2 ^ 64 → word_of_bytes 8 (word_bytes 8 w ++ rest) ≡ w
