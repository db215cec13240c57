-- Words that pass between a file and a block of words.
use Rattle.std.specs.Prelude.{◌≡◌, ◌⊎◌, ℕ, ◌+◌, ◌<◌, ◌≤◌, List, [], length, slice_index, take, Option, unwrap_or}
use Rattle.std.specs.Option.{IsSomeAnd, ForSome}
use Rattle.tce_outside.specs.Files.{Files, file, others, bytes_before}
use Rattle.tce_array.specs.Files.{AreBytes}
use Rattle.tce_array.specs.Forms.{word_at, form_len, head_len}
use Rattle.tce_cache.specs.declared.array.ArrayRef.{ArrayRef}
use Rattle.tce_cache.specs.declared.transfer.Span.{Span}

-- the bytes of an array's file
abbrev pub contents : ArrayRef → Files → List ℕ
contents a files = unwrap_or (file files a.file.bytes) []

-- the file of an array is there and has the length of its form
abbrev pub HasFile : ArrayRef → Files → Type 0
HasFile a files = IsSomeAnd (file files a.file.bytes) (λ bytes. length bytes ≡ form_len a.form a.shape)

-- a word of an array's file
abbrev pub word_in_file : ArrayRef → Files → ℕ → ℕ
word_in_file a files k = word_at a.form a.shape (contents a files) k

-- the n words from `at` on are those of the file from the number `from` on
abbrev pub AreWordsOf : ArrayRef → Files → ℕ → List ℕ → ℕ → ℕ → Type 0
AreWordsOf a files from words at n = (k : ℕ) → k < n → slice_index words (at + k) ≡ word_in_file a files (from + k)

-- all words are the same but n from `at` on
abbrev pub IsSameBut : ℕ → ℕ → List ℕ → List ℕ → Type 0
IsSameBut at n old new = (p : ℕ) → (p < at) ⊎ (at + n ≤ p) → slice_index new p ≡ slice_index old p

-- the file keeps its length and its head, has the n words from `at` on from the number `from` on, and all others as before; its numbers are bytes if they were
pub record IsWritten (a : ArrayRef) (old new : Files) (from : ℕ) (words : List ℕ) (at n : ℕ) : Type 0 where
  pub has_file : HasFile a new
  pub head : take (head_len a.form a.shape) (contents a new) ≡ take (head_len a.form a.shape) (contents a old)
  pub written : AreWordsOf a new from words at n
  pub others : (k : ℕ) → (k < from) ⊎ (from + n ≤ k) → word_in_file a new k ≡ word_in_file a old k
  pub bytes : AreBytes (contents a old) → AreBytes (contents a new)

-- ---- the same of a span of words, where the disk tells

abbrev pub AreRead : ArrayRef → Option Files → Span → List ℕ → Type 0
AreRead a before span words = ForSome before (λ fs. AreWordsOf a fs span.from words span.at span.n)

abbrev pub Writes : ArrayRef → Option Files → Option Files → Span → List ℕ → Type 0
Writes a before after span words = ForSome before (λ fs. ForSome after (λ gs. IsWritten a fs gs span.from words span.at span.n))

-- all files but that of the array are the same
abbrev pub IsSameElsewhere : ArrayRef → Option Files → Option Files → Type 0
IsSameElsewhere a before after = others a.file.bytes after ≡ others a.file.bytes before

-- the first eight bytes of the array's file are the same
abbrev pub BeginsAsBefore : ArrayRef → Option Files → Option Files → Type 0
BeginsAsBefore a before after = bytes_before a.file.bytes 8 after ≡ bytes_before a.file.bytes 8 before
