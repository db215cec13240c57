-- What holds of all array files.
use Rattle.std.specs.Prelude.{◌≡◌, ◌≢◌, ◌⊎◌, ◌↔◌, ℕ, ◌+◌, ◌*◌, ◌^◌, ◌<◌, ◌≤◌, List, take, drop, length, slice_index, EachIndex, Option, Some, IfSome}
use Rattle.std.specs.Option.{option_map}
use Rattle.std.specs.List.{flat_map}
use Rattle.tce_base.specs.Word.{word_bytes}
use Rattle.tce_space.specs.Box.{place, IsInside}
use Rattle.tce_space.specs.Tiling.{Tiling, IsTiling, tile_counts, tile_words, tiles, padded_words, word_number, tile_number, place_in_tile}
use Rattle.tce_outside.specs.Files.{overwritten}
use Rattle.tce_array.specs.declared.form.Form.{Form}
use Rattle.tce_array.specs.declared.form.Form.TheVariants.{One, Narrow, Wide}
use Rattle.tce_array.specs.Forms.{width, word_in, tile_of_words, form_bytes, form_of, IsForm, Fits, cell, address, word_place, word_at, form_len, head, head_len}

-- different elements are stored at different places, each behind the head and inside the file
abbrev pub PlacesAreApart : Type 0
PlacesAreApart =
    (form : Form) (s : Tiling) → IsTiling s → (xs ys : List ℕ) → IsInside s.extents xs → IsInside s.extents ys
    → (address form s xs ≡ address form s ys → xs ≡ ys) × (head_len form s ≤ address form s xs) × (address form s xs + width form ≤ form_len form s)

-- the file of a function of coordinates has the form, and the function's values as its elements
abbrev pub FilesHoldTheirElements : Type 0
FilesHoldTheirElements =
    (form : Form) (s : Tiling) (element : List ℕ → ℕ) → IsTiling s
    → IsForm form s (form_bytes form s element) × (form_of (form_bytes form s element) ≡ form) × ((xs : List ℕ) → IsInside s.extents xs → Fits form (element xs) → cell form s (form_bytes form s element) xs ≡ element xs)

-- the word with the number k is no element
abbrev pub IsPadding : Tiling → ℕ → Type 0
IsPadding s k = (xs : List ℕ) → IsInside s.extents xs → word_number s xs ≢ k

-- the words of that file that are no element are 0
abbrev pub PaddingIsZero : Type 0
PaddingIsZero =
    (form : Form) (s : Tiling) (element : List ℕ → ℕ) → IsTiling s
    → (k : ℕ) → k < padded_words s → IsPadding s k → word_at form s (form_bytes form s element) k ≡ 0

-- the bytes of the words from one on
abbrev pub bytes_of_run : Form → Tiling → List ℕ → ℕ → ℕ → List ℕ
bytes_of_run form s bytes from n = take (width form * n) (drop (word_place form s from) bytes)

-- the words of one tile stand together, the tiles in the order of their numbers
abbrev pub TilesStandTogether : Type 0
TilesStandTogether =
    (form : Form) (s : Tiling) (element : List ℕ → ℕ) (tile : List ℕ) → IsInside (tile_counts s) tile
    → bytes_of_run form s (form_bytes form s element) (tile_words s * place (tile_counts s) tile) (tile_words s)
    ≡ flat_map (word_bytes (width form)) (tile_of_words s element tile)

-- the words of a part of a file are words of the file
abbrev pub PartsHoldTheirWords : Type 0
PartsHoldTheirWords =
    (form : Form) (s : Tiling) (bytes : List ℕ) (from n k : ℕ) → k < n
    → word_in form (drop (width form * k) (bytes_of_run form s bytes from n)) ≡ word_at form s bytes (from + k)

-- the file after a write of these words from one on
abbrev pub with_words : Form → Tiling → List ℕ → ℕ → List ℕ → List ℕ
with_words form s bytes from ws = overwritten bytes (word_place form s from) (flat_map (word_bytes (width form)) ws)

-- a write of words keeps the form, stores these words, and leaves all others
pub record ChangesWords (form : Form) (s : Tiling) (bytes : List ℕ) (from : ℕ) (ws new : List ℕ) : Type 0 where
  pub has_form : IsForm form s new
  pub stored : (k : ℕ) → k < length ws → Fits form (slice_index ws k) → word_at form s new (from + k) ≡ slice_index ws k
  pub others : (k : ℕ) → k < padded_words s → (k < from) ⊎ (from + length ws ≤ k) → word_at form s new k ≡ word_at form s bytes k

abbrev pub WritesChangeTheirWords : Type 0
WritesChangeTheirWords =
    (form : Form) (s : Tiling) (bytes : List ℕ) (from : ℕ) (ws : List ℕ) → IsForm form s bytes → from + length ws ≤ padded_words s
    → ChangesWords form s bytes from ws (with_words form s bytes from ws)

-- a write of one tile's words gives its elements these words, and leaves all other elements
abbrev pub TileWritesStayInTheirTile : Type 0
TileWritesStayInTheirTile =
    (form : Form) (s : Tiling) (bytes : List ℕ) (tile : ℕ) (ws : List ℕ) → IsTiling s → IsForm form s bytes → tile < tiles s → length ws ≡ tile_words s
    → EachIndex ws (λ k. Fits form (slice_index ws k)) → (xs : List ℕ) → IsInside s.extents xs
    → (tile_number s xs ≡ tile → cell form s (with_words form s bytes (tile_words s * tile) ws) xs ≡ slice_index ws (place_in_tile s xs))
    × (tile_number s xs ≢ tile → cell form s (with_words form s bytes (tile_words s * tile) ws) xs ≡ cell form s bytes xs)

-- each number of the list is a byte
abbrev pub AreBytes : List ℕ → Type 0
AreBytes bytes = (i : ℕ) → slice_index bytes i < 256

-- a file is told by its form, its elements and zeros elsewhere
abbrev pub FilesAreTheirElements : Type 0
FilesAreTheirElements =
    (form : Form) (s : Tiling) (element : List ℕ → ℕ) (bytes : List ℕ) → IsTiling s → IsForm form s bytes → AreBytes bytes
    → ((xs : List ℕ) → IsInside s.extents xs → cell form s bytes xs ≡ element xs)
    → ((k : ℕ) → k < padded_words s → IsPadding s k → word_at form s bytes k ≡ 0)
    → bytes ≡ form_bytes form s element

-- which words can be stored: all in eight bytes, and in four those that are small or, as signed numbers, small below 0
pub record WordsFit : Type 0 where
  pub eight : (w : ℕ) → w < 2 ^ 64 → Fits One w × Fits Wide w
  pub four : (w : ℕ) → w < 2 ^ 64 → Fits Narrow w ↔ ((w < 2 ^ 31) ⊎ (2 ^ 64 ≤ w + 2 ^ 31))

-- a file has one form
abbrev pub FormsAreTold : Type 0
FormsAreTold = (form : Form) (s : Tiling) (bytes : List ℕ) → IsForm form s bytes → form_of bytes ≡ form

-- a file is complete once its head is written over it, and no word changes by it
pub record IsCompleted (form : Form) (s : Tiling) (bytes new : List ℕ) : Type 0 where
  pub has_form : IsForm form s new
  pub words : (k : ℕ) → word_at form s new k ≡ word_at form s bytes k

abbrev pub HeadsCompleteFiles : Type 0
HeadsCompleteFiles = (form : Form) (s : Tiling) (bytes : List ℕ) → length bytes ≡ form_len form s → IsCompleted form s bytes (overwritten bytes 0 (head form s))

-- the first eight bytes, as far as they are there, are 0
abbrev pub BeginsWithZeros : List ℕ → Type 0
BeginsWithZeros bytes = (i : ℕ) → i < 8 → slice_index bytes i ≡ 0

-- an array does not begin with zeros, whatever its shape
abbrev pub ArraysDoNotBeginWithZeros : Type 0
ArraysDoNotBeginWithZeros = (form : Form) (s : Tiling) (bytes : List ℕ) → IsForm form s bytes → BeginsWithZeros bytes → ⊥

-- what a file that is to hold these bytes may be, wherever its maker ends: as it was, absent or without a head, or whole but for its head
abbrev pub LeavesNoHalf : ℕ → List ℕ → Option (List ℕ) → Option (List ℕ) → Type 0
LeavesNoHalf head_end whole old new =
    (new ≡ old) ⊎ (IfSome new BeginsWithZeros ⊎ (option_map (λ bytes. drop head_end bytes) new ≡ Some (drop head_end whole)))

-- so where it is an array of that form and shape, it is what was there before, or whole
abbrev pub NoHalfFileIsAnArray : Type 0
NoHalfFileIsAnArray =
    (form : Form) (s : Tiling) (whole bytes : List ℕ) (old : Option (List ℕ)) → IsForm form s whole → IsForm form s bytes
    → LeavesNoHalf (head_len form s) whole old (Some bytes) → (Some bytes ≡ old) ⊎ (bytes ≡ whole)
