-- The two ways in which a file stores the elements of an array: flat, or tile by tile behind a head.
use Rattle.std.specs.Prelude.{◌≡◌, ℕ, ◌+◌, ◌*◌, ◌≤◌, nat_lt, if◌then◌else◌, List, [], ◌++◌, length, drop, replicate, Option}
use Rattle.std.specs.Option.{IsSomeAnd, option_map}
use Rattle.std.specs.List.{flat_map}
use Rattle.tce_base.specs.Word.{word_bytes}
use Rattle.tce_space.specs.Box.{place}
use Rattle.tce_space.specs.Tiling.{Tiling, word_number, elements, padded_words}
use Rattle.tce_outside.specs.Files.{Files, with_file}
use Rattle.tce_array.specs.declared.form.Form.{Form}
use Rattle.tce_array.specs.declared.form.Form.TheVariants.{One}
use Rattle.tce_array.specs.Forms.{width, word_in, head, head_len, words}
use Rattle.tce_tools.specs.declared.storage.Storage.{Storage}
use Rattle.tce_tools.specs.declared.storage.Storage.TheVariants.{Flat, Array}
use Rattle.tce_tools.specs.Flat.{in_order}

-- how the words are stored: those of a flat file as in the first form of array files
abbrev pub form_in : Storage → Form
form_in Flat = One
form_in (Array form) = form

-- what stands before the words, and how many bytes it has
abbrev pub start_of : Storage → Tiling → List ℕ
start_of Flat s = []
start_of (Array form) s = head form s

abbrev pub start_len : Storage → Tiling → ℕ
start_len Flat s = 0
start_len (Array form) s = head_len form s

-- the words, and how many there are
abbrev pub words_of : Storage → Tiling → (List ℕ → ℕ) → List ℕ
words_of Flat s element = in_order s element
words_of (Array form) s element = words s element

abbrev pub word_count : Storage → Tiling → ℕ
word_count Flat s = elements s
word_count (Array form) s = padded_words s

-- the file with these elements behind this start
abbrev pub begun_bytes : Storage → Tiling → List ℕ → (List ℕ → ℕ) → List ℕ
begun_bytes storage s start element = start ++ flat_map (word_bytes (width (form_in storage))) (words_of storage s element)

-- before its start is written: zeros stand in its place
abbrev pub bare_bytes : Storage → Tiling → (List ℕ → ℕ) → List ℕ
bare_bytes storage s element = begun_bytes storage s (replicate (start_len storage s) 0) element

-- the file with these elements, and its length
abbrev pub stored_bytes : Storage → Tiling → (List ℕ → ℕ) → List ℕ
stored_bytes storage s element = begun_bytes storage s (start_of storage s) element

abbrev pub stored_len : Storage → Tiling → ℕ
stored_len storage s = start_len storage s + width (form_in storage) * word_count storage s

-- the number of an element's word, and the element
abbrev pub number_of : Storage → Tiling → List ℕ → ℕ
number_of Flat s xs = place s.extents xs
number_of (Array form) s xs = word_number s xs

abbrev pub element_in : Storage → Tiling → List ℕ → List ℕ → ℕ
element_in storage s bytes xs = word_in (form_in storage) (drop (start_len storage s + width (form_in storage) * number_of storage s xs) bytes)

-- the first elements in row-major order, and zeros in place of the others
abbrev pub first_elements : Tiling → (List ℕ → ℕ) → ℕ → List ℕ → ℕ
first_elements s element count xs = if nat_lt (place s.extents xs) count then element xs else 0

-- the elements from one on in row-major order, and zeros in place of the others
abbrev pub later_elements : Tiling → (List ℕ → ℕ) → ℕ → List ℕ → ℕ
later_elements s element from xs = if nat_lt (place s.extents xs) from then 0 else element xs

-- how many bytes stand before an element's word and those of all later elements
abbrev pub bytes_ahead : Storage → Tiling → ℕ → ℕ
bytes_ahead Flat s from = 8 * from
bytes_ahead (Array form) s from = head_len form s

-- how many bytes of a file are written last: the head, or at most the longest band of a flat file, which has none
abbrev pub last_written : Storage → Tiling → ℕ
last_written Flat s = 262144
last_written (Array form) s = head_len form s

-- a file of the length is there
abbrev pub HasStored : Storage → Tiling → Option (List ℕ) → Type 0
HasStored storage s found = IsSomeAnd found (λ bytes. length bytes ≡ stored_len storage s)

-- the files with bytes under this name that are made from the files
abbrev pub holding_by : List ℕ → (Files → List ℕ) → Option Files → Option Files
holding_by name bytes told = option_map (λ files. with_file files name (bytes files)) told

-- a file is there that has so many words from a byte on
abbrev pub HasWords : Form → ℕ → ℕ → Option (List ℕ) → Type 0
HasWords form at count found = IsSomeAnd found (λ bytes. at + width form * count ≤ length bytes)
