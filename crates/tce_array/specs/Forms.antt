-- Array files: a head, and then the words of the tiles. A form says how a file stores them.
use Rattle.std.specs.Prelude.{◌≡◌, ℕ, ◌+◌, ◌*◌, Bool, nat_lt, nat_eq, if◌then◌else◌, List, [], ◌∷◌, ◌++◌, length, take, drop, map, codes}
use Rattle.std.specs.List.{flat_map}
use Rattle.std.specs.Str.{bytes_eq}
use Rattle.tce_base.specs.Word.{word_bytes, word_of_bytes, widened}
use Rattle.tce_space.specs.Box.{places, is_inside}
use Rattle.tce_space.specs.Tiling.{Tiling, tile_counts, padded_words, joined, word_number}
use Rattle.tce_array.specs.declared.form.Form.{Form}
use Rattle.tce_array.specs.declared.form.Form.TheVariants.{One, Narrow, Wide}

-- how many bytes a word takes
abbrev pub width : Form → ℕ
width One = 8
width Narrow = 4
width Wide = 8

-- the word in the first bytes
unfoldable pub word_in : Form → List ℕ → ℕ
word_in One bytes = word_of_bytes 8 bytes
word_in Narrow bytes = widened (word_of_bytes 4 bytes)
word_in Wide bytes = word_of_bytes 8 bytes

-- the first bytes of a file, and the numbers between them and the extents
abbrev pub magic : Form → List ℕ
magic One = codes "TCARRAY1"
magic Narrow = codes "TCARRAY2"
magic Wide = codes "TCARRAY2"

abbrev pub lead : Form → ℕ → List ℕ
lead One rank = rank ∷ []
lead Narrow rank = rank ∷ 4 ∷ []
lead Wide rank = rank ∷ 8 ∷ []

abbrev pub head : Form → Tiling → List ℕ
head form s = magic form ++ flat_map (word_bytes 8) (lead form (length s.extents) ++ s.extents ++ s.edges)

abbrev pub head_len : Form → Tiling → ℕ
head_len form s = 8 + 8 * (length (lead form (length s.extents)) + length s.extents + length s.edges)

-- the length of a file
abbrev pub form_len : Form → Tiling → ℕ
form_len form s = head_len form s + width form * padded_words s

-- the words of a file with these elements, tile by tile; a word that is no element is 0
abbrev pub tile_of_words : Tiling → (List ℕ → ℕ) → List ℕ → List ℕ
tile_of_words s element tile = map (λ inner. let xs = joined s.edges tile inner in if is_inside s.extents xs then element xs else 0) (places s.edges)

abbrev pub words : Tiling → (List ℕ → ℕ) → List ℕ
words s element = flat_map (tile_of_words s element) (places (tile_counts s))

-- the file with these elements
abbrev pub form_bytes : Form → Tiling → (List ℕ → ℕ) → List ℕ
form_bytes form s element = head form s ++ flat_map (word_bytes (width form)) (words s element)

abbrev pub array_bytes : Tiling → (List ℕ → ℕ) → List ℕ
array_bytes s element = form_bytes One s element

-- the form of a file, by whether it begins as the second version and by the number at 16
abbrev pub form_by : Bool → ℕ → Form
form_by second n = if second then (if nat_eq n 4 then Narrow else Wide) else One

-- the form that a file has by its first 24 bytes
abbrev pub form_by_start : List ℕ → Form
form_by_start start = form_by (bytes_eq (take 8 start) (codes "TCARRAY2")) (word_of_bytes 8 (drop 16 start))

-- the form that a file has by its first bytes
abbrev pub form_of : List ℕ → Form
form_of bytes = if nat_lt (length bytes) 24 then One else form_by_start bytes

-- the bytes are a file of this form and shape
pub record IsForm (form : Form) (s : Tiling) (bytes : List ℕ) : Type 0 where
  pub whole : length bytes ≡ form_len form s
  pub begins : take (head_len form s) bytes ≡ head form s

abbrev pub IsArray : Tiling → List ℕ → Type 0
IsArray s bytes = IsForm (form_of bytes) s bytes

-- where a word of a file begins, and where an element does
abbrev pub word_place : Form → Tiling → ℕ → ℕ
word_place form s k = head_len form s + width form * k

abbrev pub address : Form → Tiling → List ℕ → ℕ
address form s xs = word_place form s (word_number s xs)

-- a word of a file, and an element
abbrev pub word_at : Form → Tiling → List ℕ → ℕ → ℕ
word_at form s bytes k = word_in form (drop (word_place form s k) bytes)

abbrev pub cell : Form → Tiling → List ℕ → List ℕ → ℕ
cell form s bytes xs = word_at form s bytes (word_number s xs)

-- the word can be stored in this form
abbrev pub Fits : Form → ℕ → Type 0
Fits form w = word_in form (word_bytes (width form) w) ≡ w
