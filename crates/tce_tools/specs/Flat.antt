-- Flat files: the elements of an array in row-major order, eight bytes each.
use Rattle.std.specs.Prelude.{ℕ, ◌*◌, List, [], drop, map, unwrap_or}
use Rattle.std.specs.List.{flat_map}
use Rattle.tce_base.specs.Word.{word_bytes, word_of_bytes}
use Rattle.tce_space.specs.Box.{place, places}
use Rattle.tce_space.specs.Tiling.{Tiling, elements}
use Rattle.tce_outside.specs.Files.{Files, file}
use Rattle.tce_array.specs.Forms.{form_of, cell}

-- the elements in row-major order
abbrev pub in_order : Tiling → (List ℕ → ℕ) → List ℕ
in_order s element = map element (places s.extents)

-- the flat file of these elements, and its length
abbrev pub flat_bytes : Tiling → (List ℕ → ℕ) → List ℕ
flat_bytes s element = flat_map (word_bytes 8) (in_order s element)

abbrev pub flat_len : Tiling → ℕ
flat_len s = 8 * elements s

-- an element of a flat file
abbrev pub flat_element : Tiling → List ℕ → List ℕ → ℕ
flat_element s bytes xs = word_of_bytes 8 (drop (8 * place s.extents xs) bytes)

-- an element of an array file, in the form that the file tells
abbrev pub array_element : Tiling → List ℕ → List ℕ → ℕ
array_element s bytes xs = cell (form_of bytes) s bytes xs

-- the bytes of a file; none where it is not there
abbrev pub contents : Files → List ℕ → List ℕ
contents files name = unwrap_or (file files name) []
