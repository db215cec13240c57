-- Worked files.
use Rattle.std.proofs.Common.{◌≡◌, refl, ℕ, [], ◌∷◌, ◌++◌, ◌+◌, ◌-◌, ◌^◌, codes, get_or}
use Rattle.std.specs.List.{flat_map}
use Rattle.tce_space.specs.Box.{place}
use Rattle.tce_space.specs.Tiling.{Tiling}
use Rattle.tce_array.specs.declared.form.Form.TheVariants.{One, Narrow, Wide}
use Rattle.tce_base.specs.Word.{word_bytes, word_of_bytes, widened}
use Rattle.tce_array.specs.Forms.{word_in, form_bytes, array_bytes, form_of, form_len, cell, words}

pub vector : ℕ → ℕ → Tiling
vector n e = record { extents = n ∷ []; edges = e ∷ [] }

pub matrix : ℕ → ℕ → ℕ → ℕ → Tiling
matrix n m d e = record { extents = n ∷ m ∷ []; edges = d ∷ e ∷ [] }

-- the outer product of (1, 2) and (3, 4), eight bytes a line
pub outer : array_bytes (matrix 2 2 1 1) (λ xs. get_or (3 ∷ 4 ∷ 6 ∷ 8 ∷ []) (place (2 ∷ 2 ∷ []) xs) 0)
    ≡ 0x54 ∷ 0x43 ∷ 0x41 ∷ 0x52 ∷ 0x52 ∷ 0x41 ∷ 0x59 ∷ 0x31
    ∷ 0x02 ∷ 0x00 ∷ 0x00 ∷ 0x00 ∷ 0x00 ∷ 0x00 ∷ 0x00 ∷ 0x00
    ∷ 0x02 ∷ 0x00 ∷ 0x00 ∷ 0x00 ∷ 0x00 ∷ 0x00 ∷ 0x00 ∷ 0x00
    ∷ 0x02 ∷ 0x00 ∷ 0x00 ∷ 0x00 ∷ 0x00 ∷ 0x00 ∷ 0x00 ∷ 0x00
    ∷ 0x01 ∷ 0x00 ∷ 0x00 ∷ 0x00 ∷ 0x00 ∷ 0x00 ∷ 0x00 ∷ 0x00
    ∷ 0x01 ∷ 0x00 ∷ 0x00 ∷ 0x00 ∷ 0x00 ∷ 0x00 ∷ 0x00 ∷ 0x00
    ∷ 0x03 ∷ 0x00 ∷ 0x00 ∷ 0x00 ∷ 0x00 ∷ 0x00 ∷ 0x00 ∷ 0x00
    ∷ 0x04 ∷ 0x00 ∷ 0x00 ∷ 0x00 ∷ 0x00 ∷ 0x00 ∷ 0x00 ∷ 0x00
    ∷ 0x06 ∷ 0x00 ∷ 0x00 ∷ 0x00 ∷ 0x00 ∷ 0x00 ∷ 0x00 ∷ 0x00
    ∷ 0x08 ∷ 0x00 ∷ 0x00 ∷ 0x00 ∷ 0x00 ∷ 0x00 ∷ 0x00 ∷ 0x00 ∷ []
unfolding word_bytes vector matrix
outer = refl

-- the largest word, and the highest bit alone
pub largest : word_bytes 8 (2 ^ 64 - 1) ≡ 0xff ∷ 0xff ∷ 0xff ∷ 0xff ∷ 0xff ∷ 0xff ∷ 0xff ∷ 0xff ∷ []
unfolding word_bytes
largest = refl

pub highest : word_bytes 8 (2 ^ 63) ≡ 0 ∷ 0 ∷ 0 ∷ 0 ∷ 0 ∷ 0 ∷ 0 ∷ 0x80 ∷ []
unfolding word_bytes
highest = refl

-- tiles of 2 by 2 over 3 by 3: the words stand tile by tile, and padding is 0
pub tiled : words (matrix 3 3 2 2) (λ xs. place (3 ∷ 3 ∷ []) xs + 1) ≡ 1 ∷ 2 ∷ 4 ∷ 5 ∷ 3 ∷ 0 ∷ 6 ∷ 0 ∷ 7 ∷ 8 ∷ 0 ∷ 0 ∷ 9 ∷ 0 ∷ 0 ∷ 0 ∷ []
unfolding matrix
tiled = refl

-- a narrow file: the numbers -1 and 5
pub narrow : form_bytes Narrow (vector 2 1) (λ xs. get_or ((2 ^ 64 - 1) ∷ 5 ∷ []) (place (2 ∷ []) xs) 0)
    ≡ (0x54 ∷ 0x43 ∷ 0x41 ∷ 0x52 ∷ 0x52 ∷ 0x41 ∷ 0x59 ∷ 0x32 ∷ 1 ∷ 0 ∷ 0 ∷ 0 ∷ 0 ∷ 0 ∷ 0 ∷ 0 ∷ 4 ∷ 0 ∷ 0 ∷ 0 ∷ 0 ∷ 0 ∷ 0 ∷ 0 ∷ 2 ∷ 0 ∷ 0 ∷ 0 ∷ 0 ∷ 0 ∷ 0 ∷ 0 ∷ 1 ∷ 0 ∷ 0 ∷ 0 ∷ 0 ∷ 0 ∷ 0 ∷ 0 ∷ 255 ∷ 255 ∷ 255 ∷ 255 ∷ 5 ∷ 0 ∷ 0 ∷ 0 ∷ [])
unfolding word_bytes vector
narrow = refl

pub narrow_read : cell Narrow (vector 2 1) (form_bytes Narrow (vector 2 1) (λ xs. get_or ((2 ^ 64 - 1) ∷ 5 ∷ []) (place (2 ∷ []) xs) 0)) (0 ∷ []) ≡ 2 ^ 64 - 1
unfolding word_bytes word_of_bytes widened word_in vector
narrow_read = refl

pub narrow_form : form_of (form_bytes Narrow (vector 2 1) (λ xs. 5)) ≡ Narrow
unfolding word_bytes word_of_bytes vector
narrow_form = refl

-- with 5 in place of the width the form is Wide, which has another length
pub wide_form : form_of (codes "TCARRAY2" ++ flat_map (word_bytes 8) (1 ∷ 5 ∷ 2 ∷ 1 ∷ 5 ∷ [])) ≡ Wide
unfolding word_bytes word_of_bytes
wide_form = refl

pub wide_len : form_len Wide (vector 2 1) ≡ 56
unfolding vector
wide_len = refl

-- a word of more than 32 bits is another one when it is read from a narrow file
pub too_large : word_in Narrow (word_bytes 4 (2 ^ 63)) ≡ 0
unfolding word_bytes word_of_bytes widened word_in
too_large = refl

-- a file of the first form
pub one_form : form_of (form_bytes One (vector 5 2) (λ xs. 7)) ≡ One
unfolding word_bytes vector
one_form = refl

pub narrow_tiled : form_len Narrow (vector 5 2) ≡ 64
unfolding vector
narrow_tiled = refl
