-- The words of a file, and its elements.
use Rattle.std.proofs.Common.{◌≡◌, ◌∙◌, ℕ, zero, suc, ◌+◌, ◌*◌, ◌<◌, if◌then◌else◌, List, [], ◌∷◌, ◌++◌, length, drop, sym, refl, ap, arith, get_or, length-append}
use Rattle.std.specs.List.{flat_map}
use Rattle.std.proofs.lemmas.List.{length-map, get_or-map, drop_at, take_at, drop-drop, get_or_append_left, get_or-append-add}
use Rattle.tce_space.specs.Box.{place, places, IsInside, is_inside}
use Rattle.tce_space.specs.Tiling.{Tiling, IsTiling, tile_counts, tile_words, padded_words, word_number, divided, remainders, joined}
use Rattle.tce_space.proofs.Boxes.{length-places, get-places, place-lt, is_inside_true}
use Rattle.tce_space.proofs.Tilings.{divided_inside, remainders_inside, joined_back, word_number-lt}
use Rattle.tce_array.specs.declared.form.Form.{Form}
use Rattle.tce_array.specs.declared.form.Form.TheVariants.{One, Narrow, Wide}
use Rattle.tce_base.specs.Word.{word_bytes}
use Rattle.tce_array.specs.Forms.{width, word_in, magic, lead, head, head_len, form_len, tile_of_words, words, form_bytes, IsForm, word_at, cell, Fits}
use Rattle.tce_base.proofs.WordBytes.{length-words}
use Rattle.tce_array.proofs.WordBytes.{word_of_words}

-- pieces of one length, joined
pub length_pieces : {X A : Type 0} (f : X → List A) (m : ℕ) → ((x : X) → length (f x) ≡ m) → (xs : List X) → length (flat_map f xs) ≡ m * length xs
length_pieces f m len [] = omega arith
length_pieces f m len (x ∷ xs) =
    let rest = length_pieces f m len xs in
    let here = len x in
    let both = length-append (f x) (flat_map f xs) in
    omega arith

pub get_pieces : {X A : Type 0} (f : X → List A) (m : ℕ) (d : A) (e : X) → ((x : X) → length (f x) ≡ m) → (xs : List X) (i r : ℕ) → i < length xs → r < m
    → get_or (flat_map f xs) (m * i + r) d ≡ get_or (f (get_or xs i e)) r d
get_pieces f m d e len [] i r h l = absurd (omega arith)
get_pieces f m d e len (x ∷ xs) zero r h l =
    let here : m * 0 + r ≡ r = omega arith in
    let inside : r < length (f x) = omega (arith, len x) in
    ap (λ k. get_or (f x ++ flat_map f xs) k d) here ∙ get_or_append_left (f x) (flat_map f xs) d r inside
get_pieces f m d e len (x ∷ xs) (suc i) r h l =
    let there : m * suc i + r ≡ length (f x) + (m * i + r) = omega (arith, len x) in
    ap (λ k. get_or (f x ++ flat_map f xs) k d) there
    ∙ get_or-append-add (f x) (flat_map f xs) (m * i + r) d
    ∙ get_pieces f m d e len xs i r (omega arith) l

pub length-tile : (s : Tiling) (element : List ℕ → ℕ) (tile : List ℕ) → length (tile_of_words s element tile) ≡ tile_words s
length-tile s element tile = length-map (places s.edges) _ ∙ length-places s.edges

pub length-file_words : (s : Tiling) (element : List ℕ → ℕ) → length (words s element) ≡ padded_words s
length-file_words s element =
    length_pieces (tile_of_words s element) (tile_words s) (length-tile s element) (places (tile_counts s))
    ∙ ap (λ n. tile_words s * n) (length-places (tile_counts s))

-- the word at a place of a tile
pub get-words : (s : Tiling) (element : List ℕ → ℕ) (ts is : List ℕ) → IsInside (tile_counts s) ts → IsInside s.edges is
    → get_or (words s element) (tile_words s * place (tile_counts s) ts + place s.edges is) 0 ≡ (if is_inside s.extents (joined s.edges ts is) then element (joined s.edges ts is) else 0)
get-words s element ts is outer inner =
    let tile : place (tile_counts s) ts < length (places (tile_counts s)) = rw length-places (place-lt (tile_counts s) ts outer) in
    let below : place s.edges is < tile_words s = place-lt s.edges is inner in
    let within : place s.edges is < length (places s.edges) = rw length-places below in
    let value : List ℕ → List ℕ → ℕ = λ us js. if is_inside s.extents (joined s.edges us js) then element (joined s.edges us js) else 0 in
    get_pieces (tile_of_words s element) (tile_words s) 0 [] (length-tile s element) (places (tile_counts s)) (place (tile_counts s) ts) (place s.edges is) tile below
    ∙ ap (λ us. get_or (tile_of_words s element us) (place s.edges is) 0) (get-places (tile_counts s) ts outer)
    ∙ get_or-map (λ js. value ts js) (places s.edges) (place s.edges is) [] 0 within
    ∙ ap (λ js. value ts js) (get-places s.edges is inner)

-- the word of an element
pub word_of_element : (s : Tiling) (element : List ℕ → ℕ) → IsTiling s → (xs : List ℕ) → IsInside s.extents xs → get_or (words s element) (word_number s xs) 0 ≡ element xs
word_of_element s element t xs h =
    let l = t.same_rank in
    let p = t.positive in
    get-words s element (divided s.edges xs) (remainders s.edges xs) (divided_inside s.extents s.edges xs l p h) (remainders_inside s.extents s.edges xs l p h)
    ∙ ap (λ ys. if is_inside s.extents ys then element ys else 0) (joined_back s.extents s.edges xs l h)
    ∙ ap (λ b. if b then element xs else 0) (is_inside_true s.extents xs h)

length-magic : (form : Form) → length (magic form) ≡ 8
length-magic One = refl
length-magic Narrow = refl
length-magic Wide = refl

pub length-head : (form : Form) (s : Tiling) → length (head form s) ≡ head_len form s
length-head form s =
    let numbers = lead form (length s.extents) ++ s.extents ++ s.edges in
    let outer = length-append (magic form) (flat_map (word_bytes 8) numbers) in
    let bytes = length-words 8 numbers in
    let both = length-append (lead form (length s.extents) ++ s.extents) s.edges in
    let first = length-append (lead form (length s.extents)) s.extents in
    let eight = length-magic form in
    omega arith

pub length-form_bytes : (form : Form) (s : Tiling) (element : List ℕ → ℕ) → length (form_bytes form s element) ≡ form_len form s
length-form_bytes form s element =
    length-append (head form s) (flat_map (word_bytes (width form)) (words s element))
    ∙ ap (λ n. n + length (flat_map (word_bytes (width form)) (words s element))) (length-head form s)
    ∙ ap (λ n. head_len form s + n) (length-words (width form) (words s element) ∙ ap (λ n. width form * n) (length-file_words s element))

-- a file of these elements has the form
pub form_bytes_is : (form : Form) (s : Tiling) (element : List ℕ → ℕ) → IsForm form s (form_bytes form s element)
form_bytes_is form s element = record {
  whole = length-form_bytes form s element;
  begins = take_at (head form s) (flat_map (word_bytes (width form)) (words s element)) (head_len form s) (length-head form s);
}

-- what stands behind the head, from a word on
pub drop-form_bytes : (form : Form) (s : Tiling) (element : List ℕ → ℕ) (k : ℕ) → drop (head_len form s + width form * k) (form_bytes form s element) ≡ drop (width form * k) (flat_map (word_bytes (width form)) (words s element))
drop-form_bytes form s element k =
    let all = flat_map (word_bytes (width form)) (words s element) in
    sym (drop-drop (width form * k) (head_len form s) (form_bytes form s element))
    ∙ ap (drop (width form * k)) (drop_at (head form s) all (head_len form s) (length-head form s))

-- a word of the file is that of the list
pub word_of_file : (form : Form) (s : Tiling) (element : List ℕ → ℕ) (k : ℕ) → k < padded_words s → Fits form (get_or (words s element) k 0) → word_at form s (form_bytes form s element) k ≡ get_or (words s element) k 0
word_of_file form s element k h fits =
    let inside : k < length (words s element) = rw length-file_words h in
    ap (word_in form) (drop-form_bytes form s element k)
    ∙ word_of_words form (words s element) k inside fits

-- an element of the file is what was stored
pub cell_of_file : (form : Form) (s : Tiling) (element : List ℕ → ℕ) → IsTiling s → (xs : List ℕ) → IsInside s.extents xs → Fits form (element xs) → cell form s (form_bytes form s element) xs ≡ element xs
cell_of_file form s element t xs h fits =
    let is = word_of_element s element t xs h in
    let stored : Fits form (get_or (words s element) (word_number s xs) 0) = rw is fits in
    word_of_file form s element (word_number s xs) (word_number-lt s xs t.same_rank t.positive h) stored ∙ is
