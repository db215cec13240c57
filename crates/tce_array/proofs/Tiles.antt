-- The words of one tile in a file.
use Rattle.std.proofs.Common.{◌≡◌, ◌∙◌, ℕ, zero, suc, ◌+◌, ◌*◌, ◌<◌, List, [], ◌∷◌, ◌++◌, length, take, drop, ap, sym, arith, get_or}
use Rattle.std.specs.List.{flat_map}
use Rattle.std.proofs.lemmas.List.{take_at, drop_at, drop-drop}
use Rattle.tce_base.specs.Word.{word_bytes}
use Rattle.tce_base.proofs.WordBytes.{drop-words}
use Rattle.tce_space.specs.Box.{place, places, IsInside}
use Rattle.tce_space.specs.Tiling.{Tiling, tile_counts, tile_words}
use Rattle.tce_space.proofs.Boxes.{length-places, get-places, place-lt}
use Rattle.tce_array.specs.declared.form.Form.{Form}
use Rattle.tce_array.specs.Forms.{width, words, tile_of_words, form_bytes}
use Rattle.tce_array.specs.Files.{bytes_of_run}
use Rattle.tce_array.proofs.Contents.{length-tile, drop-form_bytes}
use Rattle.tce_array.proofs.WordBytes.{take-words}

-- one of many pieces of one length
piece_of : {X A : Type 0} (f : X → List A) (m : ℕ) (e : X) → ((x : X) → length (f x) ≡ m) → (xs : List X) (i : ℕ) → i < length xs → take m (drop (m * i) (flat_map f xs)) ≡ f (get_or xs i e)
piece_of f m e len [] i h = absurd (omega arith)
piece_of f m e len (x ∷ xs) zero h =
    let none : m * 0 ≡ 0 = omega arith in
    ap (λ n. take m (drop n (f x ++ flat_map f xs))) none ∙ take_at (f x) (flat_map f xs) m (len x)
piece_of f m e len (x ∷ xs) (suc i) h =
    let more : m * suc i ≡ m + m * i = omega arith in
    ap (λ n. take m (drop n (f x ++ flat_map f xs))) more
    ∙ ap (take m) (sym (drop-drop (m * i) m (f x ++ flat_map f xs)))
    ∙ ap (λ l. take m (drop (m * i) l)) (drop_at (f x) (flat_map f xs) m (len x))
    ∙ piece_of f m e len xs i (omega arith)

pub tile_together : (form : Form) (s : Tiling) (element : List ℕ → ℕ) (tile : List ℕ) → IsInside (tile_counts s) tile
    → bytes_of_run form s (form_bytes form s element) (tile_words s * place (tile_counts s) tile) (tile_words s) ≡ flat_map (word_bytes (width form)) (tile_of_words s element tile)
tile_together form s element tile h =
    let w : ℕ = width form in
    let m : ℕ = tile_words s in
    let from : ℕ = m * place (tile_counts s) tile in
    let within : place (tile_counts s) tile < length (places (tile_counts s)) = rw length-places (place-lt (tile_counts s) tile h) in
    ap (take (w * m)) (drop-form_bytes form s element from ∙ drop-words w (words s element) from)
    ∙ take-words w (drop from (words s element)) m
    ∙ ap (flat_map (word_bytes w)) (piece_of (tile_of_words s element) m [] (length-tile s element) (places (tile_counts s)) (place (tile_counts s) tile) within)
    ∙ ap (λ ts. flat_map (word_bytes w) (tile_of_words s element ts)) (get-places (tile_counts s) tile h)
