-- Flat files of zeros.
use Rattle.std.proofs.Common.{◌≡◌, ◌∙◌, ℕ, suc, ◌+◌, ◌*◌, List, [], ◌∷◌, ◌++◌, length, map, replicate, drop, sym, refl, ap, arith}
use Rattle.std.specs.List.{flat_map}
use Rattle.std.proofs.Math.Seq.{drop-append_seam}
use Rattle.std.proofs.lemmas.List.{replicate-append-replicate, take-replicate, take-append-drop}
use Rattle.tce_base.specs.Word.{word_bytes}
use Rattle.tce_space.specs.Box.{places}
use Rattle.tce_space.specs.Tiling.{Tiling, elements}
use Rattle.tce_space.proofs.Boxes.{length-places}
use Rattle.tce_array.specs.declared.form.Form.{Form}
use Rattle.tce_array.specs.Forms.{width, head, head_len, form_len}
use Rattle.tce_array.proofs.Heads.{with_head}
use Rattle.tce_array.proofs.Zeros.{zeros_with_head}
use Rattle.tce_tools.specs.declared.storage.Storage.TheVariants.{Array}
use Rattle.tce_tools.specs.Flat.{flat_bytes}
use Rattle.tce_tools.specs.Storage.{words_of, bare_bytes}

pub zero_word : word_bytes 8 0 ≡ replicate 8 0
unfolding word_bytes
zero_word = refl

zero_words : {X : Type 0} (xs : List X) → flat_map (word_bytes 8) (map (λ _. 0) xs) ≡ replicate (8 * length xs) 0
zero_words [] = refl
zero_words (x ∷ xs) =
    let more : 8 + 8 * length xs ≡ 8 * suc (length xs) = omega arith in
    ap (λ l. l ++ flat_map (word_bytes 8) (map (λ _. 0) xs)) zero_word ∙ ap (λ l. replicate 8 0 ++ l) (zero_words xs) ∙ replicate-append-replicate 8 (8 * length xs) 0 ∙ ap (λ n. replicate n 0) more

pub zero_flat : (s : Tiling) (n : ℕ) → n ≡ elements s → replicate (8 * n) 0 ≡ flat_bytes s (λ _. 0)
zero_flat s n is = ap (λ m. replicate (8 * m) 0) (is ∙ sym (length-places s.extents)) ∙ sym (zero_words (places s.extents))

-- array files of zeros
behind_zeros : (form : Form) (s : Tiling) → drop (head_len form s) (replicate (form_len form s) 0) ≡ flat_map (word_bytes (width form)) (words_of (Array form) s (λ _. 0))
behind_zeros form s =
    let zeros : List ℕ = replicate (form_len form s) 0 in
    let rest : List ℕ = flat_map (word_bytes (width form)) (words_of (Array form) s (λ _. 0)) in
    sym (drop-append_seam (head form s) (drop (head_len form s) zeros))
    ∙ ap (drop (length (head form s))) (sym (with_head form s zeros) ∙ zeros_with_head form s)
    ∙ drop-append_seam (head form s) rest

pub zero_form : (form : Form) (s : Tiling) → replicate (form_len form s) 0 ≡ bare_bytes (Array form) s (λ _. 0)
zero_form form s =
    sym (take-append-drop (head_len form s) (replicate (form_len form s) 0))
    ∙ ap (λ l. l ++ drop (head_len form s) (replicate (form_len form s) 0)) (take-replicate (head_len form s) (form_len form s) 0 (omega arith))
    ∙ ap (λ l. replicate (head_len form s) 0 ++ l) (behind_zeros form s)
