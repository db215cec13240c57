-- The file of a result as it is made.
use Rattle.std.proofs.Common.{◌≡◌, ℕ, zero, suc, ◌+◌, List, [], ◌∷◌, ◌++◌, length, drop, get_or, replicate, sym, ap, ◌∙◌, subst, arith}
use Rattle.std.specs.List.{flat_map}
use Rattle.std.proofs.lemmas.List.{get_or-replicate, get_or-drop, length-replicate}
use Rattle.tce_outside.specs.Files.{overwritten}
use Rattle.tce_base.specs.Word.{word_bytes}
use Rattle.tce_space.specs.Tiling.{Tiling, padded_words}
use Rattle.tce_array.specs.declared.form.Form.TheVariants.{One}
use Rattle.tce_array.specs.Forms.{head, head_len, lead, words, form_bytes, form_len, word_at, Fits}
use Rattle.tce_array.specs.Files.{AreBytes}
use Rattle.tce_array.proofs.Contents.{word_of_file}
use Rattle.tce_array.proofs.Fitting.{words_fit}
use Rattle.tce_array.proofs.Zeros.{zero_array, zeros_with_head}
use Rattle.tce_array.proofs.Heads.{with_head, completed}
use Rattle.tce_cache.proofs.Bytes.{joined_are, low_first_are}
use Rattle.tce_spec.specs.Specification.{Specification}
use Rattle.tce_spec.specs.Operands.{shape_of}
use Rattle.tce_job.specs.Laws.{IsMade}

words_are_bytes : (ws : List ℕ) → AreBytes (flat_map (word_bytes 8) ws)
unfolding word_bytes
words_are_bytes [] i = omega arith
words_are_bytes (w ∷ ws) i = joined_are (word_bytes 8 w) (flat_map (word_bytes 8) ws) (low_first_are 0 8 w) (words_are_bytes ws) i

magic_bytes : AreBytes (84 ∷ 67 ∷ 65 ∷ 82 ∷ 82 ∷ 65 ∷ 89 ∷ 49 ∷ [])
magic_bytes zero = omega arith
magic_bytes (suc zero) = omega arith
magic_bytes (suc (suc zero)) = omega arith
magic_bytes (suc (suc (suc zero))) = omega arith
magic_bytes (suc (suc (suc (suc zero)))) = omega arith
magic_bytes (suc (suc (suc (suc (suc zero))))) = omega arith
magic_bytes (suc (suc (suc (suc (suc (suc zero)))))) = omega arith
magic_bytes (suc (suc (suc (suc (suc (suc (suc zero))))))) = omega arith
magic_bytes (suc (suc (suc (suc (suc (suc (suc (suc i)))))))) = omega arith

-- each file of the first form is bytes
pub file_bytes : (s : Tiling) (element : List ℕ → ℕ) → AreBytes (form_bytes One s element)
file_bytes s element =
    joined_are (head One s) (flat_map (word_bytes 8) (words s element))
    (joined_are (84 ∷ 67 ∷ 65 ∷ 82 ∷ 82 ∷ 65 ∷ 89 ∷ 49 ∷ []) (flat_map (word_bytes 8) (lead One (length s.extents) ++ s.extents ++ s.edges)) magic_bytes (words_are_bytes (lead One (length s.extents) ++ s.extents ++ s.edges)))
    (words_are_bytes (words s element))

head_bytes : (s : Tiling) → AreBytes (head One s)
head_bytes s =
    joined_are (84 ∷ 67 ∷ 65 ∷ 82 ∷ 82 ∷ 65 ∷ 89 ∷ 49 ∷ []) (flat_map (word_bytes 8) (lead One (length s.extents) ++ s.extents ++ s.edges)) magic_bytes (words_are_bytes (lead One (length s.extents) ++ s.extents ++ s.edges))

-- a file with a head written over it is bytes
pub with_head_bytes : (s : Tiling) (found : List ℕ) → AreBytes found → AreBytes (overwritten found 0 (head One s))
with_head_bytes s found are =
    subst AreBytes (sym (with_head One s found))
    (joined_are (head One s) (drop (head_len One s) found) (head_bytes s) (λ i. omega (arith, get_or-drop (head_len One s) found i 0, are (head_len One s + i))))

zero_bytes : (n : ℕ) → AreBytes (replicate n 0)
zero_bytes zero i = omega arith
zero_bytes (suc n) zero = omega arith
zero_bytes (suc n) (suc i) = zero_bytes n i

pub made_zero : (s : Specification) → IsMade s
made_zero s = record {
  whole = length-replicate (form_len One (shape_of s s.result)) 0;
  are_bytes = zero_bytes (form_len One (shape_of s s.result));
  zero = λ k within.
      let shape : Tiling = shape_of s s.result in
      let none : get_or (words shape (λ _. 0)) k 0 ≡ 0 = ap (λ ws. get_or ws k 0) (zero_array shape) ∙ get_or-replicate (padded_words shape) k 0 0 within in
      let zeros : List ℕ = replicate (form_len One shape) 0 in
      sym ((completed One shape zeros (length-replicate (form_len One shape) 0)).words k)
      ∙ ap (λ bytes. word_at One shape bytes k) (zeros_with_head One shape)
      ∙ word_of_file One shape (λ _. 0) k within (fits_as (get_or (words shape (λ _. 0)) k 0) none) ∙ none;
}
  where
    fits_as : (w : ℕ) → w ≡ 0 → Fits One w
    fits_as w none = (words_fit.eight w (omega arith)).0
