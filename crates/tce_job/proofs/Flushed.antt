-- A finished result in its file.
use Rattle.std.proofs.Common.{◌≡◌, ◌≢◌, ℕ, zero, suc, ◌+◌, ◌*◌, ◌/◌, ◌%◌, ◌<◌, List, [], length, take, Option, Some, None, unwrap_or, slice_get, inl, inr, refl, sym, ap, ◌∙◌, subst, arith}
use Rattle.std.proofs.Math.Nat.{div-add-mod, div-lt_iff_lt-mul}
use Rattle.std.proofs.lemmas.Cmp.{nat_list_cmp_total}
use Rattle.std.specs.Option.{IsSomeAnd, option_map}
use Rattle.std.specs.FinMap.{same_map, slice_cmp-IsAntisymmetric, nat_cmp-IsAntisymmetric}
use Rattle.tce_outside.specs.Files.{Files, file, with_file, overwritten}
use Rattle.tce_outside.proofs.Files.{without_file-with_file, file-with_file}
use Rattle.tce_outside.proofs.Places.{same_name}
use Rattle.tce_outside.proofs.Told.{other_files}
use Rattle.tce_space.specs.Tiling.{Tiling, IsTiling, tile_words, tiles, tile_number, place_in_tile, word_number}
use Rattle.tce_space.proofs.Tilings.{place_in_tile-lt}
use Rattle.tce_array.specs.declared.form.Form.{Form}
use Rattle.tce_array.specs.declared.form.Form.TheVariants.{One}
use Rattle.tce_array.specs.Forms.{word_at, head, head_len, form_len}
use Rattle.tce_array.specs.Files.{AreBytes, IsPadding, IsCompleted}
use Rattle.tce_array.proofs.Heads.{completed}
use Rattle.tce_job.proofs.ResultMade.{with_head_bytes}
use Rattle.tce_cache.specs.declared.array.ArrayRef.{ArrayRef}
use Rattle.tce_cache.specs.Cache.{State, words_of_tile, word_of_tile, stored, current_word}
use Rattle.tce_cache.specs.Touch.{front}
use Rattle.tce_spec.specs.Specification.{Specification, IsSpecification}
use Rattle.tce_spec.specs.Operands.{shape_of}
use Rattle.tce_job.specs.TensorFiles.{file_of}
use Rattle.tce_job.specs.ResultBytes.{result_from, result_bytes, with_result}
use Rattle.tce_job.specs.ResultLaws.{HoldsValues, IsPadded}
use Rattle.tce_job.proofs.Results.{result_tiling, result_told}
use Rattle.tce_job.specs.Finished.{IsFlushed}

-- the length and the head of a file
abbrev pub front_of : Form → Tiling → List ℕ → ℕ × List ℕ
front_of form shape bytes = (length bytes, take (head_len form shape) bytes)

abbrev pub pair_of : Option (ℕ × List ℕ) → ℕ × List ℕ
pair_of None = (0, [])
pair_of (Some pair) = pair

-- a file with the length of an array has it still
same_length : (shape : Tiling) (found : Option (List ℕ)) (bytes : List ℕ) → option_map (front_of One shape) (Some bytes) ≡ option_map (front_of One shape) found
    → IsSomeAnd found (λ old. length old ≡ form_len One shape) → length bytes ≡ form_len One shape
same_length shape None bytes same was = absurd was
same_length shape (Some old) bytes same was = ap (λ o. (pair_of o).0) same ∙ was

-- where a number stands among words in rows
below_rows : (k n m : ℕ) → k < n * m → (k / n < m) × (k % n < n) × (n * (k / n) + k % n ≡ k)
below_rows k n m h =
    let some : 0 < n = positive n m k h in
    (omega (arith, (div-lt_iff_lt-mul {k = n} {x = k} {y = m} some).1 (omega arith)), omega arith, div-add-mod k n)
  where
    positive : (n m k : ℕ) → k < n * m → 0 < n
    positive zero m k h = absurd (omega arith)
    positive (suc n) m k h = omega arith

module _ (s : Specification) (bytes : ℕ → List ℕ) (c : State) (before after : Files) (words : List ℕ) (rules : IsSpecification s) (f : IsFlushed s bytes c before after words) where
  shape : Tiling
  shape = shape_of s s.result

  -- a word of the file is the current word
  is_current : (found : List ℕ) → file after (file_of s s.result) ≡ Some found → (tile k : ℕ) → k < tile_words shape
      → word_at One shape found (tile_words shape * tile + k) ≡ current_word c before words s.result tile k
  unfolding shape
  is_current found here tile k h =
      let array : ArrayRef = f.array in
      let room : k < words_of_tile (slice_get c.arrays s.result) =
      subst (λ (a : Option ArrayRef). k < words_of_tile a) (sym f.numbered) (subst (λ (t : Tiling). k < tile_words t) (sym f.is_result.shape) h) in
      let there : file after array.file.bytes ≡ Some found = ap (file after) f.is_result.file ∙ here in
      let word : stored c after s.result tile k ≡ word_at array.form array.shape found (tile_words array.shape * tile + k) =
      ap (λ (a : Option ArrayRef). word_of_tile a after tile k) f.numbered
      ∙ ap (λ (o : Option (List ℕ)). word_at array.form array.shape (unwrap_or o []) (tile_words array.shape * tile + k)) there in
      sym (word ∙ ap (λ form. word_at form array.shape found (tile_words array.shape * tile + k)) f.is_result.form ∙ ap (λ (t : Tiling). word_at One t found (tile_words t * tile + k)) f.is_result.shape)
      ∙ f.written before refl after refl s.result tile k room

  flushed_file : (found : Option (List ℕ)) → file after (file_of s s.result) ≡ found → IsSomeAnd found AreBytes
      → IsSomeAnd found (λ it. overwritten it 0 (head One (shape_of s s.result)) ≡ result_from s bytes)
  unfolding shape
  flushed_file None here are_bytes = absurd are_bytes
  flushed_file (Some found) here are_bytes =
      let array : ArrayRef = f.array in
      let tiling : IsTiling (shape_of s s.result) = result_tiling s rules in
      let fronts : option_map (front array) (Some found) ≡ option_map (front array) (file before (file_of s s.result)) =
      ap (option_map (front array)) (sym here) ∙ ap (λ name. option_map (front array) (file after name)) (sym f.is_result.file) ∙ f.kept ∙ ap (λ name. option_map (front array) (file before name)) f.is_result.file in
      let as_one : option_map (front_of One (shape_of s s.result)) (Some found) ≡ option_map (front_of One (shape_of s s.result)) (file before (file_of s s.result)) =
      subst (λ t. option_map (front_of One t) (Some found) ≡ option_map (front_of One t) (file before (file_of s s.result))) f.is_result.shape
      (subst (λ form. option_map (front_of form array.shape) (Some found) ≡ option_map (front_of form array.shape) (file before (file_of s s.result))) f.is_result.form fronts) in
      let with_head : List ℕ = overwritten found 0 (head One (shape_of s s.result)) in
      let is : IsCompleted One (shape_of s s.result) found with_head =
      completed One (shape_of s s.result) found (same_length (shape_of s s.result) (file before (file_of s s.result)) found as_one f.was_whole) in
      let holds : HoldsValues s bytes with_head = record {
        array = is.has_form;
        values = λ coords inside.
            is.words (word_number (shape_of s s.result) coords)
            ∙ is_current found here (tile_number (shape_of s s.result) coords) (place_in_tile (shape_of s s.result) coords) (place_in_tile-lt (shape_of s s.result) coords tiling.same_rank tiling.positive inside)
            ∙ f.finished.values coords inside;
      } in
      let padded : IsPadded s with_head = λ k within padding.
      let rows = below_rows k (tile_words (shape_of s s.result)) (tiles (shape_of s s.result)) within in
      let tile : ℕ = k / tile_words (shape_of s s.result) in
      let inner : ℕ = k % tile_words (shape_of s s.result) in
      is.words k
      ∙ ap (word_at One (shape_of s s.result) found) (sym rows.2)
      ∙ is_current found here tile inner rows.1
      ∙ f.finished.padding tile inner rows.0 rows.1 (subst (IsPadding (shape_of s s.result)) (sym rows.2) padding) in
      result_told s bytes with_head rules holds padded (with_head_bytes (shape_of s s.result) found are_bytes)

pub flushed : (s : Specification) (bytes : ℕ → List ℕ) (c : State) (before after : Files) (words : List ℕ) → IsSpecification s → IsFlushed s bytes c before after words
    → IsSomeAnd (file after (file_of s s.result)) (λ it. overwritten it 0 (head One (shape_of s s.result)) ≡ result_from s bytes)
flushed s bytes c before after words rules f = flushed_file s bytes c before after words rules f (file after (file_of s s.result)) refl f.are_bytes

pub whole : (s : Specification) (start after : Files) → ((name : List ℕ) → name ≢ file_of s s.result → file after name ≡ file start name)
    → file after (file_of s s.result) ≡ Some (result_bytes s start) → after ≡ with_result s start
whole s start after others here =
    let name : List ℕ = file_of s s.result in
    let new : List ℕ = result_bytes s start in
    same_map nat_list_cmp_total (slice_cmp-IsAntisymmetric nat_cmp-IsAntisymmetric) after (with_file start name new) (λ q.
    elim (same_name q name) [
      | inl same ↦ ap (file after) same.1 ∙ here ∙ sym (file-with_file start name new) ∙ ap (file (with_file start name new)) (sym same.1)
      | inr other ↦ others q other.1 ∙ sym (other_files name q start (with_file start name new) (ap Some (without_file-with_file start name new)) other.1)
    ])
