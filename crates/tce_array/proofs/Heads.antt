-- Files whose head comes last.
use Rattle.std.proofs.Common.{◌≡◌, ℕ, zero, suc, ◌+◌, ◌*◌, List, ◌++◌, length, take, drop, replicate, get_or, slice_index, Some, inl, inr, refl, sym, ap, ◌∙◌, arith, length-append}
use Rattle.std.proofs.Math.Seq.{take-append_seam, drop-append-add}
use Rattle.std.proofs.lemmas.List.{drop-drop, length-drop, get_or-take, take-append-drop}
use Rattle.tce_outside.specs.Files.{overwritten}
use Rattle.tce_space.specs.Tiling.{Tiling}
use Rattle.tce_array.specs.declared.form.Form.{Form}
use Rattle.tce_array.specs.declared.form.Form.TheVariants.{One, Narrow, Wide}
use Rattle.tce_array.specs.Forms.{width, head, head_len, word_in, word_place, IsForm}
use Rattle.tce_array.specs.Files.{HeadsCompleteFiles, BeginsWithZeros, ArraysDoNotBeginWithZeros, NoHalfFileIsAnArray}
use Rattle.tce_array.proofs.Contents.{length-head}

-- the file after its head was written over it
pub with_head : (form : Form) (s : Tiling) (bytes : List ℕ) → overwritten bytes 0 (head form s) ≡ head form s ++ drop (head_len form s) bytes
with_head form s bytes =
    let behind : 0 + length (head form s) ≡ head_len form s = omega (arith, length-head form s) in
    ap (λ k. head form s ++ drop k bytes) behind

pub completed : HeadsCompleteFiles
completed form s bytes whole = rw (with_head form s bytes) (record {
  has_form = record {
    whole =
        length-append (head form s) (drop (head_len form s) bytes)
        ∙ omega (arith, length-head form s, length-drop (head_len form s) bytes, whole);
    begins = ap (λ n. take n (head form s ++ drop (head_len form s) bytes)) (sym (length-head form s)) ∙ take-append_seam (head form s) (drop (head_len form s) bytes);
  };
  words = λ k. ap (word_in form) (behind_head k);
})
  where
    behind_head : (k : ℕ) → drop (word_place form s k) (head form s ++ drop (head_len form s) bytes) ≡ drop (word_place form s k) bytes
    behind_head k =
        ap (λ n. drop (n + width form * k) (head form s ++ drop (head_len form s) bytes)) (sym (length-head form s))
        ∙ drop-append-add (head form s) (drop (head_len form s) bytes) (width form * k)
        ∙ drop-drop (width form * k) (head_len form s) bytes

-- the first byte of a head is a letter
first_letter : (form : Form) (s : Tiling) → get_or (head form s) 0 0 ≡ 84
first_letter One s = refl
first_letter Narrow s = refl
first_letter Wide s = refl

pub no_zeros : ArraysDoNotBeginWithZeros
no_zeros form s bytes is zeros =
    let letter : get_or bytes 0 0 ≡ 84 =
    sym (get_or-take (head_len form s) bytes 0 0 (omega arith)) ∙ ap (λ xs. get_or xs 0 0) is.begins ∙ first_letter form s in
    omega (arith, letter, zeros 0 (omega arith))

-- zeros begin with zeros, and so does what begins as they do
pub zeros_at : (n i : ℕ) → slice_index (replicate n 0) i ≡ 0
zeros_at zero i = refl
zeros_at (suc n) zero = refl
zeros_at (suc n) (suc i) = zeros_at n i

pub zeros_begin : (bytes : List ℕ) (n : ℕ) → bytes ≡ replicate n 0 → BeginsWithZeros bytes
zeros_begin bytes n is i low = ap (λ xs. slice_index xs i) is ∙ zeros_at n i

pub begins_still : (bytes : List ℕ) (n : ℕ) → take 8 bytes ≡ take 8 (replicate n 0) → BeginsWithZeros bytes
begins_still bytes n same i low =
    sym (get_or-take 8 bytes i 0 low) ∙ ap (λ xs. slice_index xs i) same ∙ get_or-take 8 (replicate n 0) i 0 low ∙ zeros_at n i

-- two files of a form that are the same behind the head are the same
same_behind : (form : Form) (s : Tiling) (bytes whole : List ℕ) → IsForm form s bytes → IsForm form s whole → drop (head_len form s) bytes ≡ drop (head_len form s) whole → bytes ≡ whole
same_behind form s bytes whole is was same =
    sym (take-append-drop (head_len form s) bytes)
    ∙ ap (λ front. front ++ drop (head_len form s) bytes) (is.begins ∙ sym was.begins)
    ∙ ap (λ back. take (head_len form s) whole ++ back) same
    ∙ take-append-drop (head_len form s) whole

pub no_arrays : NoHalfFileIsAnArray
no_arrays form s whole bytes old was is (inl same) = inl same
no_arrays form s whole bytes old was is (inr (inl zeros)) = absurd (no_zeros form s bytes is zeros)
no_arrays form s whole bytes old was is (inr (inr behind)) = inr (same_behind form s bytes whole is was (let same : Some (drop (head_len form s) bytes) ≡ Some (drop (head_len form s) whole) = behind in cc))
