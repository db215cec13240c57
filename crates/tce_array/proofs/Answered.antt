-- What an answer to opening a file rests on: the counts of faults, and what the calls before it told.
use Rattle.std.proofs.Common.{◌≡◌, ◌≢◌, ◌∙◌, ℕ, ◌+◌, ◌≤◌, List, length, Option, Some, None, Ok, Err, take, unwrap_or, [], refl, sym, ap, subst, arith}
use Rattle.std.proofs.lemmas.List.{length-take-le}
use Rattle.std.specs.Option.{IsSomeAnd, option_map}
use Rattle.tce_space.specs.Tiling.{Tiling}
use Rattle.tce_array.specs.declared.form.Form.{Form}
use Rattle.tce_array.specs.declared.fault.ArrayFault.TheVariants.{NoFile, BadLength, BadHeader}
use Rattle.tce_array.specs.Forms.{form_of, form_len, head, head_len, IsArray}
use Rattle.tce_array.specs.Faults.{IsFault, IsDiskFault, DifferFirst}

pub form_is_no_disk_fault : (form : Form) → IsDiskFault (Ok form) → ⊥
form_is_no_disk_fault form e = cc

pub no_file_is_no_disk_fault : IsDiskFault {A = Form} (Err NoFile) → ⊥
no_file_is_no_disk_fault e = cc

pub length_is_no_disk_fault : (len : ℕ) → IsDiskFault {A = Form} (Err (BadLength len)) → ⊥
length_is_no_disk_fault len e = cc

pub header_is_no_disk_fault : (place : ℕ) → IsDiskFault {A = Form} (Err (BadHeader place)) → ⊥
header_is_no_disk_fault place e = cc

-- no length was told
pub is_absent : (found : Option (List ℕ)) → None ≡ option_map length found → found ≡ None
is_absent None e = refl
is_absent (Some bytes) e = cc

-- a length was told
pub is_as_long : (found : Option (List ℕ)) (len : ℕ) → Some len ≡ option_map length found → IsSomeAnd found (λ bytes. length bytes ≡ len)
is_as_long None len e = cc
is_as_long (Some bytes) len e = cc

-- and it is not that of the form
pub has_wrong_length : (s : Tiling) (found : Option (List ℕ)) (len : ℕ) (form : Form) → Some len ≡ option_map length found → IsSomeAnd found (λ bytes. form_of bytes ≡ form)
    → len ≢ form_len form s → IsFault s found (BadLength len)
has_wrong_length s None len form told formed wrong = absurd formed
has_wrong_length s (Some bytes) len form told formed wrong = (is_as_long (Some bytes) len told, λ e. wrong (e ∙ ap (λ f. form_len f s) formed))

-- a file of the form's length has room for the head
pub has_head_part : (s : Tiling) (form : Form) (len n : ℕ) (buffer : List ℕ) → len ≡ form_len form s → n ≡ head_len form s → n ≤ length buffer → (found : Option (List ℕ)) → Some len ≡ option_map length found
    → IsSomeAnd found (λ bytes. 0 + length (take n buffer) ≤ length bytes)
has_head_part s form len n buffer right counted room None told = cc
has_head_part s form len n buffer right counted room (Some bytes) told =
    omega (arith, is_as_long (Some bytes) len told, length-take-le n buffer room, right, counted)

-- the first bytes were read into a part of the buffer
module _ (s : Tiling) (form : Form) (len n : ℕ) (buffer read expected : List ℕ) (right : len ≡ form_len form s) (heads : expected ≡ head form s) (counted : n ≡ head_len form s) (room : n ≤ length buffer) where
  begins : (bytes : List ℕ) → read ≡ take (length (take n buffer)) bytes → read ≡ take (head_len form s) bytes
  begins bytes is = is ∙ ap (λ k. take k bytes) (length-take-le n buffer room ∙ counted)

  pub has_wrong_head : (found : Option (List ℕ)) (place : ℕ) → Some len ≡ option_map length found → IsSomeAnd found (λ bytes. form_of bytes ≡ form)
      → read ≡ take (length (take n buffer)) (unwrap_or found []) → DifferFirst read expected place → IsFault s found (BadHeader place)
  has_wrong_head None place told formed is differ = absurd formed
  has_wrong_head (Some bytes) place told formed is differ = (
    is_as_long (Some bytes) len told ∙ right ∙ ap (λ f. form_len f s) (sym formed),
    subst (λ f. DifferFirst (take (head_len f s) bytes) (head f s) place) (sym formed)
        (subst (λ xs. DifferFirst xs (head form s) place) (begins bytes is) (subst (λ ys. DifferFirst read ys place) heads differ)),
  )

  pub is_array : (found : Option (List ℕ)) → Some len ≡ option_map length found → IsSomeAnd found (λ bytes. form_of bytes ≡ form)
      → read ≡ take (length (take n buffer)) (unwrap_or found []) → read ≡ expected → IsSomeAnd found (λ bytes. (form_of bytes ≡ form) × IsArray s bytes)
  is_array None told formed is same = absurd formed
  is_array (Some bytes) told formed is same = (
    formed,
    record {
      whole = is_as_long (Some bytes) len told ∙ right ∙ ap (λ f. form_len f s) (sym formed);
      begins = subst (λ f. take (head_len f s) bytes ≡ head f s) (sym formed) (sym (begins bytes is) ∙ same ∙ heads);
    },
  )
