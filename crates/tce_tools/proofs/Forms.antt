-- Elements of array files and flat files, by their own definitions.
use Rattle.std.proofs.Common.{◌≡◌, ℕ, ◌+◌, ◌*◌, List, [], drop, Option, Some, None, unwrap_or, sym, ap, subst, arith}
use Rattle.std.specs.Option.{IsSomeAnd}
use Rattle.tce_base.specs.Word.{word_of_bytes}
use Rattle.tce_space.specs.Box.{place}
use Rattle.tce_space.specs.Tiling.{Tiling, elements}
use Rattle.tce_array.specs.declared.form.Form.{Form}
use Rattle.tce_array.specs.declared.form.Form.TheVariants.{Narrow}
use Rattle.tce_array.specs.Forms.{word_in, form_of, cell, IsForm, IsArray, Fits}
use Rattle.tce_tools.specs.declared.storage.Storage.TheVariants.{Flat, Array}
use Rattle.tce_tools.specs.Flat.{flat_element, array_element}
use Rattle.tce_tools.specs.Storage.{element_in, HasStored}
use Rattle.tce_tools.specs.Answers.{FitBefore}

pub flat_is : (s : Tiling) (bytes xs : List ℕ) → element_in Flat s bytes xs ≡ flat_element s bytes xs
unfolding word_in
flat_is s bytes xs = let there : 0 + 8 * place s.extents xs ≡ 8 * place s.extents xs = omega arith in ap (λ n. word_of_bytes 8 (drop n bytes)) there

-- the array that was opened
abbrev pub IsOpened : Tiling → Form → List ℕ → Type 0
IsOpened s form bytes = (form_of bytes ≡ form) × IsArray s bytes

pub opened_form : (s : Tiling) (form : Form) (found : Option (List ℕ)) → IsSomeAnd found (IsOpened s form) → form_of (unwrap_or found []) ≡ form
opened_form s form None h = absurd h
opened_form s form (Some bytes) h = h.0

pub array_is : (s : Tiling) (form : Form) (bytes xs : List ℕ) → form_of bytes ≡ form → element_in (Array form) s bytes xs ≡ array_element s bytes xs
array_is s form bytes xs is = ap (λ (f : Form). cell f s bytes xs) (sym is)

pub opened_fits : (form wanted : Form) (s : Tiling) (found : Option (List ℕ)) → IsSomeAnd found (IsOpened s form) → (wanted ≡ Narrow → FitBefore wanted s (element_in (Array form) s (unwrap_or found [])) (elements s))
    → IsSomeAnd found (λ bytes. IsArray s bytes × (wanted ≡ Narrow → FitBefore wanted s (array_element s bytes) (elements s)))
opened_fits form wanted s None h fits = absurd h
opened_fits form wanted s (Some bytes) h fits = (h.1, λ narrow xs inside lt. subst (Fits wanted) (array_is s form bytes xs h.0) (fits narrow xs inside lt))

pub array_elements : (s : Tiling) (form : Form) (bytes : List ℕ) → form_of bytes ≡ form → element_in (Array form) s bytes ≡ array_element s bytes
array_elements s form bytes is = ap (λ (f : Form). λ xs. cell f s bytes xs) (sym is)

pub opened_is : (s : Tiling) (form : Form) (found : Option (List ℕ)) → IsSomeAnd found (IsOpened s form) → IsSomeAnd found (IsForm form s)
opened_is s form None h = absurd h
opened_is s form (Some bytes) h = subst (λ (f : Form). IsForm f s bytes) h.0 h.1

-- a file in this form has the length of what is stored in it
pub form_stored : (form : Form) (s : Tiling) (found : Option (List ℕ)) → IsSomeAnd found (IsForm form s) → HasStored (Array form) s found
form_stored form s None h = absurd h
form_stored form s (Some bytes) h = h.whole
