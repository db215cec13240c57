-- The files of the operands' arrays.
use Rattle.std.proofs.Common.{◌≡◌, ◌≢◌, ℕ, ◌+◌, ◌*◌, ◌<◌, length, true, List, [], Option, Some, None, unwrap_or, slice_get, sym, ap, ◌∙◌, subst}
use Rattle.std.specs.Option.{IsSomeAnd}
use Rattle.tce_outside.specs.Files.{Files, file, with_file}
use Rattle.tce_outside.proofs.Files.{without_file-with_file}
use Rattle.tce_outside.proofs.Told.{other_files}
use Rattle.tce_space.specs.Tiling.{Tiling, tile_words, tile_number, place_in_tile}
use Rattle.tce_array.specs.declared.form.Form.{Form}
use Rattle.tce_array.specs.Forms.{form_of, IsForm, IsArray, word_at}
use Rattle.tce_cache.specs.declared.array.ArrayRef.{ArrayRef}
use Rattle.tce_cache.specs.Cache.{State, stored, word_of_tile}
use Rattle.tce_spec.specs.Contraction.{has_tensor}
use Rattle.tce_spec.specs.Specification.{Specification, IsSpecification}
use Rattle.tce_spec.specs.Operands.{shape_of}
use Rattle.tce_job.specs.TensorFiles.{file_of, bytes_in, elements}
use Rattle.tce_job.proofs.Names.{different_files}
use Rattle.tce_job.specs.Opened.{operand_count, form_at, IsOpened, AreOpened}
use Rattle.tce_job.specs.Arrays.{AreArraysOf}
use Rattle.tce_job.specs.Reading.{HoldOperands}
use Rattle.tce_spec.proofs.Seen.{operand_declared}
use Rattle.tce_job.specs.Laws.{IsOperand}
use Rattle.tce_job.proofs.Operands.{is_operand, not_result}

-- a file of this form and shape
abbrev pub HasForm : Form → Tiling → Option (List ℕ) → Type 0
HasForm form shape found = IsSomeAnd found (λ bytes. (form_of bytes ≡ form) × IsForm form shape bytes)

has_form : (shape : Tiling) (form : Form) (found : Option (List ℕ)) → IsSomeAnd found (λ bytes. (form_of bytes ≡ form) × IsArray shape bytes) → HasForm form shape found
has_form shape form None h = h
has_form shape form (Some bytes) h = (h.0, subst (λ f. IsForm f shape bytes) h.0 h.1)

pub hold : (files : Files) (s : Specification) (forms : List Form) (arrays : List ArrayRef) → AreArraysOf s forms arrays → AreOpened files s forms (operand_count s) → HoldOperands files s arrays
hold files s forms arrays listed opened t a used found =
    let is = listed.operands t a used found in
    let at = is_operand s t used in
    let here : IsOpened files s forms t = subst (IsOpened files s forms) at.is (opened at.number at.within) in
    let form = has_form (shape_of s t) (form_at forms t) (file files (file_of s t)) here in
    subst (λ name. HasForm a.form a.shape (file files name)) (sym is.file)
    (subst (λ f. HasForm f a.shape (file files (file_of s t))) (sym is.form) (subst (λ (shape : Tiling). HasForm (form_at forms t) shape (file files (file_of s t))) (sym is.shape) form))

-- an operand's file is not the result's
other_file : (s : Specification) (t : ℕ) → IsSpecification s → has_tensor t s.tree ≡ true → file_of s t ≢ file_of s s.result
other_file s t rules used same =
    let at : IsOperand s t = is_operand s t used in
    let declared : t < length s.declarations.tensors = subst (λ u. u < length s.declarations.tensors) at.is (operand_declared s rules.contraction.leaves_fit at.number at.within) in
    not_result s t rules used (different_files s t s.result rules.declarations declared rules.contraction.result_fits.declared same)

pub made : (files : Files) (s : Specification) (forms : List Form) (arrays : List ArrayRef) (result : List ℕ) → IsSpecification s → AreArraysOf s forms arrays → HoldOperands files s arrays
    → HoldOperands (with_file files (file_of s s.result) result) s arrays
made files s forms arrays result rules listed holds t a used found =
    let is = listed.operands t a used found in
    let name : List ℕ = file_of s s.result in
    let other : a.file.bytes ≢ name = λ same. other_file s t rules used (sym is.file ∙ same) in
    subst (HasForm a.form a.shape) (sym (other_files name a.file.bytes files (with_file files name result) (ap Some (without_file-with_file files name result)) other)) (holds t a used found)

told_form : (form : Form) (shape : Tiling) (found : Option (List ℕ)) → HasForm form shape found → form_of (unwrap_or found []) ≡ form
told_form form shape None h = absurd h
told_form form shape (Some bytes) h = h.0

pub read : (files : Files) (s : Specification) (forms : List Form) (c : State) (t : ℕ) (a : ArrayRef) (coords : List ℕ) → AreArraysOf s forms c.arrays → HoldOperands files s c.arrays
    → has_tensor t s.tree ≡ true → slice_get c.arrays t ≡ Some a
    → stored c files t (tile_number (shape_of s t) coords) (place_in_tile (shape_of s t) coords) ≡ (elements s (bytes_in files s)).cell t coords
read files s forms c t a coords listed holds used found =
    let is = listed.operands t a used found in
    let tile : ℕ = tile_number (shape_of s t) coords in
    let k : ℕ = place_in_tile (shape_of s t) coords in
    let told : form_of (unwrap_or (file files a.file.bytes) []) ≡ a.form = told_form a.form a.shape (file files a.file.bytes) (holds t a used found) in
    ap (λ (o : Option ArrayRef). word_of_tile o files tile k) found
    ∙ ap (λ form. word_at form a.shape (unwrap_or (file files a.file.bytes) []) (tile_words a.shape * tile + k)) (sym told)
    ∙ ap (λ (shape : Tiling). word_at (form_of (unwrap_or (file files a.file.bytes) [])) shape (unwrap_or (file files a.file.bytes) []) (tile_words shape * tile + k)) is.shape
    ∙ ap (λ name. word_at (form_of (unwrap_or (file files name) [])) (shape_of s t) (unwrap_or (file files name) []) (tile_words (shape_of s t) * tile + k)) is.file
